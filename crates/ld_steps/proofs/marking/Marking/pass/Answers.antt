use Rattle.std.proofs.Common.{◌+◌, ◌||◌, ◌∙◌, Result, Ok, Err, refl, ap, sym, arith}
use Rattle.std.specs.Result.{OnOk}
use Rattle.ld_steps.proofs.Marked.{line-passed, other-line, step-passed}
use Rattle.ld_steps.specs.Inside.Marking.{EndsStep}
use Rattle.ld_steps.specs.Steps.{is_step_line}
use Rattle.ld_steps.specs.View.{rotated, viewed}
use Rattle.ld_steps.specs.declared.marking.Marking.{Marking}
use Rattle.ld_steps.proofs.marking.Marking.pass.Goals as goal

-- what an ended step means where it could be ended
ended : {A E P Q : Type 0} (result : Result A E) → (P → Q) → OnOk result P → OnOk result Q
ended (Ok value) go is = go is
ended (Err e) go is = tt

pub returns-in-Step-clause-marks : goal.returns-in-Step-clause-marks
returns-in-Step-clause-marks c =
    let old = c.args.self.now in
    let mid : Marking = record old { passed = old.passed + 1 } in
    ended c.end_step.result (λ (ends : EndsStep old.view.items mid c.end_step.new.self). step-passed c.args.line.now old mid c.end_step.new.self old.view.items (ap is_step_line c.in-Step.is) refl refl refl (ap (λ line. viewed old.view.items line) (sym c.in-Step.is)) ends) c.end_step.ensures

pub returns-in-Rot-clause-marks : goal.returns-in-Rot-clause-marks
returns-in-Rot-clause-marks c =
    let old = c.args.self.now in
    let mid : Marking = record old { passed = old.passed + 1 } in
    let view = rotated c.in-Rot.word old.view.items in
    ended c.end_rotated.result (λ (ends : EndsStep view mid c.end_rotated.new.self). step-passed c.args.line.now old mid c.end_rotated.new.self view (ap is_step_line c.in-Rot.is) refl refl refl (ap (λ line. viewed old.view.items line) (sym c.in-Rot.is)) ends) c.end_rotated.ensures

pub returns-in_default : goal.returns-in_default
returns-in_default c = record {
  passed = refl;
  ended = omega arith;
  marks = λ lines at marked. line-passed c.args.line.now c.args.self.now _ (other-line c.args.line.now c.in_default.not-Step c.in_default.not-Rot) refl refl refl refl (ap (λ b. c.args.self.now.drawn || b) c.shows.ensures) lines at marked;
}
