use Rattle.std.proofs.Common.{◌≡◌, ◌+◌, ◌++◌, sym, ◌∙◌, ap, arith, suc, None}
use Rattle.std.proofs.lemmas.Option.{slice_get_within}
use Rattle.ld_texts.specs.Known.{file_at, lines_at}
use Rattle.ld_texts.specs.Reach.{lines_in}
use Rattle.ld_engine.specs.Going.{Passed, Steps, file_left, line_step}
use Rattle.ld_engine.proofs.Gone.{append-grows, text-done, text-step, text-wants}
use Rattle.ld_engine.proofs.going.Going.pass_text.Goals as goal

pub returns-in-Some-2-clause-goes : goal.returns-in-Some-2-clause-goes
returns-in-Some-2-clause-goes c =
    text-wants c.learning_law.ensures c.args.texts.now.known c.args.id.0 c.requires.known c.in-Some.file.now (sym c.in-Some.ensures) c.args.self.now c.loop-line.self c.loop-line.invariant.rest c.in-Some-next_line.line.now (sym c.in-Some-next_line.ensures.line) c.pass_line.new.self c.in-Some-2.wanted (rw c.in-Some-2.is at c.in_ok-wanted.ensures.steps) c.in_ok-wanted.ensures.lines

pub loop-line-smaller : goal.loop-line-smaller
loop-line-smaller c =
    let within = slice_get_within (lines_in (lines_at c.args.texts.now.known c.args.id.0)) c.loop-line.self.lines c.in-Some-next_line.line.now (sym c.in-Some-next_line.ensures.line) in
    let lines = ap (λ (p : Passed). p.lines) c.end_line.ensures in
    let same = c.in_ok-wanted.ensures.lines in
    omega arith

pub loop-line-preserved : goal.loop-line-preserved
loop-line-preserved c =
    let known = c.args.texts.now.known in
    let steps : Steps known (line_step c.in-Some.file.now.folder c.in-Some-next_line.line.now c.loop-line.self.texts) c.loop-line.self.texts c.pass_line.new.self.texts None = rw c.in_default-2.is at c.in_ok-wanted.ensures.steps in
    let after : c.end_line.new.self ≡ record c.pass_line.new.self { lines = c.pass_line.new.self.lines + 1 } = c.end_line.ensures in
    let texts = ap (λ (p : Passed). p.texts) after in
    let next : suc c.loop-line.self.lines ≡ c.pass_line.new.self.lines + 1 = let same = c.in_ok-wanted.ensures.lines in omega arith in
    rw after (record {
      inside = c.in_ok-wanted.ensures.inside;
      grows = append-grows _ _ _ c.loop-line.invariant.grows c.in_ok-wanted.ensures.grows;
      place = c.in_ok-wanted.ensures.place ∙ c.loop-line.invariant.place;
      rest = λ more. text-step c.learning_law.ensures known c.args.id.0 c.requires.known c.in-Some.file.now (sym c.in-Some.ensures) c.args.self.now c.loop-line.self c.loop-line.invariant.rest c.in-Some-next_line.line.now (sym c.in-Some-next_line.ensures.line) c.pass_line.new.self steps more
          ∙ ap (λ n. file_left (known ++ more) c.pass_line.new.self.texts n (file_at (known ++ more) c.args.id.0) (lines_at (known ++ more) c.args.id.0)) next;
    })

pub returns-clause-goes : goal.returns-clause-goes
returns-clause-goes c =
    text-done c.learning_law.ensures c.args.texts.now.known c.args.id.0 c.requires.known c.in-Some.file.now (sym c.in-Some.ensures) c.args.self.now c.loop-line.self c.loop-line.invariant.rest (sym c.in_default-next_line.ensures.line)
