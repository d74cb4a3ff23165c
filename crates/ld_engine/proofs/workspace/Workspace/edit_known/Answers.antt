use Rattle.std.proofs.Common.{sym, subst, Err}
use Rattle.ld_texts.specs.Editing.{edit_change}
use Rattle.ld_engine.specs.Editing.{EditsKnown, edit_refused}
use Rattle.ld_engine.specs.Workspace.{Workspace}
use Rattle.ld_engine.proofs.Edits.{edit-refused}
use Rattle.ld_engine.proofs.workspace.Workspace.edit_known.Goals as goal

pub returns-in-Err-clause-edits : goal.returns-in-Err-clause-edits
returns-in-Err-clause-edits c =
    let inside = c.self.inside in
    let refused = edit-refused inside.limits inside.texts.known c.apply.new.self.known c.args.edit.now c.in-Err.error inside.texts.max_weight (edit_change inside.texts.known c.args.edit.now) c.self.invariant.weight c.in-Err.ensures.same.known c.in-Err.ensures.result in
    subst (λ e. EditsKnown c.args.self.now.limits c.args.edit.now c.args.self.now.texts.known c.apply.new.self.known (Err e)) (sym c.refused_by.ensures) (subst (λ (w : Workspace). EditsKnown w.limits c.args.edit.now w.texts.known c.apply.new.self.known (Err (edit_refused c.in-Err.error))) c.self.view_is refused)
