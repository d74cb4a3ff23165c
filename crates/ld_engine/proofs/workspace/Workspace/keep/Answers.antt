use Rattle.std.proofs.Common.{sym, subst, Err}
use Rattle.ld_engine.specs.Keeping.{Keeps, refused_by}
use Rattle.ld_engine.specs.Workspace.{Workspace}
use Rattle.ld_engine.proofs.Learned.{keeps-refused}
use Rattle.ld_engine.proofs.workspace.Workspace.keep.Goals as goal

pub returns-clause-keeps : goal.returns-clause-keeps
returns-clause-keeps c =
    let inside = c.self.inside in
    let kept = keeps-refused inside.limits inside.texts.known c.prepare_file.new.self.known c.args.file c.args.text c.in-Err.error inside.texts.max_files inside.texts.max_weight c.self.invariant.files c.self.invariant.weight c.in-Err.ensures.same.known c.in-Err.ensures.result in
    subst (λ r. Keeps c.args.self.now.limits c.args.self.now.texts.known c.prepare_file.new.self.known c.args.file c.args.text (Err r)) (sym c.refused_by.ensures) (subst (λ (w : Workspace). Keeps w.limits w.texts.known c.prepare_file.new.self.known c.args.file c.args.text (Err (refused_by c.in-Err.error))) c.self.view_is kept)
