use Rattle.std.proofs.Common.{◌≡◌, Some, subst}
use Rattle.std.specs.Prelude.{IfSome}
use Rattle.ld_engine.specs.Keeping.{Tells}
use Rattle.ld_engine.specs.Learning.{Wanting}
use Rattle.ld_engine.proofs.workspace.Workspace.learn_copy.Goals as goal

pub returns-clause-told : goal.returns-clause-told
returns-clause-told g c =
    let known = c.args.self.now.texts.known in
    subst (λ f. IfSome (g.S.Shelf.files c.args.shelf.now) (λ files. (wants : Wanting) → wants known ≡ Some f → Tells c.args.self.now.limits files wants known c.learn_file.new.self.texts.known c.learn_file.result)) c.in_ok-file.ensures c.learn_file.ensures.told
