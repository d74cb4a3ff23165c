use Rattle.ld_engine.proofs.Roots.{told-answer}
use Rattle.ld_engine.proofs.workspace.Workspace.answer.Goals as goal

pub returns-in-Ok-clause-told : goal.returns-in-Ok-clause-told
returns-in-Ok-clause-told g c =
    told-answer c.args.self.now.limits c.learn_for.new.self.limits c.args.root.now c.args.colour c.args.self.now.texts.known c.learn_for.new.self.texts.known (g.S.Shelf.files c.args.shelf.now) c.answer_known.result c.in-Ok.ensures.learnt.nothing_wanted c.answer_known.ensures c.in-Ok.ensures.told
