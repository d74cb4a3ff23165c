use Rattle.std.proofs.Common.{◌≡◌, ◌∙◌, ap, subst, sym}
use Rattle.ld_graph.specs.Agreeing.{Edits, HasDirt, IsAfter, Learns}
use Rattle.ld_graph.specs.Inside.Naming.{change_in}
use Rattle.ld_graph.proofs.Readied.{edit_is, unknown_is}
use Rattle.ld_graph.proofs.graph.Graph.commit.Goals as goal

-- src/ready.rt:118:17
pub learn-requires-clause-unknown : goal.learn-requires-clause-unknown
learn-requires-clause-unknown c =
    let ready : c.args.ready ≡ Learns c.in-Learn.learning = sym c.ready.view_is ∙ ap change_in c.in-Learn.is in
    rw c.in-Learn.learning-is (unknown_is c.items_law.ensures c.args.self.now c.in-Learn.learning c.args.texts.now (subst (λ change. IsAfter c.args.self.now change c.args.texts.now) ready c.requires.after))

-- src/ready.rt:121:40
pub edit-requires-clause-apt : goal.edit-requires-clause-apt
edit-requires-clause-apt c =
    let ready : c.args.ready ≡ Edits c.in-Edit.editing = sym c.ready.view_is ∙ ap change_in c.in-Edit.is in
    rw c.in-Edit.editing-is (edit_is c.items_law.ensures c.args.self.now c.in-Edit.editing c.args.texts.now (subst (λ change. IsAfter c.args.self.now change c.args.texts.now) ready c.requires.after))

-- src/ready.rt:107:5
pub returns-in-Edit-clause-dirt : goal.returns-in-Edit-clause-dirt
returns-in-Edit-clause-dirt c =
    let ready : c.args.ready ≡ Edits c.in-Edit.editing = sym c.ready.view_is ∙ ap change_in c.in-Edit.is in
    subst (λ change. HasDirt c.args.self.now c.edit.new.self change c.edit.result) (sym ready) (rw c.in-Edit.editing-is at c.edit.ensures.dirt)
