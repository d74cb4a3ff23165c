use Rattle.std.proofs.Common.{◌∙◌, ap, rules}
use Rattle.ld_graph.specs.Agreeing.{Edits}
use Rattle.ld_graph.proofs.Readied.{editing_is}
use Rattle.ld_graph.proofs.graph.Graph.prepare_edited.Goals as goal

-- src/ready.rt:82:5
pub returns-clause-change : goal.returns-clause-change
returns-clause-change c = ap Edits c.in_ok-editing.ensures.editing ∙ editing_is c.items_law.ensures c.args.texts.now.known c.args.edit.now c.requires.known _ _ _ _ (search rules) (search rules) (search rules) (search rules)
