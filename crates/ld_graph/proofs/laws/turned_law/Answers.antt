use Rattle.ld_graph.proofs.Appeared.{edits_turn}
use Rattle.ld_graph.proofs.laws.turned_law.Goals as goal

pub returns : goal.returns
returns c = edits_turn c.number_law.ensures c.file_laws.ensures.same c.items_law.ensures c.edit_law.ensures
