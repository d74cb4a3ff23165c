use Rattle.ld_graph.proofs.Turned.{items_laws}
use Rattle.ld_graph.proofs.laws.items_law.Goals as goal

pub returns : goal.returns
returns c = items_laws c.number_law.ensures c.learning_law.ensures
