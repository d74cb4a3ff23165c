use Rattle.ld_graph.proofs.Heights.{heights_are_one}
use Rattle.ld_graph.proofs.laws.height_law.Goals as goal

pub returns : goal.returns
returns c = heights_are_one
