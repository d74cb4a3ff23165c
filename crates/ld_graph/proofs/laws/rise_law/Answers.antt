use Rattle.ld_graph.proofs.More.{heights_rise}
use Rattle.ld_graph.proofs.laws.rise_law.Goals as goal

pub returns : goal.returns
returns c = heights_rise c.file_laws.ensures.same
