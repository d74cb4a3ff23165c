use Rattle.ld_graph.proofs.Dirt.{dirt_is_least, dirt_is_one, others_stay}
use Rattle.ld_graph.proofs.laws.dirt_law.Goals as goal

pub returns : goal.returns
returns c = record {
  one = dirt_is_one c.file_laws.ensures.same;
  least = dirt_is_least c.file_laws.ensures.same;
  others = others_stay c.file_laws.ensures.same;
}
