use Rattle.ld_engine.proofs.Stepped.{steps}
use Rattle.ld_engine.proofs.laws.steps_law.Goals as goal

pub returns : goal.returns
returns c = steps c.count_law.ensures c.part_law.ensures
