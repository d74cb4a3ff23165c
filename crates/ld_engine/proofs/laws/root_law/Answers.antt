use Rattle.ld_engine.proofs.Settled.{stands}
use Rattle.ld_engine.proofs.laws.root_law.Goals as goal

pub returns : goal.returns
returns c = stands c.number_law.ensures c.standing_law.ensures
