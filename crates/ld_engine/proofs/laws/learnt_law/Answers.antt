use Rattle.ld_engine.proofs.Standing.{learning-stands}
use Rattle.ld_engine.proofs.laws.learnt_law.Goals as goal

pub returns : goal.returns
returns c = learning-stands c.number_law.ensures c.lookup_law.ensures.finds c.known_law.ensures.stays
