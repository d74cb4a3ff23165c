use Rattle.ld_engine.proofs.Missing.{found-unless-absent}
use Rattle.ld_engine.proofs.laws.missing_law.Goals as goal

pub returns : goal.returns
returns c = found-unless-absent c.number_law.ensures c.lookup_law.ensures.finds c.lookup_law.ensures.stays
