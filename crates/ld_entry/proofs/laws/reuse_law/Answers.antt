use Rattle.ld_entry.proofs.Reuse.{reuses}
use Rattle.ld_entry.proofs.laws.reuse_law.Goals as goal

pub returns : goal.returns
returns c = reuses c.under_laws.ensures c.with_laws.ensures
