use Rattle.ld_entry.proofs.Links.{tints}
use Rattle.ld_entry.proofs.laws.tint_law.Goals as goal

pub returns : goal.returns
returns c = tints c.under_laws.ensures c.with_laws.ensures
