use Rattle.ld_entry.proofs.Heights.{lowers}
use Rattle.ld_entry.proofs.laws.lower_law.Goals as goal

pub returns : goal.returns
returns c = lowers
