use Rattle.ld_entry.proofs.Counts.{counts}
use Rattle.ld_entry.proofs.laws.count_law.Goals as goal

pub returns : goal.returns
returns c = counts
