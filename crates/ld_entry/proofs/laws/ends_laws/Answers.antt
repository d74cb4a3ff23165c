use Rattle.ld_entry.proofs.Ends.{ends}
use Rattle.ld_entry.proofs.laws.ends_laws.Goals as goal

pub returns : goal.returns
returns c = ends
