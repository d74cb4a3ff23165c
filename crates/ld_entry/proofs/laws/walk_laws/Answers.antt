use Rattle.ld_entry.proofs.Heights.{walks}
use Rattle.ld_entry.proofs.laws.walk_laws.Goals as goal

pub returns : goal.returns
returns c = walks
