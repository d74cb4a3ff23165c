use Rattle.ld_entry.proofs.Heights.{levels}
use Rattle.ld_entry.proofs.laws.height_laws.Goals as goal

pub returns : goal.returns
returns c = levels
