use Rattle.ld_entry.proofs.Ways.{ways}
use Rattle.ld_entry.proofs.laws.way_law.Goals as goal

pub returns : goal.returns
returns c = ways
