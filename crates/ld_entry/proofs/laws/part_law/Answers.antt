use Rattle.ld_entry.proofs.Deep.{parts}
use Rattle.ld_entry.proofs.laws.part_law.Goals as goal

pub returns : goal.returns
returns c = parts
