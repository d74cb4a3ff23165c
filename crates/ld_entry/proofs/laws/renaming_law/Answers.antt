use Rattle.ld_entry.proofs.Renaming.{renames}
use Rattle.ld_entry.proofs.laws.renaming_law.Goals as goal

pub returns : goal.returns
returns c = renames
