use Rattle.ld_entry.proofs.Found.{founds}
use Rattle.ld_entry.proofs.laws.found_law.Goals as goal

pub returns : goal.returns
returns c = founds c.lookup_law.ensures.finds c.file_laws.ensures.same
