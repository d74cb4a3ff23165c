use Rattle.ld_entry.proofs.Standing.{stands}
use Rattle.ld_entry.proofs.laws.standing_law.Goals as goal

pub returns : goal.returns
returns c = stands c.lookup_law.ensures.finds c.lookup_law.ensures.stays c.file_laws.ensures.same
