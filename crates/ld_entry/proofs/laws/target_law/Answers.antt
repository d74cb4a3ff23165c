use Rattle.ld_entry.proofs.Leading.{leads}
use Rattle.ld_entry.proofs.laws.target_law.Goals as goal

pub returns : goal.returns
returns c = leads c.lookup_law.ensures.finds c.lookup_law.ensures.stays c.file_laws.ensures.same c.number_law.ensures
