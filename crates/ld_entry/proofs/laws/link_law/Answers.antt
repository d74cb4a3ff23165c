use Rattle.ld_entry.proofs.Links.{linked}
use Rattle.ld_entry.proofs.laws.link_law.Goals as goal

pub returns : goal.returns
returns c = linked c.under_laws.ensures c.with_laws.ensures
