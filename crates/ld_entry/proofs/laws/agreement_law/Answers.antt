use Rattle.ld_entry.proofs.Agreement.{agrees}
use Rattle.ld_entry.proofs.laws.agreement_law.Goals as goal

pub returns : goal.returns
returns c = agrees
