use Rattle.ld_entry.proofs.Action.{acted}
use Rattle.ld_entry.proofs.laws.action_law.Goals as goal

pub returns : goal.returns
returns c = acted c.under_laws.ensures c.with_laws.ensures
