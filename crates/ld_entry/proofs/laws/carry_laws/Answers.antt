use Rattle.ld_entry.proofs.Action.{carries}
use Rattle.ld_entry.proofs.laws.carry_laws.Goals as goal

pub returns : goal.returns
returns c = carries c.under_laws.ensures c.with_laws.ensures
