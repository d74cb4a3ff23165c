use Rattle.ld_entry.proofs.Reached.{reaches}
use Rattle.ld_entry.proofs.laws.reached_law.Goals as goal

pub returns : goal.returns
returns c = reaches c.number_law.ensures
