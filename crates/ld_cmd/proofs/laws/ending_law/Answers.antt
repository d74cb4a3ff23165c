use Rattle.ld_cmd.proofs.Ended.{ends-by-faults}
use Rattle.ld_cmd.proofs.laws.ending_law.Goals as goal

pub returns : goal.returns
returns c = ends-by-faults
