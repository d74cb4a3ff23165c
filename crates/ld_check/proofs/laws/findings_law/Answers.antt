use Rattle.ld_check.proofs.Past.{nothing_behind}
use Rattle.ld_check.proofs.laws.findings_law.Goals as goal

pub returns : goal.returns
returns c = nothing_behind
