use Rattle.ld_bfc.proofs.States.{quiet_line}
use Rattle.ld_bfc.proofs.laws.quiet_line_law.Goals as goal

pub returns : goal.returns
returns c = quiet_line
