use Rattle.ld_bfc.proofs.States.{states}
use Rattle.ld_bfc.proofs.laws.state_laws.Goals as goal

pub returns : goal.returns
returns c = states
