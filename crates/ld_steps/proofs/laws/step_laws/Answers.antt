use Rattle.ld_steps.proofs.Following.{steps}
use Rattle.ld_steps.proofs.laws.step_laws.Goals as goal

pub returns : goal.returns
returns c = steps
