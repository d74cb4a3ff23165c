use Rattle.ld_steps.proofs.Ranges.{parts}
use Rattle.ld_steps.proofs.laws.part_law.Goals as goal

pub returns : goal.returns
returns c = parts
