use Rattle.ld_entry.proofs.Deep.{deep}
use Rattle.ld_entry.proofs.Lines.{lines}
use Rattle.ld_entry.proofs.laws.depth_law.Goals as goal

pub returns : goal.returns
returns c = deep (lines c.state_laws.ensures)
