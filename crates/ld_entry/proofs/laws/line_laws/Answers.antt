use Rattle.ld_entry.proofs.Lines.{lines}
use Rattle.ld_entry.proofs.laws.line_laws.Goals as goal

pub returns : goal.returns
returns c = lines c.state_laws.ensures
