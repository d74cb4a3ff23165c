use Rattle.ld_entry.proofs.LineEnds.{line-ends}
use Rattle.ld_entry.proofs.laws.line_ends_law.Goals as goal

pub returns : goal.returns
returns c = line-ends c.under_laws.ensures c.with_laws.ensures
