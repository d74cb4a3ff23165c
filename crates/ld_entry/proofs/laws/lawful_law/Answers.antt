use Rattle.ld_entry.proofs.Lawfulness.{lawful}
use Rattle.ld_entry.proofs.laws.lawful_law.Goals as goal

pub returns : goal.returns
returns c = lawful c.lawful_colours.ensures
