use Rattle.ld_colour.proofs.Lawful.{lawful}
use Rattle.ld_colour.proofs.laws.lawful_colours.Goals as goal

pub returns : goal.returns
returns c = lawful
