use Rattle.std.proofs.Common.{refl}
use Rattle.ld_colour.specs.Colour.{colour_of}
use Rattle.ld_entry.proofs.tests.colours.colours_by_definition.Goals as goal

pub returns-clause-words : goal.returns-clause-words
unfolding colour_of
returns-clause-words c = refl
