use Rattle.ld_line.proofs.Colours.{decimal_again, decimal_is_word, direct_again, direct_is_word, number_again}
use Rattle.ld_line.proofs.laws.colour_law.Goals as goal

pub returns : goal.returns
returns c = record { decimal_word = decimal_is_word; decimal_colour = decimal_again; decimal_read = number_again; direct_word = direct_is_word; direct_colour = direct_again }
