use Rattle.ld_line.proofs.Drawn.{draw_again, draw_words_are}
use Rattle.ld_line.proofs.laws.draw_law.Goals as goal

pub returns : goal.returns
returns c = record { words = draw_words_are c.print_law.ensures; line = draw_again c.print_law.ensures }
