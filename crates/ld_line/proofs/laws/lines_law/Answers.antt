use Rattle.ld_line.proofs.Ends.{lines_back, lines_of_one_line, spaced_is_one_line}
use Rattle.ld_line.proofs.laws.lines_law.Goals as goal

pub returns : goal.returns
returns c = record { back = lines_back; spaced = spaced_is_one_line; one_line = lines_of_one_line }
