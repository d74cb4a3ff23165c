use Rattle.ld_texts.proofs.Places.{lines_agree}
use Rattle.ld_texts.proofs.laws.line_law.Goals as goal

pub returns : goal.returns
returns c = lines_agree
