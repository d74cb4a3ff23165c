use Rattle.ld_texts.proofs.Places.{numbers_agree}
use Rattle.ld_texts.proofs.laws.number_law.Goals as goal

pub returns : goal.returns
returns c = numbers_agree c.file_laws.ensures.same
