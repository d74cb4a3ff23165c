use Rattle.ld_texts.proofs.Learnt.{learns}
use Rattle.ld_texts.proofs.laws.learning_law.Goals as goal

pub returns : goal.returns
returns c = learns c.file_laws.ensures.same
