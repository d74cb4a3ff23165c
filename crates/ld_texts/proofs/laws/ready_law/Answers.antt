use Rattle.ld_texts.proofs.Learnt.{ready_stays}
use Rattle.ld_texts.proofs.laws.ready_law.Goals as goal

pub returns : goal.returns
returns c = ready_stays
