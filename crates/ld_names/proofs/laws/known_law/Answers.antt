use Rattle.ld_names.proofs.Learnt.{learning_adds, learning_keeps, learning_stays}
use Rattle.ld_names.proofs.laws.known_law.Goals as goal

pub returns : goal.returns
returns c = record { adds = learning_adds; keeps = learning_keeps; stays = learning_stays }
