use Rattle.ld_engine.proofs.First.{main-is-first}
use Rattle.ld_engine.proofs.laws.first_law.Goals as goal

pub returns : goal.returns
returns c = main-is-first c.block_laws.ensures.stands c.file_laws.ensures.same c.learning_law.ensures c.edit_law.ensures
