use Rattle.ld_engine.proofs.Mains.{main-is-there}
use Rattle.ld_engine.proofs.laws.main_law.Goals as goal

pub returns : goal.returns
returns c = main-is-there c.block_laws.ensures.stands c.file_laws.ensures.same c.known_law.ensures.keeps
