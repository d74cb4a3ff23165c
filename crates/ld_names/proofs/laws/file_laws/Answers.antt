use Rattle.ld_names.proofs.Same.{file_equality}
use Rattle.ld_names.proofs.laws.file_laws.Goals as goal

pub returns-clause-same : goal.returns-clause-same
returns-clause-same c = file_equality
