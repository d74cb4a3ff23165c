use Rattle.ld_names.proofs.Trim.{name-is, normal_of-again}
use Rattle.ld_names.proofs.laws.name_law.Goals as goal

pub returns : goal.returns
returns c = record { again = normal_of-again; names = name-is }
