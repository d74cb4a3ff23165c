use Rattle.ld_cmd.proofs.SameSaid.{says-the-same}
use Rattle.ld_cmd.proofs.laws.query_law.Goals as goal

pub returns : goal.returns
returns c = says-the-same c.first_law.ensures c.main_law.ensures
