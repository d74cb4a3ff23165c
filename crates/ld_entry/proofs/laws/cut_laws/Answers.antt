use Rattle.ld_entry.proofs.Cuts.{cuts}
use Rattle.ld_entry.proofs.laws.cut_laws.Goals as goal

pub returns : goal.returns
returns c = cuts
