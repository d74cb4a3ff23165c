use Rattle.ld_names.proofs.Finding.{documents_apart, find_stays, finds_exactly, nothing_unknown}
use Rattle.ld_names.proofs.laws.lookup_law.Goals as goal

pub returns : goal.returns
returns c = record { finds = finds_exactly; stays = find_stays; documents = documents_apart; standing = nothing_unknown }
