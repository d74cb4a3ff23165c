use Rattle.ld_entry.proofs.Computed as computed
use Rattle.ld_entry.proofs.tests.models.Goals as goal

pub returns : goal.returns
returns c = record { first_of_an_ordinary_model = computed.first_of_an_ordinary_model; ends_of_an_ordinary_model = computed.ends_of_an_ordinary_model; chain_of64 = computed.chain_of64; chain_of65 = computed.chain_of65 }
