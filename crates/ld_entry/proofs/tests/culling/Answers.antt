use Rattle.ld_entry.proofs.Computed as computed
use Rattle.ld_entry.proofs.tests.culling.Goals as goal

pub returns : goal.returns
returns c = record { invertnext_and_mirror = computed.invertnext_and_mirror; mirror_alone = computed.mirror_alone; certification_passed = computed.certification_passed; certification_stopped = computed.certification_stopped; certification_refused = computed.certification_refused; clip_and_winding = computed.clip_and_winding }
