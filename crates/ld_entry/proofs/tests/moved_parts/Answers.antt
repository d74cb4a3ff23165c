use Rattle.ld_entry.proofs.Computed as computed
use Rattle.ld_entry.proofs.tests.moved_parts.Goals as goal

pub returns : goal.returns
returns c = record { moved_part = computed.moved_part; targets_over_walks = computed.targets_over_walks; no_targets = computed.no_targets; moved_cycle = computed.moved_cycle; moves_in_a_cycle = computed.moves_in_a_cycle; moves_of64 = computed.moves_of64; moves_of65 = computed.moves_of65 }
