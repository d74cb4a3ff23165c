use Rattle.ld_entry.proofs.Computed as computed
use Rattle.ld_entry.proofs.tests.kept_expansions.Goals as goal

pub returns : goal.returns
returns c = record { heights_of_models = computed.heights_of_models; at_the_depth = computed.at_the_depth; above_the_depth = computed.above_the_depth; cycle_is_high = computed.cycle_is_high; in_the_main_colour = computed.in_the_main_colour; end_behind_an_outer_range = computed.end_behind_an_outer_range; one_entry_more_than_allowed = computed.one_entry_more_than_allowed; as_many_entries_as_allowed = computed.as_many_entries_as_allowed }
