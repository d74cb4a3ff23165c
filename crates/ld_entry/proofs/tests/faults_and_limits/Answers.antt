use Rattle.ld_entry.proofs.Computed as computed
use Rattle.ld_entry.proofs.tests.faults_and_limits.Goals as goal

pub returns : goal.returns
returns c = record { cycle_from_the_first = computed.cycle_from_the_first; cycle_from_the_second = computed.cycle_from_the_second; reference_to_itself = computed.reference_to_itself; earlier_fault_from_outside = computed.earlier_fault_from_outside; no_fault_from_outside = computed.no_fault_from_outside; one_too_many = computed.one_too_many; as_many_as_allowed = computed.as_many_as_allowed; one_entry_allowed = computed.one_entry_allowed; only_entry_allowed = computed.only_entry_allowed; depth_of_one = computed.depth_of_one; depth_of_two = computed.depth_of_two; depth_of_three = computed.depth_of_three; root_without_lines = computed.root_without_lines; absent_root = computed.absent_root; unknown_root = computed.unknown_root; reference_without_file = computed.reference_without_file; no_line_type = computed.no_line_type; name_without_normal_form = computed.name_without_normal_form; number_out_of_range = computed.number_out_of_range }
