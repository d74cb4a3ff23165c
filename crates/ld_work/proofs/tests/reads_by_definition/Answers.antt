use Rattle.ld_work.proofs.Computed as computed
use Rattle.ld_work.proofs.tests.reads_by_definition.Goals as goal

pub returns : goal.returns
returns c = record { each_use_is_read = computed.each_use_is_read; low_texts_are_given = computed.low_texts_are_given; none_behind_a_fault = computed.none_behind_a_fault; none_behind_an_entry_too_many = computed.none_behind_an_entry_too_many; reference_back_is_read = computed.reference_back_is_read }
