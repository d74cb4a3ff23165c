use Rattle.ld_entry.proofs.Computed as computed
use Rattle.ld_entry.proofs.tests.points_and_colours.Goals as goal

pub returns : goal.returns
returns c = record { rounding_at_each_reference = computed.rounding_at_each_reference; matrix_of_zeros = computed.matrix_of_zeros; colours = computed.colours; direct_colours = computed.direct_colours }
