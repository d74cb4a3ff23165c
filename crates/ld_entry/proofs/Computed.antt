-- The worked models, computed.
use Rattle.std.proofs.Common.{ℕ, refl}
use Rattle.ld_num.specs.Number.{dec_of, millionths_of, numeral_of, powers_of}
use Rattle.ld_num.specs.Placing.{is_mirrored, moved}
use Rattle.ld_names.specs.Normal.{normal_of}
use Rattle.ld_names.specs.Standing.{find, folders_of, known_map, same_file, standing}
use Rattle.ld_line.specs.Colour.{colour_word}
use Rattle.ld_line.specs.Field.{after_field, fields}
use Rattle.ld_line.specs.Moved.{moved_line, moved_reference, moved_to, target}
use Rattle.ld_line.specs.Part.{is_part_text}
use Rattle.ld_line.specs.Reading.{line_of}
use Rattle.ld_bfc.specs.LineState.{next}
use Rattle.ld_bfc.specs.Passing.{below}
use Rattle.ld_colour.specs.Colour.{colour_of}
use Rattle.ld_entry.specs.Answers.{answer}
use Rattle.ld_entry.specs.Carrying.{moved_points}
use Rattle.ld_entry.specs.Expansion.{neutral_expansion}
use Rattle.ld_entry.specs.Heights.{height}
use Rattle.ld_entry.specs.Outcomes.{all_by_line}
use Rattle.ld_entry.specs.KeptRows as kept
use Rattle.ld_entry.specs.MovedRows as moved_row
use Rattle.ld_entry.specs.Rows as row

-- what an answer computes with
values : ℕ
unfolding answer neutral_expansion all_by_line line_of fields after_field colour_word is_part_text moved_line moved_reference moved_to target dec_of millionths_of numeral_of powers_of normal_of find folders_of known_map same_file standing below next colour_of moved_points is_mirrored moved
values = 0

pub rounding_at_each_reference : row.RoundingAtEachReference
unfolding values
rounding_at_each_reference = refl

pub matrix_of_zeros : row.MatrixOfZeros
unfolding values
matrix_of_zeros = refl

pub colours : row.Colours
unfolding values
colours = refl

pub direct_colours : row.DirectColours
unfolding values
direct_colours = refl

pub first_of_an_ordinary_model : row.FirstOfAnOrdinaryModel
unfolding values
first_of_an_ordinary_model = refl

pub ends_of_an_ordinary_model : row.EndsOfAnOrdinaryModel
unfolding values
ends_of_an_ordinary_model = (refl, refl)

pub chain_of64 : row.ChainOf64
unfolding values
chain_of64 = refl

pub chain_of65 : row.ChainOf65
unfolding values
chain_of65 = refl

pub invertnext_and_mirror : row.InvertnextAndMirror
unfolding values
invertnext_and_mirror = refl

pub mirror_alone : row.MirrorAlone
unfolding values
mirror_alone = refl

pub certification_passed : row.CertificationPassed
unfolding values
certification_passed = refl

pub certification_stopped : row.CertificationStopped
unfolding values
certification_stopped = refl

pub certification_refused : row.CertificationRefused
unfolding values
certification_refused = refl

pub clip_and_winding : row.ClipAndWinding
unfolding values
clip_and_winding = refl

pub cycle_from_the_first : row.CycleFromTheFirst
unfolding values
cycle_from_the_first = refl

pub cycle_from_the_second : row.CycleFromTheSecond
unfolding values
cycle_from_the_second = refl

pub reference_to_itself : row.ReferenceToItself
unfolding values
reference_to_itself = refl

pub earlier_fault_from_outside : row.EarlierFaultFromOutside
unfolding values
earlier_fault_from_outside = refl

pub no_fault_from_outside : row.NoFaultFromOutside
unfolding values
no_fault_from_outside = refl

pub one_too_many : row.OneTooMany
unfolding values
one_too_many = refl

pub as_many_as_allowed : row.AsManyAsAllowed
unfolding values
as_many_as_allowed = refl

pub one_entry_allowed : row.OneEntryAllowed
unfolding values
one_entry_allowed = refl

pub only_entry_allowed : row.OnlyEntryAllowed
unfolding values
only_entry_allowed = refl

pub depth_of_one : row.DepthOfOne
unfolding values
depth_of_one = refl

pub depth_of_two : row.DepthOfTwo
unfolding values
depth_of_two = refl

pub depth_of_three : row.DepthOfThree
unfolding values
depth_of_three = refl

pub root_without_lines : row.RootWithoutLines
unfolding values
root_without_lines = refl

pub absent_root : row.AbsentRoot
unfolding values
absent_root = refl

pub unknown_root : row.UnknownRoot
unfolding values
unknown_root = refl

pub reference_without_file : row.ReferenceWithoutFile
unfolding values
reference_without_file = refl

pub no_line_type : row.NoLineType
unfolding values
no_line_type = refl

pub name_without_normal_form : row.NameWithoutNormalForm
unfolding values
name_without_normal_form = refl

pub number_out_of_range : row.NumberOutOfRange
unfolding values
number_out_of_range = refl

-- ---- Expansions that may be kept.

pub heights_of_models : kept.HeightsOfModels
unfolding values height
heights_of_models = (refl, refl, refl, refl)

pub at_the_depth : kept.AtTheDepth
unfolding values height
at_the_depth = (refl, refl, refl)

pub above_the_depth : kept.AboveTheDepth
unfolding values height
above_the_depth = (refl, refl, refl)

pub cycle_is_high : kept.CycleIsHigh
unfolding values
cycle_is_high = (refl, refl)

pub in_the_main_colour : kept.InTheMainColour
unfolding values
in_the_main_colour = refl

pub end_behind_an_outer_range : kept.EndBehindAnOuterRange
unfolding values
end_behind_an_outer_range = (refl, refl, refl)

pub one_entry_more_than_allowed : kept.OneEntryMoreThanAllowed
unfolding values
one_entry_more_than_allowed = (refl, refl, refl)

pub as_many_entries_as_allowed : kept.AsManyEntriesAsAllowed
unfolding values
as_many_entries_as_allowed = refl

-- ---- Moved parts.

pub moved_part : moved_row.MovedPart
unfolding values
moved_part = refl

pub targets_over_walks : moved_row.TargetsOverWalks
unfolding values
targets_over_walks = (refl, refl, refl, refl)

pub no_targets : moved_row.NoTargets
unfolding values
no_targets = (refl, refl, refl, refl, refl, refl)

pub moved_cycle : moved_row.MovedCycle
unfolding values
moved_cycle = (refl, refl)

pub moves_in_a_cycle : moved_row.MovesInACycle
unfolding values
moves_in_a_cycle = (refl, refl, refl)

pub moves_of64 : moved_row.MovesOf64
unfolding values
moves_of64 = refl

pub moves_of65 : moved_row.MovesOf65
unfolding values
moves_of65 = refl
