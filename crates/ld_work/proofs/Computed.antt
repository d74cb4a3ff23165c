-- The worked counts, computed.
use Rattle.std.proofs.Common.{ℕ, refl}
use Rattle.ld_num.specs.Number.{dec_of, millionths_of, numeral_of, powers_of}
use Rattle.ld_num.specs.Placing.{is_mirrored, moved}
use Rattle.ld_names.specs.Normal.{normal_of}
use Rattle.ld_names.specs.Standing.{find, folders_of, known_map, same_file, standing}
use Rattle.ld_line.specs.Colour.{colour_word}
use Rattle.ld_line.specs.Field.{after_field, fields}
use Rattle.ld_line.specs.Moved.{moved_line, moved_reference, moved_to, target}
use Rattle.ld_line.specs.Part.{is_part_text}
use Rattle.ld_line.specs.Reading.{line_of}
use Rattle.ld_bfc.specs.LineState.{next}
use Rattle.ld_bfc.specs.Passing.{below}
use Rattle.ld_colour.specs.Colour.{colour_of}
use Rattle.ld_entry.specs.Carrying.{moved_points}
use Rattle.ld_entry.specs.Expansion.{neutral_expansion}
use Rattle.ld_entry.specs.Heights.{height}
use Rattle.ld_entry.specs.Outcomes.{all_by_line}
use Rattle.ld_work.specs.Reads.{reads_within}
use Rattle.ld_work.specs.ReadsRows as row

values : ℕ
unfolding reads_within height neutral_expansion all_by_line line_of fields after_field colour_word is_part_text moved_line moved_reference moved_to target dec_of millionths_of numeral_of powers_of normal_of find folders_of known_map same_file standing below next colour_of moved_points is_mirrored moved
values = 0

pub each_use_is_read : row.EachUseIsRead
unfolding values
each_use_is_read = (refl, refl)

pub low_texts_are_given : row.LowTextsAreGiven
unfolding values
low_texts_are_given = (refl, refl)

pub none_behind_a_fault : row.NoneBehindAFault
unfolding values
none_behind_a_fault = refl

pub none_behind_an_entry_too_many : row.NoneBehindAnEntryTooMany
unfolding values
none_behind_an_entry_too_many = refl

pub reference_back_is_read : row.ReferenceBackIsRead
unfolding values
reference_back_is_read = refl
