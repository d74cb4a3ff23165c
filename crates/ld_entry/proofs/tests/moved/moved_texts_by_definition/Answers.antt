use Rattle.std.proofs.Common.{ℕ, refl}
use Rattle.ld_num.specs.Number.{dec_of, millionths_of, numeral_of, powers_of}
use Rattle.ld_names.specs.Normal.{normal_of}
use Rattle.ld_names.specs.Standing.{find, folders_of, known_map, same_file}
use Rattle.ld_line.specs.Colour.{colour_word}
use Rattle.ld_line.specs.Field.{after_field, fields}
use Rattle.ld_line.specs.Moved.{moved_line, moved_reference, moved_to, target}
use Rattle.ld_line.specs.Part.{is_part_text}
use Rattle.ld_line.specs.Reading.{line_of}
use Rattle.ld_entry.proofs.tests.moved.moved_texts_by_definition.Goals as goal

-- what a target computes with
values : ℕ
unfolding moved_line moved_reference moved_to target line_of fields after_field colour_word is_part_text dec_of millionths_of numeral_of powers_of normal_of find folders_of known_map same_file
values = 0

pub returns-clause-one_reference : goal.returns-clause-one_reference
unfolding values
returns-clause-one_reference c = refl

pub returns-clause-part_texts : goal.returns-clause-part_texts
unfolding values
returns-clause-part_texts c = refl

pub returns-clause-no_name : goal.returns-clause-no_name
unfolding values
returns-clause-no_name c = refl
