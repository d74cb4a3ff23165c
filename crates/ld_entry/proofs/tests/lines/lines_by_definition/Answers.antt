use Rattle.std.proofs.Common.{refl}
use Rattle.ld_num.specs.Number.{dec_of, millionths_of, numeral_of, powers_of}
use Rattle.ld_names.specs.Normal.{normal_of}
use Rattle.ld_line.specs.Colour.{colour_word}
use Rattle.ld_line.specs.Cut.{lines_of}
use Rattle.ld_line.specs.Field.{after_field, fields}
use Rattle.ld_line.specs.Reading.{line_of}
use Rattle.ld_entry.proofs.tests.lines.lines_by_definition.Goals as goal

pub returns-clause-cut : goal.returns-clause-cut
unfolding lines_of
returns-clause-cut c = refl

pub returns-clause-blank : goal.returns-clause-blank
unfolding line_of fields after_field colour_word normal_of dec_of powers_of numeral_of millionths_of
returns-clause-blank c = refl

pub returns-clause-culling : goal.returns-clause-culling
unfolding line_of fields after_field colour_word normal_of dec_of powers_of numeral_of millionths_of
returns-clause-culling c = refl

pub returns-clause-part : goal.returns-clause-part
unfolding line_of fields after_field colour_word normal_of dec_of powers_of numeral_of millionths_of
returns-clause-part c = refl

pub returns-clause-file_missing : goal.returns-clause-file_missing
unfolding line_of fields after_field colour_word normal_of dec_of powers_of numeral_of millionths_of
returns-clause-file_missing c = refl

pub returns-clause-out_of_range : goal.returns-clause-out_of_range
unfolding line_of fields after_field colour_word normal_of dec_of powers_of numeral_of millionths_of
returns-clause-out_of_range c = refl
