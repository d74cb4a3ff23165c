use Rattle.std.proofs.Common.{ℕ, refl}
use Rattle.ld_num.specs.Number.{dec_of, millionths_of, numeral_of, powers_of}
use Rattle.ld_num.specs.Placing.{is_singular}
use Rattle.ld_names.specs.Normal.{normal_of}
use Rattle.ld_line.specs.Colour.{colour_word}
use Rattle.ld_line.specs.Field.{after_field, fields}
use Rattle.ld_line.specs.Reading.{line_of}
use Rattle.ld_check.specs.Findings.{findings_of}
use Rattle.ld_cmd.proofs.tests.findings.findings_by_definition.Goals as goal

-- what the findings compute with
opened : ℕ
unfolding findings_of line_of fields after_field colour_word normal_of dec_of millionths_of numeral_of powers_of is_singular
opened = 0

pub returns-clause-empty : goal.returns-clause-empty
unfolding opened
returns-clause-empty c = refl

pub returns-clause-ordinary_model : goal.returns-clause-ordinary_model
unfolding opened
returns-clause-ordinary_model c = refl

pub returns-clause-bad_part : goal.returns-clause-bad_part
unfolding opened
returns-clause-bad_part c = refl
