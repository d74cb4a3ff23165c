use Rattle.std.proofs.Common.{ℕ, refl}
use Rattle.ld_line.specs.Colour.{colour_word}
use Rattle.ld_line.specs.Field.{after_field, fields}
use Rattle.ld_line.specs.Reading.{line_of}
use Rattle.ld_num.specs.Number.{dec_of, millionths_of, numeral_of, powers_of}
use Rattle.ld_steps.specs.Parts.{step_parts}
use Rattle.ld_steps.specs.Steps.{steps_of}
use Rattle.ld_cmd.proofs.tests.stepping.steps_by_definition.Goals as goal

-- what the examples compute with
opened : ℕ
unfolding step_parts steps_of line_of fields after_field colour_word dec_of powers_of numeral_of millionths_of
opened = 0

pub returns-clause-no_lines : goal.returns-clause-no_lines
unfolding opened
returns-clause-no_lines c = refl

pub returns-clause-dropped : goal.returns-clause-dropped
unfolding opened
returns-clause-dropped c = refl

pub returns-clause-ranges : goal.returns-clause-ranges
unfolding opened
returns-clause-ranges c = refl
