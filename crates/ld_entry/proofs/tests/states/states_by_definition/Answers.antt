use Rattle.std.proofs.Common.{ℕ, refl}
use Rattle.ld_line.specs.Colour.{colour_word}
use Rattle.ld_line.specs.Field.{after_field, fields}
use Rattle.ld_line.specs.Reading.{line_of}
use Rattle.ld_bfc.specs.LineState.{next, state_before}
use Rattle.ld_bfc.specs.Passing.{below}
use Rattle.ld_entry.proofs.tests.states.states_by_definition.Goals as goal

-- what the examples compute with
opened : ℕ
unfolding state_before next below line_of fields after_field colour_word
opened = 0

pub returns-clause-silent : goal.returns-clause-silent
unfolding opened
returns-clause-silent c = refl

pub returns-clause-first_statement : goal.returns-clause-first_statement
unfolding opened
returns-clause-first_statement c = refl

pub returns-clause-any_statement : goal.returns-clause-any_statement
unfolding opened
returns-clause-any_statement c = refl

pub returns-clause-after_drawing : goal.returns-clause-after_drawing
unfolding opened
returns-clause-after_drawing c = refl

pub returns-clause-invertnext_stands : goal.returns-clause-invertnext_stands
unfolding opened
returns-clause-invertnext_stands c = refl

pub returns-clause-invertnext_used_up : goal.returns-clause-invertnext_used_up
unfolding opened
returns-clause-invertnext_used_up c = refl

pub returns-clause-invertnext_and_mirror : goal.returns-clause-invertnext_and_mirror
unfolding opened
returns-clause-invertnext_and_mirror c = refl

pub returns-clause-silent_part : goal.returns-clause-silent_part
unfolding opened
returns-clause-silent_part c = refl

pub returns-clause-uncertified_text : goal.returns-clause-uncertified_text
unfolding opened
returns-clause-uncertified_text c = refl
