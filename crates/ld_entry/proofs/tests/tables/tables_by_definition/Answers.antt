use Rattle.std.proofs.Common.{ℕ, refl}
use Rattle.ld_line.specs.Cut.{lines_of}
use Rattle.ld_line.specs.Digits.{decimal_number}
use Rattle.ld_line.specs.Field.{fields}
use Rattle.ld_colour.specs.Definition.{colour_line}
use Rattle.ld_colour.specs.Table.{definitions_of, rgb_in}
use Rattle.ld_entry.proofs.tests.tables.tables_by_definition.Goals as goal

-- what the examples compute with
opened : ℕ
unfolding lines_of decimal_number fields colour_line definitions_of rgb_in
opened = 0

pub returns-clause-definition : goal.returns-clause-definition
unfolding opened
returns-clause-definition c = refl

pub returns-clause-outside : goal.returns-clause-outside
unfolding opened
returns-clause-outside c = refl

pub returns-clause-file : goal.returns-clause-file
unfolding opened
returns-clause-file c = refl

pub returns-clause-bad_line : goal.returns-clause-bad_line
unfolding opened
returns-clause-bad_line c = refl

pub returns-clause-last_one : goal.returns-clause-last_one
unfolding opened
returns-clause-last_one c = refl

pub returns-clause-colours : goal.returns-clause-colours
unfolding opened
returns-clause-colours c = refl
