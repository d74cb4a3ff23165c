-- Lines of a text by their numbers, from 1.
use Rattle.std.specs.Prelude.{ℕ, ◌-◌, Bool, false, List, take, Option, Some, None, slice_get}
use Rattle.ld_line.specs.Reading.{line_of}
use Rattle.ld_line.specs.declared.line.Line.{Line}

-- a line; none where the text is shorter
abbrev pub numbered_line : List (List ℕ) → ℕ → Option (List ℕ)
numbered_line lines number = slice_get lines (number - 1)

abbrev pub lines_before : List (List ℕ) → ℕ → List (List ℕ)
lines_before lines number = take (number - 1) lines

-- a line stands there, and passes a test
abbrev pub passes : (List ℕ → Bool) → Option (List ℕ) → Bool
passes test None = false
passes test (Some line) = test line

-- a line by what it says
abbrev pub said : (Line → Bool) → List ℕ → Bool
said test line = test (line_of line)
