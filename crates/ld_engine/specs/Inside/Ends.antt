-- How many entries of an answer stand up to and with each line of its root.
use Rattle.std.specs.Prelude.{◌≤◌, ◌<◌, ◌+◌, ◌-◌, ℕ, List, [], ◌∷◌, slice_index}
use Rattle.ld_steps.specs.declared.step.StepMark.{StepMark}
use Rattle.ld_steps.specs.declared.step.StepPart.{StepPart}

-- the counts behind each line, by the count before them and how many entries each gives
abbrev pub line_ends : ℕ → List ℕ → List ℕ
line_ends before [] = []
line_ends before (count ∷ counts) = (before + count) ∷ line_ends (before + count) counts

-- a step whose lines have ends, where a count of zero stands in front of them
abbrev pub IsWithin : ℕ → StepMark → Type 0
IsWithin count mark = (1 ≤ mark.first_line) × (mark.first_line ≤ count) × (mark.last_line < count)

-- a step with its range, by these ends
abbrev pub part_by : List ℕ → StepMark → StepPart
part_by ends mark = record { first = slice_index ends (mark.first_line - 1); end = slice_index ends mark.last_line; view = mark.view }
