-- The steps of an answer: which of its entries come from the lines of each step.
use Rattle.std.specs.Prelude.{ℕ, ◌-◌, List, drop, map, sum, take}
use Rattle.ld_line.specs.declared.line.Line.{Line}
use Rattle.ld_steps.specs.Steps.{steps_of}
use Rattle.ld_steps.specs.declared.step.StepMark.{StepMark}
use Rattle.ld_steps.specs.declared.step.StepPart.{StepPart}

-- a step's range, by how many entries each line gives
abbrev pub step_part : List ℕ → StepMark → StepPart
step_part counts mark =
    record { first = sum (take (mark.first_line - 1) counts); end = sum (take mark.last_line counts); view = mark.view }

-- the steps of an answer, by the lines of its root and how many entries each of them gives
unfoldable pub step_parts : List Line → List ℕ → List StepPart
step_parts lines counts = map (step_part counts) (steps_of lines)

-- the items that a step adds, as far as there are any in its range
abbrev pub entries_in : {A : Type 0} → List A → StepPart → List A
entries_in entries step = take (step.end - step.first) (drop step.first entries)
