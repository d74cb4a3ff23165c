-- The steps of a text: File Format 1.0.2, "STEP", and rotation steps as MLCad writes them. That the last step is dropped
-- where it shows nothing is this project's own.
use Rattle.std.specs.Prelude.{ℕ, ◌+◌, Bool, true, false, if◌then◌else◌, List, [], ◌∷◌, ◌++◌, length, drop}
use Rattle.std.specs.List.{list_any}
use Rattle.ld_line.specs.Shown.{shows}
use Rattle.ld_line.specs.declared.line.Line.{Line}
use Rattle.ld_line.specs.declared.line.Line.TheVariants.{Rot, Step}
use Rattle.ld_steps.specs.View.{view_behind}
use Rattle.ld_steps.specs.declared.step.StepMark.{StepMark}

-- a line that ends a step
abbrev pub is_step_line : Line → Bool
is_step_line Step = true
is_step_line (Rot word) = true
is_step_line line = false

-- the numbers of the step lines among lines that stand behind so many others
abbrev pub step_lines : ℕ → List Line → List ℕ
step_lines before [] = []
step_lines before (line ∷ lines) =
    if is_step_line line then (before + 1) ∷ step_lines (before + 1) lines else step_lines (before + 1) lines

-- the last of further numbers, or the one before them
abbrev pub last_number : ℕ → List ℕ → ℕ
last_number number [] = number
last_number number (next ∷ numbers) = last_number next numbers

-- the lines of the last step, which stand behind all step lines
abbrev pub last_lines : List Line → List Line
last_lines lines = drop (last_number 0 (step_lines 0 lines)) lines

-- Where the last step ends, by the ends of those before it and whether it shows anything: with the last line, and
-- nowhere where it is dropped.
abbrev pub last_end : List ℕ → Bool → ℕ → List ℕ
last_end [] some count = count ∷ []
last_end (end ∷ ends) true count = count ∷ []
last_end (end ∷ ends) false count = []

-- the numbers of the lines with which steps end
abbrev pub step_ends : List Line → List ℕ
step_ends lines = step_lines 0 lines ++ last_end (step_lines 0 lines) (list_any shows (last_lines lines)) (length lines)

-- the steps that end with these lines: each begins behind the end of the one before
abbrev pub steps_between : List Line → ℕ → List ℕ → List StepMark
steps_between lines before [] = []
steps_between lines before (end ∷ ends) =
    record { first_line = before + 1; last_line = end; view = view_behind lines end } ∷ steps_between lines end ends

-- the steps of a text's lines
unfoldable pub steps_of : List Line → List StepMark
steps_of lines = steps_between lines 0 (step_ends lines)
