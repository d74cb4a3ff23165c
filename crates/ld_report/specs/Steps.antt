-- Printed steps, which are this project's own: a line for each step, and the lines of its entries behind it.
use Rattle.std.specs.Prelude.{ℕ, ◌+◌, ◌-◌, Bool, true, false, List, [], ◌∷◌, ◌++◌, codes, decimal, map}
use Rattle.ld_num.specs.Text.{dec_text}
use Rattle.ld_names.specs.Standing.{Known}
use Rattle.ld_line.specs.declared.line.Angles.{Angles}
use Rattle.ld_colour.specs.Table.{Counting}
use Rattle.ld_entry.specs.declared.entry.Entry.{Entry}
use Rattle.ld_steps.specs.Parts.{entries_in}
use Rattle.ld_steps.specs.declared.step.StepPart.{StepPart}
use Rattle.ld_steps.specs.declared.step.Turn.{Turn}
use Rattle.ld_report.specs.Entries.{entries_text}
use Rattle.ld_report.specs.Pieces.{line_text}

abbrev pub turn_word : Bool → List ℕ
turn_word true = codes "abs:"
turn_word false = codes "rel:"

-- x,y,z in degrees
abbrev pub angles_text : Angles → List ℕ
angles_text angles = dec_text angles.x ++ codes "," ++ dec_text angles.y ++ codes "," ++ dec_text angles.z

abbrev pub turn_text : Turn → List ℕ
turn_text turn = turn_word turn.absolute ++ angles_text turn.angles

-- the turns of a view, the oldest first, or a dash
abbrev pub view_words : List Turn → List (List ℕ)
view_words [] = codes "-" ∷ []
view_words (turn ∷ turns) = map turn_text (turn ∷ turns)

-- a step by its number, from 1, and how many entries it adds
abbrev pub step_heading : ℕ → StepPart → List (List ℕ)
step_heading number step = codes "step" ∷ decimal number ∷ codes "entries" ∷ decimal (step.end - step.first) ∷ codes "view" ∷ view_words step.view

abbrev pub step_text : Known → Counting → List Entry → ℕ → StepPart → List ℕ
step_text known table entries number step = line_text (step_heading number step) ++ entries_text known table (entries_in entries step)

-- steps that are numbered from here on
abbrev pub steps_from : Known → Counting → List Entry → ℕ → List StepPart → List ℕ
steps_from known table entries number [] = []
steps_from known table entries number (step ∷ steps) = step_text known table entries number step ++ steps_from known table entries (number + 1) steps

unfoldable pub steps_text : Known → Counting → List Entry → List StepPart → List ℕ
steps_text known table entries steps = steps_from known table entries 1 steps
