-- What is known of entries and steps that Rust holds: their numbers are in range.
use Rattle.std.specs.Prelude.{◌≡◌, ◌<◌, ◌^◌, ℕ, All, List, [], ◌∷◌, length, Option, Some, None, ⊤}
use Rattle.std.specs.List.{flat_map}
use Rattle.ld_line.specs.Printing.{IsPoint, IsTurn}
use Rattle.ld_line.specs.declared.line.RotWord.{RotWord}
use Rattle.ld_colour.specs.declared.colour.Colour.{Colour}
use Rattle.ld_colour.specs.declared.colour.Colour.TheVariants.{Code}
use Rattle.ld_num.specs.declared.point.Point.{Point}
use Rattle.ld_entry.specs.declared.entry.Entry.{Entry}
use Rattle.ld_entry.specs.declared.entry.Entry.TheVariants.{Drawn, Part}
use Rattle.ld_steps.specs.declared.step.StepPart.{StepPart}
use Rattle.ld_steps.specs.declared.step.Turn.{Turn}
use Rattle.ld_inline.specs.Text.{step_rotation}

-- words, each behind a space
abbrev pub following : List (List ℕ) → List ℕ
following words = flat_map (λ word. 32 ∷ word) words

abbrev pub IsShownColour : Colour → Type 0
IsShownColour (Code code) = code < 2 ^ 32
IsShownColour colour = ⊤

abbrev pub AreFourPoints : List Point → Type 0
AreFourPoints points = (length points ≡ 4) × All IsPoint points

abbrev pub IsShown : Entry → Type 0
IsShown (Drawn kind certified clip winding colour source points) = IsShownColour colour × AreFourPoints points
IsShown (Part file colour source) = ⊤

abbrev pub IsShownRotation : Option RotWord → Type 0
IsShownRotation None = ⊤
IsShownRotation (Some word) = IsTurn word

-- the angles of the step line between two views
abbrev pub IsShownStep : List Turn → List Turn → Type 0
IsShownStep before view = IsShownRotation (step_rotation before view)

-- those of steps behind this view
abbrev pub AreShownSteps : List Turn → List StepPart → Type 0
AreShownSteps before [] = ⊤
AreShownSteps before (step ∷ steps) = IsShownStep before step.view × AreShownSteps step.view steps
