-- Laws of the steps of a text, and of an answer.
use Rattle.std.specs.Prelude.{◌≡◌, ◌≢◌, ◌≤◌, ◌⊎◌, ◌+◌, ℕ, false, All, List, [], ◌∷◌, length, drop, map, sum, ⊤}
use Rattle.std.specs.List.{list_any}
use Rattle.ld_line.specs.Shown.{GiveEntries, shows}
use Rattle.ld_line.specs.declared.line.Line.{Line}
use Rattle.ld_line.specs.declared.line.RotWord.{RotWord}
use Rattle.ld_steps.specs.Parts.{step_parts}
use Rattle.ld_steps.specs.Steps.{steps_of}
use Rattle.ld_steps.specs.View.{rotated}
use Rattle.ld_steps.specs.declared.step.StepMark.{StepMark}
use Rattle.ld_steps.specs.declared.step.StepPart.{StepPart}
use Rattle.ld_steps.specs.declared.step.Turn.{Turn}

-- ---- Views.

-- the view before, unchanged or changed by one rotation step
abbrev pub IsNextView : List Turn → List Turn → Type 0
IsNextView before after = (after ≡ before) ⊎ ((word : RotWord) × (after ≡ rotated word before))

-- each view behind the one before it
abbrev pub AreNextViews : List Turn → List (List Turn) → Type 0
AreNextViews before [] = ⊤
AreNextViews before (view ∷ views) = IsNextView before view × AreNextViews view views

-- ---- Lines.

-- Steps one behind the other, from behind so many lines on. What is left behind the last of them shows nothing.
abbrev pub FollowOn : List Line → ℕ → List StepMark → Type 0
FollowOn lines before [] = list_any shows (drop before lines) ≡ false
FollowOn lines before (mark ∷ marks) =
    (mark.first_line ≡ before + 1) × (before ≤ mark.last_line) × (mark.last_line ≤ length lines) × FollowOn lines mark.last_line marks

pub record StepLaws : Type 0 where
  -- at least one step stands
  pub some : (lines : List Line) → steps_of lines ≢ []
  pub follow : (lines : List Line) → FollowOn lines 0 (steps_of lines)
  pub views : (lines : List Line) → AreNextViews [] (map (λ mark. mark.view) (steps_of lines))
  pub few_turns : (lines : List Line) → All (λ mark. length mark.view ≤ 8) (steps_of lines)

-- ---- Ranges.

-- ranges one behind the other, from an entry on up to an end
abbrev pub Cover : ℕ → ℕ → List StepPart → Type 0
Cover from end [] = from ≡ end
Cover from end (part ∷ parts) = (part.first ≡ from) × (part.first ≤ part.end) × Cover part.end end parts

-- steps of so many entries
pub record AreSteps (entries : ℕ) (steps : List StepPart) : Type 0 where
  pub some : steps ≢ []
  -- the ranges follow one another and cover the entries
  pub cover : Cover 0 entries steps
  pub within : All (λ step. (step.first ≤ step.end) × (step.end ≤ entries)) steps
  pub views : AreNextViews [] (map (λ step. step.view) steps)

abbrev pub PartLaw : Type 0
PartLaw = (lines : List Line) (counts : List ℕ) → GiveEntries lines counts → AreSteps (sum counts) (step_parts lines counts)
