-- Steps that are marked line by line.
use Rattle.std.specs.Prelude.{◌≡◌, ◌+◌, ◌==◌, ◌&&◌, not, Bool, false, List, [], ◌∷◌, ◌++◌, length, take, drop, Some, slice_get}
use Rattle.std.specs.List.{list_any}
use Rattle.ld_line.specs.Shown.{shows}
use Rattle.ld_line.specs.declared.line.Line.{Line}
use Rattle.ld_steps.specs.Steps.{last_number, step_lines, steps_between}
use Rattle.ld_steps.specs.View.{view_behind}
use Rattle.ld_steps.specs.declared.marking.Marking.{Marking}
use Rattle.ld_steps.specs.declared.step.Turn.{Turn}

-- the steps of these lines that have ended, up to the lines that are passed, and what is known of the open one
pub record IsMarked (lines : List Line) (marking : Marking) : Type 0 where
  pub marks : marking.marks.items ≡ steps_between lines 0 (step_lines 0 (take marking.passed lines))
  pub view : marking.view.items ≡ view_behind lines marking.passed
  pub ended : marking.ended ≡ last_number 0 (step_lines 0 (take marking.passed lines))
  pub drawn : marking.drawn ≡ list_any shows (drop marking.ended (take marking.passed lines))

-- one step more has ended, at the last line that is passed, with this view
pub record EndsStep (view : List Turn) (old new : Marking) : Type 0 where
  pub marks : new.marks.items ≡ old.marks.items ++ record { first_line = old.ended + 1; last_line = old.passed; view = view } ∷ []
  pub stands : new.view.items ≡ view
  pub passed : new.passed ≡ old.passed
  pub ended : new.ended ≡ old.passed
  pub drawn : new.drawn ≡ false

-- a line more is passed
abbrev pub MarksLine : Line → Marking → Marking → Type 0
MarksLine line old new = (lines : List Line) → slice_get lines old.passed ≡ Some line → IsMarked lines old → IsMarked lines new

-- the step that is open shows nothing, and one stands before it
abbrev pub drops_last : Marking → Bool
drops_last marking = not marking.drawn && not (length marking.marks.items == 0)
