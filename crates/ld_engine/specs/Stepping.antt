-- The steps of an answer: File Format 1.0.2, "STEP", over the lines of the root. Step lines of other texts end no step.
use Rattle.std.specs.Prelude.{ℕ, List, Result, Ok, Err}
use Rattle.ld_names.specs.declared.file.TextId.{TextId}
use Rattle.ld_colour.specs.declared.colour.Colour.{Colour}
use Rattle.ld_steps.specs.Parts.{step_parts}
use Rattle.ld_steps.specs.declared.step.StepPart.{StepPart}
use Rattle.ld_entry.specs.Answers.{answer, outcome_counts}
use Rattle.ld_entry.specs.NumberedTexts.{NumberedTexts}
use Rattle.ld_entry.specs.declared.entry.Entry.{Entry}
use Rattle.ld_entry.specs.declared.entry.Fault.{Fault}
use Rattle.ld_engine.specs.declared.asking.Answer.{Answer}

-- The steps of a root, each with the range of the entries that its lines give. In an answer no line gives a fault.
abbrev pub steps_in : NumberedTexts → ℕ → TextId → Colour → List StepPart
steps_in texts depth root colour = step_parts (texts.lines root) (outcome_counts texts depth root colour)

-- entries with these steps
abbrev pub with_steps : List StepPart → Result (List Entry) Fault → Result Answer Fault
with_steps steps (Ok entries) = Ok (record { entries = entries; steps = steps })
with_steps steps (Err fault) = Err fault

-- the answer to a query of a root in a colour, with its steps
abbrev pub answer_with_steps : NumberedTexts → ℕ → ℕ → TextId → Colour → Result Answer Fault
answer_with_steps texts depth most root colour = with_steps (steps_in texts depth root colour) (answer texts depth most root colour)
