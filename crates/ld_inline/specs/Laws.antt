-- What answers offer to be inlined.
use Rattle.std.specs.Prelude.{◌≡◌, ℕ, true, All, List, length, Ok}
use Rattle.ld_names.specs.Standing.{Map}
use Rattle.ld_names.specs.declared.file.FileId.{FileId}
use Rattle.ld_names.specs.declared.file.TextId.{TextId}
use Rattle.ld_colour.specs.Colour.{is_lawful}
use Rattle.ld_colour.specs.declared.colour.Colour.{Colour}
use Rattle.ld_entry.specs.Answers.{answer, outcome_counts}
use Rattle.ld_entry.specs.Lawful.{IsLawfulEntry}
use Rattle.ld_entry.specs.NumberedTexts.{texts_over}
use Rattle.ld_entry.specs.declared.entry.Entry.{Entry}
use Rattle.ld_steps.specs.Laws.{AreSteps}
use Rattle.ld_steps.specs.Parts.{step_parts}

-- the answer to a query of a lawful colour has lawful entries, and steps that cover them
abbrev pub AnswersInline : Type 0
AnswersInline =
    (texts : Map) (files : List FileId) (depth most : ℕ) (root : TextId) (colour : Colour) (entries : List Entry) → is_lawful colour ≡ true → answer (texts_over texts files) depth most root colour ≡ Ok entries → All IsLawfulEntry entries × AreSteps (length entries) (step_parts ((texts_over texts files).lines root) (outcome_counts (texts_over texts files) depth root colour))
