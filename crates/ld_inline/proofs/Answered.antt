-- Answers can be inlined.
use Rattle.std.proofs.Common.{◌≡◌, ℕ, List, length, Ok, subst}
use Rattle.std.specs.Prelude.{All, IfOk}
use Rattle.ld_names.specs.declared.file.TextId.{TextId}
use Rattle.ld_colour.specs.declared.colour.Colour.{Colour}
use Rattle.ld_entry.specs.Answers.{answer, outcome_counts}
use Rattle.ld_entry.specs.Laws.{CountLaw, LawfulLaw}
use Rattle.ld_entry.specs.Lawful.{IsLawfulEntry}
use Rattle.ld_entry.specs.NumberedTexts.{NumberedTexts, texts_over}
use Rattle.ld_entry.specs.declared.entry.Entry.{Entry}
use Rattle.ld_steps.specs.Laws.{AreSteps, PartLaw}
use Rattle.ld_steps.specs.Parts.{step_parts}
use Rattle.ld_inline.specs.Laws.{AnswersInline}

steps-of-answer : CountLaw → PartLaw → (texts : NumberedTexts) (depth most : ℕ) (root : TextId) (colour : Colour) (entries : List Entry) → answer texts depth most root colour ≡ Ok entries → AreSteps (length entries) (step_parts (texts.lines root) (outcome_counts texts depth root colour))
steps-of-answer count_law part_law texts depth most root colour entries is =
    let lines = texts.lines root in
    let counts = outcome_counts texts depth root colour in
    subst (λ n. AreSteps n (step_parts lines counts)) (count_law.whole texts depth most root colour entries is) (part_law lines counts (count_law.lines texts depth most root colour entries is))

pub answers-inline : CountLaw → LawfulLaw → PartLaw → AnswersInline
answers-inline count_law lawful part_law texts files depth most root colour entries current is =
    let given : IfOk (answer (texts_over texts files) depth most root colour) (All IsLawfulEntry) = lawful.answers texts files depth most root colour current in
    (subst (λ r. IfOk r (All IsLawfulEntry)) is given, steps-of-answer count_law part_law (texts_over texts files) depth most root colour entries is)
