-- An answer has no more entries than it may have, and its steps cover them.
use Rattle.std.proofs.Common.{◌≡◌, ◌≤◌, ◌<◌, ◌⊎◌, get_or, ◌∙◌, ℕ, List, Option, Some, None, Result, Ok, Err, length, slice_get, inl, inr, sym, subst, ap, refl, rules, IfOk}
use Rattle.std.proofs.lemmas.Option.{none-some, slice_get_cases}
use Rattle.ld_names.specs.Standing.{Known}
use Rattle.ld_names.specs.declared.file.FileId.{FileId}
use Rattle.ld_names.specs.declared.file.TextId.{TextId}
use Rattle.ld_colour.specs.declared.colour.Colour.{Colour}
use Rattle.ld_entry.specs.Answers.{answer, unless_too_many}
use Rattle.ld_entry.specs.Laws.{TintLaw}
use Rattle.ld_entry.specs.NumberedTexts.{known_texts, NumberedTexts}
use Rattle.ld_entry.specs.declared.entry.Entry.{Entry}
use Rattle.ld_entry.specs.declared.entry.Fault.{Fault}
use Rattle.ld_steps.specs.Laws.{AreSteps}
use Rattle.ld_steps.specs.declared.step.StepPart.{StepPart}
use Rattle.ld_engine.specs.Asking.{Answers}
use Rattle.ld_engine.specs.Laws.{StepsOfAnswers}
use Rattle.ld_engine.specs.Stepping.{steps_in, with_steps}
use Rattle.ld_engine.specs.declared.asking.Answer.{Answer}
use Rattle.ld_engine.specs.declared.asking.AnswerError.{AnswerError}
use Rattle.ld_engine.specs.declared.limits.Limits.{Limits}

ended : (entries given : List Entry) (end : Option Fault) → unless_too_many None entries end ≡ Ok given → entries ≡ given
ended entries given None is = search rules
ended entries given (Some fault) is = cc

not-inside : (most : ℕ) (entries : List Entry) → slice_get entries most ≡ None → ((entry : Entry) × (most < length entries) × (slice_get entries most ≡ Some entry) × (get_or entries most entry ≡ entry)) ⊎ ((length entries ≤ most) × (slice_get entries most ≡ None)) → length entries ≤ most
not-inside most entries none (inl inside) = let some = inside.2 in absurd (none-some inside.0 (sym none ∙ some))
not-inside most entries none (inr past) = past.0

by-size : (most : ℕ) (entries given : List Entry) (end : Option Fault) (found : Option Entry) → slice_get entries most ≡ found → unless_too_many found entries end ≡ Ok given → length given ≤ most
by-size most entries given end (Some entry) there is = cc
by-size most entries given end None there is = subst (λ all. length all ≤ most) (ended entries given end is) (not-inside most entries there (slice_get_cases entries most).1)

entries_are : (steps : List StepPart) (entries : List Entry) (given : Answer) → with_steps steps (Ok entries) ≡ Ok given → entries ≡ given.entries
entries_are steps entries given is = search rules

-- by the expansion of the root
within : (tint : TintLaw) (texts : NumberedTexts) (depth most : ℕ) (root : TextId) (colour : Colour) (given : List Entry) → answer texts depth most root colour ≡ Ok given → length given ≤ most
within tint texts depth most root colour given is = by-size most _ given _ _ refl (sym (tint texts depth most root colour) ∙ is)

with-steps : (tint : TintLaw) (texts : NumberedTexts) (depth most : ℕ) (root : TextId) (colour : Colour) (found : Result (List Entry) Fault) (given : Answer) → answer texts depth most root colour ≡ found → with_steps (steps_in texts depth root colour) found ≡ Ok given → length given.entries ≤ most
with-steps tint texts depth most root colour (Ok entries) given there is =
    within tint texts depth most root colour given.entries (there ∙ ap Ok (entries_are _ entries given is))
with-steps tint texts depth most root colour (Err fault) given there is = cc

pub answer-steps : (law : StepsOfAnswers) (limits : Limits) (root : FileId) (colour : Colour) (known : Known) (result : Result Answer AnswerError) → Answers limits root colour known result → IfOk result (λ answer. AreSteps (length answer.entries) answer.steps)
answer-steps law limits root colour known (Ok answer) is = law (known_texts known) limits.depth limits.entries (record { 0 = is.id }) colour answer is.answer
answer-steps law limits root colour known (Err error) is = tt
