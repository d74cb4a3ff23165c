-- A text is gone through line by line.
use Rattle.std.proofs.Common.{◌≡◌, ◌<◌, ℕ, suc, List, [], ◌∷◌, ◌++◌, take, drop, length, Option, Some, None, refl, ap, sym, subst, ◌∙◌, append_assoc}
use Rattle.std.specs.Prelude.{option_map, slice_get}
use Rattle.std.proofs.lemmas.List.{append-nil, take-append-drop}
use Rattle.ld_names.specs.declared.file.TextId.{TextId}
use Rattle.ld_entry.specs.Carrying.{Outcome}
use Rattle.ld_entry.specs.Laws.{CarryLaws}
use Rattle.ld_entry.specs.NumberedTexts.{NumberedTexts}
use Rattle.ld_entry.specs.Outcomes.{all, all_by_line, concatenation}
use Rattle.ld_entry.specs.declared.entry.Entry.{Entry}
use Rattle.ld_entry.specs.declared.entry.Fault.{Fault}
use Rattle.ld_work.specs.Inside.Gathering.{alone, enter_with, gathered, Gathers}
use Rattle.ld_work.specs.Inside.Parsing.{parsed_lines, parsed_outcomes}
use Rattle.ld_work.specs.declared.line.ParsedLine.{ParsedLine}
use Rattle.ld_work.proofs.Gathered.{ended-gathered, full-gathered, then-gathered}
use Rattle.ld_work.proofs.Parsing.{at-place, get-map, none-taken, past-end, take-next, text-gives}

joined : {A : Type 0} (xs ys : List (List A)) → concatenation (xs ++ ys) ≡ concatenation xs ++ concatenation ys
joined [] ys = refl
joined (x ∷ xs) ys = ap (λ zs. x ++ zs) (joined xs ys) ∙ sym (append_assoc x (concatenation xs) (concatenation ys))

module _ (texts : NumberedTexts) (left : ℕ) (way : List TextId) (text : TextId) where
  abbrev pub by_line : List (List Outcome)
  by_line = all_by_line left (alone texts way text)

  -- what the first lines give
  abbrev pub gave : ℕ → List Outcome
  gave before = concatenation (take before by_line)

  abbrev pub gives : ParsedLine → List Outcome
  gives line = parsed_outcomes (enter_with left) texts way line

  pub begun : (most : ℕ) (old : List Entry) → Gathers most old old None (gave 0)
  begun most old behind = ap (λ os. gathered most old None (os ++ behind)) (sym (ap concatenation (none-taken by_line)))

module _ (carry : CarryLaws) (texts : NumberedTexts) (left : ℕ) (way : List TextId) (text : TextId) where
  abbrev all_lines : List (List Outcome)
  all_lines = by_line texts left way text

  abbrev done_by : ℕ → List Outcome
  done_by before = gave texts left way text before

  abbrev line_gives : ParsedLine → List Outcome
  line_gives line = gives texts left way text line

  line-is : (before : ℕ) (line : ParsedLine) → slice_get (parsed_lines texts text) before ≡ Some line → slice_get all_lines before ≡ Some (line_gives line)
  line-is before line at =
      ap (λ ls. slice_get ls before) (text-gives carry left texts way text) ∙ get-map line_gives (parsed_lines texts text) before ∙ ap (option_map line_gives) at

  pub line-left : (before : ℕ) (line : ParsedLine) → slice_get (parsed_lines texts text) before ≡ Some line → drop before all_lines ≡ line_gives line ∷ drop (suc before) all_lines
  line-left before line at = at-place all_lines before (line_gives line) (line-is before line at)

  pub gave-next : (before number : ℕ) (line : ParsedLine) → slice_get (parsed_lines texts text) before ≡ Some line → number ≡ suc before → done_by number ≡ done_by before ++ line_gives line
  gave-next before number line at is =
      ap done_by is ∙ ap concatenation (take-next all_lines before (line_gives line) (line-is before line at))
      ∙ joined (take before all_lines) (line_gives line ∷ []) ∙ ap (λ os. done_by before ++ os) (append-nil (line_gives line))

  -- what they give, and what is left
  pub gave-more : (before : ℕ) → all left (alone texts way text) ≡ done_by before ++ concatenation (drop before all_lines)
  gave-more before = sym (ap concatenation (take-append-drop before all_lines)) ∙ joined (take before all_lines) (drop before all_lines)

  pub none-left : (before : ℕ) → slice_get (parsed_lines texts text) before ≡ None → drop before all_lines ≡ []
  none-left before none =
      past-end all_lines before (ap (λ ls. slice_get ls before) (text-gives carry left texts way text) ∙ get-map line_gives (parsed_lines texts text) before ∙ ap (option_map line_gives) none)

  pub gave-all : (before : ℕ) → slice_get (parsed_lines texts text) before ≡ None → done_by before ≡ all left (alone texts way text)
  gave-all before none = sym (append-nil (done_by before)) ∙ ap (λ ls. done_by before ++ concatenation ls) (sym (none-left before none)) ∙ sym (gave-more before)

  -- ---- What is gathered so far.

  module _ (most : ℕ) (old mid : List Entry) (before : ℕ) (so_far : Gathers most old mid None (done_by before)) where
    pub done : slice_get (parsed_lines texts text) before ≡ None → Gathers most old mid None (all left (alone texts way text))
    done none = subst (Gathers most old mid None) (gave-all before none) so_far

    pub overfull : most < length mid → Gathers most old mid None (all left (alone texts way text))
    overfull many = subst (Gathers most old mid None) (sym (gave-more before)) (full-gathered most old mid (done_by before) _ many so_far)

    module _ (new : List Entry) (number : ℕ) (line : ParsedLine) (at : slice_get (parsed_lines texts text) before ≡ Some line) (is : number ≡ suc before) where
      pub line-gathered : (end : Option Fault) → Gathers most mid new end (line_gives line) → Gathers most old new end (done_by number)
      line-gathered end step =
          subst (Gathers most old new end) (sym (gave-next before number line at is)) (then-gathered most old mid new end (done_by before) (line_gives line) so_far step)

      pub line-ended : (fault : Fault) → Gathers most mid new (Some fault) (line_gives line) → Gathers most old new (Some fault) (all left (alone texts way text))
      line-ended fault step =
          subst (Gathers most old new (Some fault)) (sym (gave-more number)) (ended-gathered most old new fault (done_by number) _ (line-gathered (Some fault) step))
