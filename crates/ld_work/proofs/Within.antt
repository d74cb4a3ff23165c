-- An expansion that is cut earlier, where that leaves all of it.
use Rattle.std.proofs.Common.{◌≡◌, ◌≤◌, ◌<◌, ◌++◌, ◌⊎◌, inl, inr, min, ℕ, suc, cond, List, [], ◌∷◌, length, None, Ok, Err, refl, ap, sym, ◌∙◌, subst, append_assoc, arith}
use Rattle.std.proofs.lemmas.Bool.{cases_lt, le-ltb}
use Rattle.std.proofs.lemmas.List.{length-take, take_all}
use Rattle.ld_names.specs.declared.file.TextId.{TextId}
use Rattle.ld_entry.specs.Answers.{entries_before, first_fault, left_below}
use Rattle.ld_entry.specs.Carrying.{Outcome}
use Rattle.ld_entry.specs.Expansion.{end_of, ends_behind, expansion_of, first_entries, neutral_expansion}
use Rattle.ld_entry.specs.NumberedTexts.{NumberedTexts}
use Rattle.ld_entry.specs.Outcomes.{all_by_line, concatenation}
use Rattle.ld_entry.specs.declared.entry.Expansion.{Expansion}
use Rattle.ld_work.specs.Inside.Gathering.{alone}

-- more outcomes have no fewer entries before a fault
no-fewer : (xs ys : List Outcome) → length (entries_before xs) ≤ length (entries_before (xs ++ ys))
no-fewer [] ys = omega arith
no-fewer (Err fault ∷ xs) ys = omega arith
no-fewer (Ok entry ∷ xs) ys = let rest = no-fewer xs ys in omega arith

module _ (cut most : ℕ) (le : cut ≤ most) where
  first-same : (xs : List Outcome) → length (entries_before xs) ≤ cut → first_entries cut xs ≡ first_entries most xs
  first-same xs few = take_all (suc cut) (entries_before xs) (omega arith) ∙ sym (take_all (suc most) (entries_before xs) (omega arith))

  end-same : (xs : List Outcome) → length (entries_before xs) ≤ cut → end_of cut xs ≡ end_of most xs
  end-same xs few =
      ap (λ b. cond b None (first_fault xs)) (le-ltb cut (length (entries_before xs)) few) ∙ sym (ap (λ b. cond b None (first_fault xs)) (le-ltb most (length (entries_before xs)) (omega arith)))

  ends-same : (before : List Outcome) (lines : List (List Outcome)) → length (entries_before (before ++ concatenation lines)) ≤ cut → ends_behind cut before lines ≡ ends_behind most before lines
  ends-same before [] few = refl
  ends-same before (line ∷ lines) few =
      let few' : length (entries_before ((before ++ line) ++ concatenation lines)) ≤ cut = subst (λ xs. length (entries_before xs) ≤ cut) (sym (append_assoc before line (concatenation lines))) few in
      let fewer = no-fewer (before ++ line) (concatenation lines) in
      ap (λ es. length es ∷ ends_behind cut (before ++ line) lines) (first-same (before ++ line) (omega arith))
      ∙ ap (λ ends. length (first_entries most (before ++ line)) ∷ ends) (ends-same (before ++ line) lines few')

  expansion-same : (lines : List (List Outcome)) → length (first_entries cut (concatenation lines)) ≤ cut → expansion_of cut lines ≡ expansion_of most lines
  expansion-same lines few =
      let long = length-take (suc cut) (entries_before (concatenation lines)) in
      let all : length (entries_before (concatenation lines)) ≤ cut = omega arith in
      ap (λ es. record { entries = es; line_ends = ends_behind cut [] lines; end = end_of cut (concatenation lines) }) (first-same (concatenation lines) all)
      ∙ ap (λ ends. record { entries = first_entries most (concatenation lines); line_ends = ends; end = end_of cut (concatenation lines) }) (ends-same [] lines all)
      ∙ ap (λ e. record { entries = first_entries most (concatenation lines); line_ends = ends_behind most [] lines; end = e }) (end-same (concatenation lines) all)

  longer-first : (xs : List Outcome) → length (first_entries cut xs) ≤ length (first_entries most xs)
  longer-first xs =
      let one = length-take (suc cut) (entries_before xs) in
      let other = length-take (suc most) (entries_before xs) in
      omega arith

module _ (texts : NumberedTexts) (depth most room cut : ℕ) (text : TextId) (given : Expansion) (is : given ≡ neutral_expansion texts depth cut [] text) (least : cut ≡ min most room) where
  abbrev lines : List (List Outcome)
  lines = all_by_line (left_below depth []) (alone texts [] text)

  pub within-is : length given.entries ≤ room → given ≡ neutral_expansion texts depth most [] text
  unfolding neutral_expansion
  within-is few = is ∙ by (cases_lt cut most)
    where
      by : (cut < most) ⊎ (most ≤ cut) → expansion_of cut lines ≡ expansion_of most lines
      by (inl less) =
          let size : length given.entries ≡ length (first_entries cut (concatenation lines)) = ap (λ (e : Expansion). length e.entries) is in
          expansion-same cut most (omega arith) lines (omega arith)
      by (inr enough) = let same : cut ≡ most = omega arith in ap (λ n. expansion_of n lines) same

  pub over : room < length given.entries → room < length (neutral_expansion texts depth most [] text).entries
  unfolding neutral_expansion
  over many =
      let size : length given.entries ≡ length (first_entries cut (concatenation lines)) = ap (λ (e : Expansion). length e.entries) is in
      let longer = longer-first cut most (omega arith) (concatenation lines) in
      omega arith
