-- The ends of lines in the expansion of a root that is answered.
use Rattle.std.proofs.Common.{◌≡◌, ◌≤◌, ◌+◌, ℕ, zero, suc, List, [], ◌∷◌, ◌++◌, length, map, Option, Some, None, Ok, Err, refl, ap, sym, ◌∙◌, append_assoc, arith}
use Rattle.std.specs.Prelude.{slice_get}
use Rattle.std.proofs.lemmas.List.{length-append, length-map, take_all}
use Rattle.ld_bfc.specs.Laws.{WithLaws}
use Rattle.ld_colour.specs.Laws.{UnderLaws}
use Rattle.ld_entry.proofs.Action.{acted, beneath-nothing, map-concatenation}
use Rattle.ld_entry.proofs.Counts.{all-entries, no-faults}
use Rattle.ld_entry.specs.Answers.{answer, answer_by, entries_before, first_fault, left_below, outcome_counts, root_outcomes, running_sums, unless_too_many}
use Rattle.ld_entry.specs.Carrying.{Above, carried_entry, carried_outcome, colour_above, nothing_above, Outcome}
use Rattle.ld_entry.specs.Expansion.{ends_behind, first_entries, neutral_expansion}
use Rattle.ld_entry.specs.Laws.{LineEndsLaw}
use Rattle.ld_entry.specs.Outcomes.{all_by_line, concatenation, context_of}
use Rattle.ld_entry.specs.declared.entry.Entry.{Entry}
use Rattle.ld_entry.specs.declared.entry.Fault.{Fault}

-- outcomes without a fault, no more than are allowed, are the first entries
all-first : (most : ℕ) (xs : List Outcome) → first_fault xs ≡ None → length xs ≤ most → length (first_entries most xs) ≡ length xs
all-first most xs none few =
    let same = all-entries xs none in
    ap length (take_all (suc most) (entries_before xs) (omega arith)) ∙ sym same

sums-behind : (most : ℕ) (before : List Outcome) (lines : List (List Outcome)) → first_fault (before ++ concatenation lines) ≡ None → length (before ++ concatenation lines) ≤ most → ends_behind most before lines ≡ running_sums (length before) (map length lines)
sums-behind most before [] none few = refl
sums-behind most before (line ∷ lines) none few =
    let whole : (before ++ line) ++ concatenation lines ≡ before ++ (line ++ concatenation lines) = append_assoc before line (concatenation lines) in
    let fine = ap first_fault whole ∙ none in
    let size = ap length whole in
    let front = length-append (before ++ line) (concatenation lines) in
    let here : length (first_entries most (before ++ line)) ≡ length before + length line = all-first most (before ++ line) (no-faults (before ++ line) (concatenation lines) fine).0 (omega arith) ∙ length-append before line in
    let rest = sums-behind most (before ++ line) lines fine (omega arith) in
    ap (λ n. n ∷ ends_behind most (before ++ line) lines) here ∙ ap (λ ns. (length before + length line) ∷ ns) (rest ∙ ap (λ n. running_sums n (map length lines)) (length-append before line))

-- what is carried without a fault had none
none-before : (above : Above) (xs : List Outcome) → first_fault (map (carried_outcome above) xs) ≡ None → first_fault xs ≡ None
none-before above [] none = refl
none-before above (Err fault ∷ xs) none = cc
none-before above (Ok entry ∷ xs) none = by (carried_entry above entry) none (none-before above xs)
  where
    by : (outcome : Outcome) → first_fault (outcome ∷ map (carried_outcome above) xs) ≡ None → (first_fault (map (carried_outcome above) xs) ≡ None → first_fault xs ≡ None) → first_fault xs ≡ None
    by (Ok carried) none rest = rest none
    by (Err fault) none rest = cc

-- a colour changes no count
lengths-mapped : (f : Outcome → Outcome) (lines : List (List Outcome)) → map length (map (map f) lines) ≡ map length lines
lengths-mapped f [] = refl
lengths-mapped f (line ∷ lines) =
    ap (λ n. n ∷ map length (map (map f) lines)) (length-map line f) ∙ ap (λ ns. length line ∷ ns) (lengths-mapped f lines)

past-all : (entries : List Entry) (n : ℕ) → slice_get entries n ≡ None → length entries ≤ n
past-all [] n none = omega arith
past-all (entry ∷ entries) zero none = cc
past-all (entry ∷ entries) (suc n) none = let rest = past-all entries n none in omega arith

-- entries that are answered end without a fault, and are not too many
answered-by : (most : ℕ) (given entries : List Entry) (end : Option Fault) → answer_by most given end ≡ Ok entries → (end ≡ None) × (length given ≤ most)
answered-by most given entries end is = by (slice_get given most) end refl is
  where
    by : (many : Option Entry) (end : Option Fault) → slice_get given most ≡ many → unless_too_many many given end ≡ Ok entries → (end ≡ None) × (length given ≤ most)
    by (Some entry) end at is = cc
    by None (Some fault) at is = cc
    by None None at is = (refl, past-all given most at)

module _ (unders : UnderLaws) (withs : WithLaws) where
  pub line-ends : LineEndsLaw
  unfolding answer neutral_expansion outcome_counts
  line-ends texts depth most root colour entries is =
      let above = colour_above colour in
      let bare = all_by_line (left_below depth []) (context_of texts [] root nothing_above) in
      let carried : root_outcomes texts depth root colour ≡ map (map (carried_outcome above)) bare = ap (λ a. all_by_line (left_below depth []) (context_of texts [] root a)) (sym (beneath-nothing unders withs above)) ∙ (acted unders withs).further above (left_below depth []) (context_of texts [] root nothing_above) in
      let whole : concatenation (root_outcomes texts depth root colour) ≡ map (carried_outcome above) (concatenation bare) = ap concatenation carried ∙ map-concatenation (carried_outcome above) bare in
      let answered = answered-by most (entries_before (concatenation (root_outcomes texts depth root colour))) entries (first_fault (concatenation (root_outcomes texts depth root colour))) is in
      let size = all-entries (concatenation (root_outcomes texts depth root colour)) answered.0 in
      let same : length (concatenation (root_outcomes texts depth root colour)) ≡ length (concatenation bare) = ap length whole ∙ length-map (concatenation bare) (carried_outcome above) in
      sums-behind most [] bare (none-before above (concatenation bare) (sym (ap first_fault whole) ∙ answered.0)) (omega (arith, answered.1)) ∙ ap (running_sums 0) (sym (lengths-mapped (carried_outcome above) bare) ∙ sym (ap (map length) carried))
