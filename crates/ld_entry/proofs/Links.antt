-- An expansion below a reference, and in a colour.
use Rattle.std.proofs.Common.{◌≡◌, ◌≤◌, ◌+◌, ℕ, suc, Bool, true, false, cond, List, [], ◌∷◌, ◌++◌, length, map, take, drop, Option, Some, None, Ok, Err, inl, inr, ⊎_elim, refl, ap, sym, ◌∙◌, append_assoc, arith}
use Rattle.std.specs.Prelude.{◌⊎◌, nat_lt}
use Rattle.std.proofs.lemmas.Bool.{ltb-false, ltb-true}
use Rattle.std.proofs.lemmas.List.{drop_all, length-map, length-take, map-append, take-append-drop, take-map}
use Rattle.ld_bfc.specs.Laws.{WithLaws}
use Rattle.ld_colour.specs.Laws.{UnderLaws}
use Rattle.ld_colour.specs.declared.colour.Colour.{Colour}
use Rattle.ld_entry.proofs.Action.{all-below, and-true}
use Rattle.ld_entry.proofs.Cuts.{answer_by-first, carried_outcome-split, first_fault-behind, first_fault-carried_outcome, first_fault-stays, from_fault, length-no_fault, split}
use Rattle.ld_entry.specs.Answers.{answer, answer_by, answer_of, entries_before, first_fault, left_below}
use Rattle.ld_entry.specs.Carrying.{Above, above_of, carried_entry, carried_outcome, colour_above, nothing_above, Outcome}
use Rattle.ld_entry.specs.Expansion.{end_of, expansion_of, neutral_expansion}
use Rattle.ld_entry.specs.Laws.{IsCarried, LinkLaw, tinted_entry, TintLaw}
use Rattle.ld_entry.specs.Outcomes.{all, all_by_line, concatenation, context_of}
use Rattle.ld_entry.specs.declared.entry.Entry.{Entry}
use Rattle.ld_entry.specs.declared.entry.Entry.TheVariants.{Drawn, Part}
use Rattle.ld_entry.specs.declared.entry.Fault.{Fault}
use Rattle.ld_entry.specs.declared.entry.Outer.{Outer}

-- ---- Carried outcomes begin with what is carried of the expansion.

-- what is made of the entries that the expansion leaves out, and of what follows them
left_out : (above : Above) (most : ℕ) (xs : List Outcome) → List Outcome
left_out above most xs = map (carried_entry above) (drop (suc most) (entries_before xs)) ++ map (carried_outcome above) (from_fault xs)

cut_apart : (above : Above) (most : ℕ) (xs : List Outcome) → map (carried_outcome above) xs ≡ map (carried_entry above) (take (suc most) (entries_before xs)) ++ left_out above most xs
unfolding left_out
cut_apart above most xs =
    let entries = entries_before xs in
    let rest = map (carried_outcome above) (from_fault xs) in
    carried_outcome-split above xs ∙ ap (λ es. map (carried_entry above) es ++ rest) (sym (take-append-drop (suc most) entries)) ∙ ap (λ ys. ys ++ rest) (map-append (carried_entry above) (take (suc most) entries) (drop (suc most) entries)) ∙ append_assoc (map (carried_entry above) (take (suc most) entries)) _ rest

-- where no entry is left out
left_out-few : (above : Above) (most : ℕ) (xs : List Outcome) → length (entries_before xs) ≤ most → left_out above most xs ≡ map (carried_outcome above) (from_fault xs)
unfolding left_out
left_out-few above most xs few =
    ap (λ es. map (carried_entry above) es ++ map (carried_outcome above) (from_fault xs)) (drop_all (suc most) (entries_before xs) (omega arith))

-- the two cases of an end
end-some : (many : Bool) (first : Option Fault) (fault : Fault) → cond many None first ≡ Some fault → (many ≡ false) × (first ≡ Some fault)
end-some true first fault is = cc
end-some false first fault is = (refl, is)

end-none : (many : Bool) (first : Option Fault) → cond many None first ≡ None → (many ≡ true) ⊎ ((many ≡ false) × (first ≡ None))
end-none true first is = inl refl
end-none false first is = inr (refl, is)

endless : (above : Above) (most : ℕ) (xs : List Outcome) → first_fault (map (carried_entry above) (take (suc most) (entries_before xs))) ≡ None → end_of most xs ≡ None → (first_fault (map (carried_outcome above) xs) ≡ None) ⊎ (most + 1 ≤ length (entries_before (map (carried_outcome above) xs)))
endless above most xs fine is =
    ⊎_elim (λ many. inr (too_many many)) (λ few. inl (no_fault few.0 few.1)) (end-none _ _ is)
  where
    entries : List Entry
    entries = entries_before xs

    front : List Outcome
    front = map (carried_entry above) (take (suc most) entries)

    too_many : nat_lt most (length entries) ≡ true → most + 1 ≤ length (entries_before (map (carried_outcome above) xs))
    too_many many =
        let all_of_it : length front ≤ length (entries_before (map (carried_outcome above) xs)) = rw (cut_apart above most xs) (length-no_fault front (left_out above most xs) fine) in
        omega (arith, all_of_it, length-map (take (suc most) entries) (carried_entry above), length-take (suc most) entries, ltb-true most (length entries) many)

    no_fault : nat_lt most (length entries) ≡ false → first_fault xs ≡ None → first_fault (map (carried_outcome above) xs) ≡ None
    no_fault few none =
        ap first_fault (cut_apart above most xs) ∙ first_fault-behind front (left_out above most xs) fine ∙ ap first_fault (left_out-few above most xs (ltb-false most (length entries) few)) ∙ first_fault-carried_outcome above xs ∙ none

ended : (above : Above) (most : ℕ) (xs : List Outcome) (fault : Fault) → first_fault (map (carried_entry above) (take (suc most) (entries_before xs))) ≡ None → end_of most xs ≡ Some fault → first_fault (map (carried_outcome above) xs) ≡ Some fault
ended above most xs fault fine is =
    let at = end-some (nat_lt most (length (entries_before xs))) (first_fault xs) fault is in
    ap first_fault (cut_apart above most xs) ∙ first_fault-behind (map (carried_entry above) (take (suc most) (entries_before xs))) (left_out above most xs) fine ∙ ap first_fault (left_out-few above most xs (ltb-false most (length (entries_before xs)) at.0)) ∙ first_fault-carried_outcome above xs ∙ at.1

carried_as : (outer : Outer) (most : ℕ) (lines : List (List Outcome)) → IsCarried outer most (expansion_of most lines) (map (carried_outcome (above_of outer)) (concatenation lines))
carried_as outer most lines =
    let above = above_of outer in
    let xs = concatenation lines in
    let front = map (carried_entry above) (take (suc most) (entries_before xs)) in
    let rest = left_out above most xs in
    let apart = cut_apart above most xs in
    record { begins = (from_fault front ++ rest, apart ∙ ap (λ ys. ys ++ rest) (split front) ∙ append_assoc (map Ok (entries_before front)) (from_fault front) rest); refused = λ fault is. ap first_fault apart ∙ first_fault-stays front rest fault is; ended = λ fault fine is. ended above most xs fault fine is; endless = λ fine is. endless above most xs fine is }

-- ---- A colour.

carried_entry-colour_above : (colour : Colour) (entry : Entry) → carried_entry (colour_above colour) entry ≡ Ok (tinted_entry colour entry)
carried_entry-colour_above colour (Part file c source) = refl
carried_entry-colour_above colour (Drawn kind certified clip winding c source points) = rw (and-true certified, and-true clip) refl

colour_above-entries : (colour : Colour) (xs : List Outcome) → entries_before (map (carried_outcome (colour_above colour)) xs) ≡ map (tinted_entry colour) (entries_before xs)
colour_above-entries colour [] = refl
colour_above-entries colour (Err e ∷ xs) = refl
colour_above-entries colour (Ok entry ∷ xs) =
    ap (λ o. entries_before (o ∷ map (carried_outcome (colour_above colour)) xs)) (carried_entry-colour_above colour entry) ∙ ap (λ ys. tinted_entry colour entry ∷ ys) (colour_above-entries colour xs)

colour_above-fault : (colour : Colour) (xs : List Outcome) → first_fault (map (carried_outcome (colour_above colour)) xs) ≡ first_fault xs
colour_above-fault colour [] = refl
colour_above-fault colour (Err e ∷ xs) = refl
colour_above-fault colour (Ok entry ∷ xs) =
    ap (λ o. first_fault (o ∷ map (carried_outcome (colour_above colour)) xs)) (carried_entry-colour_above colour entry) ∙ colour_above-fault colour xs

module _ (unders : UnderLaws) (withs : WithLaws) where
  pub linked : LinkLaw
  unfolding neutral_expansion
  linked outer texts depth most way text =
      rw (all-below unders withs (above_of outer) (left_below depth way) texts way text) (carried_as outer most (all_by_line (left_below depth way) (context_of texts way text nothing_above)))

  pub tints : TintLaw
  unfolding answer neutral_expansion
  tints texts depth most root colour =
      let left = left_below depth [] in
      let xs : List Outcome = all left (context_of texts [] root nothing_above) in
      let entries = map (tinted_entry colour) (entries_before xs) in
      ap (answer_of most) (all-below unders withs (colour_above colour) left texts [] root) ∙ ap (λ es. answer_by most es (first_fault (map (carried_outcome (colour_above colour)) xs))) (colour_above-entries colour xs) ∙ ap (answer_by most entries) (colour_above-fault colour xs) ∙ sym (answer_by-first most entries (first_fault xs) (length (entries_before xs)) (length-map (entries_before xs) (tinted_entry colour))) ∙ ap (λ es. answer_by most es (end_of most xs)) (take-map (tinted_entry colour) (suc most) (entries_before xs))
