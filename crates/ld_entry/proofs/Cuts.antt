-- Lists of outcomes, cut.
use Rattle.std.proofs.Common.{◌≡◌, ◌≤◌, ◌<◌, ℕ, zero, suc, Bool, true, false, cond, List, [], ◌∷◌, ◌++◌, length, map, take, Option, Some, None, Result, Ok, Err, ⊎_elim, refl, ap, sym, ◌∙◌, arith}
use Rattle.std.proofs.lemmas.Bool.{cases_lt, le-ltb, lt-ltb, ltb-false, ltb-true}
use Rattle.std.proofs.lemmas.List.{map-append, take_all}
use Rattle.std.specs.Prelude.{nat_lt, slice_get}
use Rattle.ld_entry.specs.Answers.{answer_by, answer_of, until_end, entries_before, first_fault, unless_too_many}
use Rattle.ld_entry.specs.Carrying.{Above, carried_entry, carried_outcome, Outcome}
use Rattle.ld_entry.specs.Expansion.{end_of, first_entries}
use Rattle.ld_entry.specs.Laws.{at_end, CutLaws}
use Rattle.ld_entry.specs.declared.entry.Entry.{Entry}
use Rattle.ld_entry.specs.declared.entry.Fault.{Fault}

-- ---- The entries before the first fault, and the rest.

abbrev pub from_fault : List Outcome → List Outcome
from_fault [] = []
from_fault (Err fault ∷ xs) = Err fault ∷ xs
from_fault (Ok entry ∷ xs) = from_fault xs

pub split : (xs : List Outcome) → xs ≡ map Ok (entries_before xs) ++ from_fault xs
split [] = refl
split (Err fault ∷ xs) = refl
split (Ok entry ∷ xs) = ap (λ ys. Ok entry ∷ ys) (split xs)

map-carried_outcome-Ok : (above : Above) (entries : List Entry) → map (carried_outcome above) (map Ok entries) ≡ map (carried_entry above) entries
map-carried_outcome-Ok above [] = refl
map-carried_outcome-Ok above (entry ∷ entries) = ap (λ ys. carried_entry above entry ∷ ys) (map-carried_outcome-Ok above entries)

-- carried outcomes are the carried entries, and what is made of the rest
pub carried_outcome-split : (above : Above) (xs : List Outcome) → map (carried_outcome above) xs ≡ map (carried_entry above) (entries_before xs) ++ map (carried_outcome above) (from_fault xs)
carried_outcome-split above xs =
    ap (map (carried_outcome above)) (split xs) ∙ map-append (carried_outcome above) (map Ok (entries_before xs)) (from_fault xs) ∙ ap (λ ys. ys ++ map (carried_outcome above) (from_fault xs)) (map-carried_outcome-Ok above (entries_before xs))

pub first_fault-stays : (xs ys : List Outcome) (fault : Fault) → first_fault xs ≡ Some fault → first_fault (xs ++ ys) ≡ Some fault
first_fault-stays [] ys fault is = cc
first_fault-stays (Err e ∷ xs) ys fault is = is
first_fault-stays (Ok entry ∷ xs) ys fault is = first_fault-stays xs ys fault is

pub first_fault-behind : (xs ys : List Outcome) → first_fault xs ≡ None → first_fault (xs ++ ys) ≡ first_fault ys
first_fault-behind [] ys none = refl
first_fault-behind (Err e ∷ xs) ys none = cc
first_fault-behind (Ok entry ∷ xs) ys none = first_fault-behind xs ys none

pub first_fault-carried_outcome : (above : Above) (xs : List Outcome) → first_fault (map (carried_outcome above) (from_fault xs)) ≡ first_fault xs
first_fault-carried_outcome above [] = refl
first_fault-carried_outcome above (Err e ∷ xs) = refl
first_fault-carried_outcome above (Ok entry ∷ xs) = first_fault-carried_outcome above xs

-- without a fault each outcome is an entry
pub length-no_fault : (xs ys : List Outcome) → first_fault xs ≡ None → length xs ≤ length (entries_before (xs ++ ys))
length-no_fault [] ys none = omega arith
length-no_fault (Err e ∷ xs) ys none = cc
length-no_fault (Ok entry ∷ xs) ys none =
    let more : length xs ≤ length (entries_before (xs ++ ys)) = length-no_fault xs ys none in omega arith

-- ---- Cuts.

cut-twice : (most : ℕ) (xs : List Outcome) → until_end most (until_end most xs) ≡ until_end most xs
cut-twice most [] = refl
cut-twice most (Err e ∷ xs) = refl
cut-twice zero (Ok entry ∷ xs) = refl
cut-twice (suc most) (Ok entry ∷ xs) = ap (λ ys. Ok entry ∷ ys) (cut-twice most xs)

cut-in_front : (most : ℕ) (xs ys : List Outcome) → until_end most (until_end most xs ++ ys) ≡ until_end most (xs ++ ys)
cut-in_front most [] ys = refl
cut-in_front most (Err e ∷ xs) ys = refl
cut-in_front zero (Ok entry ∷ xs) ys = refl
cut-in_front (suc most) (Ok entry ∷ xs) ys = ap (λ zs. Ok entry ∷ zs) (cut-in_front most xs ys)

-- a cut that leaves more, before one that leaves less
cut-longer : (most more : ℕ) (xs : List Outcome) → most ≤ more → until_end most (until_end more xs) ≡ until_end most xs
cut-longer most more [] le = refl
cut-longer most more (Err e ∷ xs) le = refl
cut-longer zero zero (Ok entry ∷ xs) le = refl
cut-longer zero (suc more) (Ok entry ∷ xs) le = refl
cut-longer (suc most) zero (Ok entry ∷ xs) le = absurd (omega arith)
cut-longer (suc most) (suc more) (Ok entry ∷ xs) le = ap (λ ys. Ok entry ∷ ys) (cut-longer most more xs (omega arith))

cut-behind : (most more : ℕ) (xs ys : List Outcome) → most ≤ more → until_end most (xs ++ until_end more ys) ≡ until_end most (xs ++ ys)
cut-behind most more [] ys le = cut-longer most more ys le
cut-behind most more (Err e ∷ xs) ys le = refl
cut-behind zero more (Ok entry ∷ xs) ys le = refl
cut-behind (suc most) more (Ok entry ∷ xs) ys le = ap (λ zs. Ok entry ∷ zs) (cut-behind most more xs ys (omega arith))

-- one outcome before two lists that are cut alike
onto : (most : ℕ) (x : Outcome) (xs ys : List Outcome) → ((n : ℕ) → most ≡ suc n → until_end n xs ≡ until_end n ys) → until_end most (x ∷ xs) ≡ until_end most (x ∷ ys)
onto most (Err e) xs ys same = refl
onto zero (Ok entry) xs ys same = refl
onto (suc most) (Ok entry) xs ys same = ap (λ zs. Ok entry ∷ zs) (same most refl)

cut-carried_outcome : (most more : ℕ) (above : Above) (xs : List Outcome) → most ≤ more → until_end most (map (carried_outcome above) (until_end more xs)) ≡ until_end most (map (carried_outcome above) xs)
cut-carried_outcome most more above [] le = refl
cut-carried_outcome most more above (Err e ∷ xs) le = refl
cut-carried_outcome most zero above (Ok entry ∷ xs) le = onto most (carried_entry above entry) [] (map (carried_outcome above) xs) (λ n is. absurd (omega arith))
cut-carried_outcome most (suc more) above (Ok entry ∷ xs) le =
    onto most (carried_entry above entry) (map (carried_outcome above) (until_end more xs)) (map (carried_outcome above) xs) (λ n is. cut-carried_outcome n more above xs (omega arith))

-- ---- Answers of cuts.

-- an entry before an answer
before : Entry → Result (List Entry) Fault → Result (List Entry) Fault
before entry (Ok entries) = Ok (entry ∷ entries)
before entry (Err fault) = Err fault

unless_too_many-onto : (entry : Entry) (found : Option Entry) (entries : List Entry) (end : Option Fault) → unless_too_many found (entry ∷ entries) end ≡ before entry (unless_too_many found entries end)
unfolding before
unless_too_many-onto entry (Some found) entries end = refl
unless_too_many-onto entry None entries None = refl
unless_too_many-onto entry None entries (Some fault) = refl

answer_by-onto : (most : ℕ) (entry : Entry) (entries : List Entry) (end : Option Fault) → answer_by (suc most) (entry ∷ entries) end ≡ before entry (answer_by most entries end)
answer_by-onto most entry entries end = unless_too_many-onto entry (slice_get entries most) entries end

answer_of-cut : (most : ℕ) (xs : List Outcome) → answer_of most (until_end most xs) ≡ answer_of most xs
answer_of-cut most [] = refl
answer_of-cut most (Err e ∷ xs) = refl
answer_of-cut zero (Ok entry ∷ xs) = refl
answer_of-cut (suc most) (Ok entry ∷ xs) =
    answer_by-onto most entry (entries_before (until_end most xs)) (first_fault (until_end most xs)) ∙ ap (before entry) (answer_of-cut most xs) ∙ sym (answer_by-onto most entry (entries_before xs) (first_fault xs))

-- what stands behind an entry too many does not count
too_many-any : (most : ℕ) (entries some more : List Entry) (end other : Option Fault) → most < length entries → unless_too_many (slice_get entries most) some end ≡ unless_too_many (slice_get entries most) more other
too_many-any most [] some more end other many = absurd (omega arith)
too_many-any zero (entry ∷ entries) some more end other many = refl
too_many-any (suc most) (entry ∷ entries) some more end other many = too_many-any most entries some more end other (omega arith)

slice_get-take : (most : ℕ) (entries : List Entry) → slice_get (take (suc most) entries) most ≡ slice_get entries most
slice_get-take most [] = refl
slice_get-take zero (entry ∷ entries) = refl
slice_get-take (suc most) (entry ∷ entries) = slice_get-take most entries

-- the first entries, and the end unless there are too many, give the answer of all
pub answer_by-first : (most : ℕ) (entries : List Entry) (end : Option Fault) (count : ℕ) → length entries ≡ count → answer_by most (take (suc most) entries) (cond (nat_lt most count) None end) ≡ answer_by most entries end
answer_by-first most entries end count is = by (nat_lt most count) refl
  where
    by : (many : Bool) → nat_lt most count ≡ many → answer_by most (take (suc most) entries) (cond many None end) ≡ answer_by most entries end
    by true e =
        let many : most < length entries = omega (arith, ltb-true most count e) in
        ap (λ o. unless_too_many o (take (suc most) entries) None) (slice_get-take most entries) ∙ too_many-any most entries (take (suc most) entries) entries None end many
    by false e =
        let few : length entries ≤ suc most = omega (arith, ltb-false most count e) in
        ap (λ es. answer_by most es end) (take_all (suc most) entries few)

-- ---- Entries and an end that are a cut.

nat_lt-suc : (m n : ℕ) → nat_lt (suc m) (suc n) ≡ nat_lt m n
nat_lt-suc m n =
    ⊎_elim (λ (lt : m < n). lt-ltb (suc m) (suc n) (omega arith) ∙ sym (lt-ltb m n lt)) (λ (ge : n ≤ m). le-ltb (suc m) (suc n) (omega arith) ∙ sym (le-ltb m n ge)) (cases_lt m n)

cut-shown : (most : ℕ) (xs : List Outcome) → map Ok (first_entries most xs) ++ at_end (end_of most xs) ≡ until_end most xs
cut-shown most [] = rw (le-ltb most 0 (omega arith)) refl
cut-shown most (Err e ∷ xs) = rw (le-ltb most 0 (omega arith)) refl
cut-shown zero (Ok entry ∷ xs) = rw (lt-ltb 0 (suc (length (entries_before xs))) (omega arith)) refl
cut-shown (suc most) (Ok entry ∷ xs) =
    ap (λ ys. Ok entry ∷ ys) (ap (λ b. map Ok (first_entries most xs) ++ at_end (cond b None (first_fault xs))) (nat_lt-suc most (length (entries_before xs))) ∙ cut-shown most xs)

entries_before-shown : (entries : List Entry) (end : Option Fault) → entries_before (map Ok entries ++ at_end end) ≡ entries
entries_before-shown [] None = refl
entries_before-shown [] (Some e) = refl
entries_before-shown (entry ∷ entries) end = ap (λ es. entry ∷ es) (entries_before-shown entries end)

first_fault-shown : (entries : List Entry) (end : Option Fault) → first_fault (map Ok entries ++ at_end end) ≡ end
first_fault-shown [] None = refl
first_fault-shown [] (Some e) = refl
first_fault-shown (entry ∷ entries) end = first_fault-shown entries end

cut-only : (most : ℕ) (xs : List Outcome) (entries : List Entry) (end : Option Fault) → map Ok entries ++ at_end end ≡ until_end most xs → (entries ≡ first_entries most xs) × (end ≡ end_of most xs)
cut-only most xs entries end is =
    let same = is ∙ sym (cut-shown most xs) in
    (sym (entries_before-shown entries end) ∙ ap entries_before same ∙ entries_before-shown (first_entries most xs) (end_of most xs), sym (first_fault-shown entries end) ∙ ap first_fault same ∙ first_fault-shown (first_entries most xs) (end_of most xs))

answer_by-shown : (most : ℕ) (xs : List Outcome) (entries : List Entry) (end : Option Fault) → map Ok entries ++ at_end end ≡ until_end most xs → answer_by most entries end ≡ answer_of most xs
answer_by-shown most xs entries end is =
    ap (λ es. answer_by most es end) (sym (entries_before-shown entries end)) ∙ ap (answer_by most (entries_before (map Ok entries ++ at_end end))) (sym (first_fault-shown entries end)) ∙ ap (answer_of most) is ∙ answer_of-cut most xs

pub cuts : CutLaws
cuts = record { twice = cut-twice; longer = cut-longer; in_front = cut-in_front; behind = λ most xs ys. cut-behind most most xs ys (omega arith); below = λ most above xs. cut-carried_outcome most most above xs (omega arith); answers = answer_of-cut; shown = cut-shown; only = cut-only; shown_answer = answer_by-shown }
