-- The table up to a number of texts.
use Rattle.std.proofs.Common.{◌≡◌, ℕ, suc, ◌+◌, ◌-◌, ◌<◌, ◌≤◌, List, [], ◌∷◌, ◌++◌, Option, None, cond, count_by, get_or, length, replicate, set, sym, ◌∙◌, ap, refl, arith, inl, inr, length-append}
use Rattle.std.specs.Option.{is_some}
use Rattle.std.proofs.lemmas.Bool.{cases_lt}
use Rattle.std.proofs.lemmas.List.{append_assoc, append-nil, get_or-append_right, get_or-replicate, get_or_append_left, get_or_past, length-replicate, length-set, replicate-append-replicate, set-append_left}
use Rattle.std.proofs.lemmas.List.Folds.{sum_by-replicate}
use Rattle.std.proofs.lemmas.List.Sums.{sum_by-append}
use Rattle.ld_cache.specs.declared.slot.Slot.{Slot}
use Rattle.ld_cache.specs.Inside.Table.{IsPut, whole}

pub whole-full : (slots : List (Option Slot)) (texts : ℕ) → texts ≤ length slots → whole slots texts ≡ slots
whole-full slots texts h =
    let none : texts - length slots ≡ 0 = omega (arith, h) in
    ap (λ n. slots ++ replicate n None) none ∙ append-nil slots

pub length-whole : (slots : List (Option Slot)) (texts : ℕ) → length slots ≤ texts → length (whole slots texts) ≡ texts
length-whole slots texts h = omega (arith, h, length-append slots (replicate (texts - length slots) None), length-replicate {A = Option Slot} (texts - length slots) None)

-- a table that is longer shows the same
pub whole-whole : (slots : List (Option Slot)) (len texts : ℕ) → len ≤ texts → whole (whole slots len) texts ≡ whole slots texts
whole-whole slots len texts h =
    let n = len - length slots in
    let left : texts - length (slots ++ replicate n None) ≡ (texts - length slots) - n = omega (arith, length-append slots (replicate n None), length-replicate {A = Option Slot} n None) in
    let sum : n + ((texts - length slots) - n) ≡ texts - length slots = omega (arith, h) in
    ap (λ k. (slots ++ replicate n None) ++ replicate k None) left
    ∙ (append_assoc slots (replicate n None) (replicate ((texts - length slots) - n) None) ∙ ap (λ xs. slots ++ xs) (replicate-append-replicate n ((texts - length slots) - n) None ∙ ap (λ k. replicate k None) sum))

pub whole-set : (slots : List (Option Slot)) (texts text : ℕ) (slot : Option Slot) → text < length slots → whole (set slots text slot) texts ≡ set (whole slots texts) text slot
whole-set slots texts text slot h =
    ap (λ n. set slots text slot ++ replicate (texts - n) None) (length-set slots text slot) ∙ sym (set-append_left slots (replicate (texts - length slots) None) text slot h)

none-at : (texts text : ℕ) → get_or {A = Option Slot} (replicate texts None) text None ≡ None
none-at texts text =
    elim (cases_lt text texts) [
      | inl below ↦ get_or-replicate texts text None None below
      | inr past ↦ get_or_past (replicate texts None) text None (omega (arith, past, length-replicate {A = Option Slot} texts None))
    ]

pub whole-at : (slots : List (Option Slot)) (texts text : ℕ) → get_or (whole slots texts) text None ≡ get_or slots text None
whole-at slots texts text =
    elim (cases_lt text (length slots)) [
      | inl below ↦ get_or_append_left slots (replicate (texts - length slots) None) None text below
      | inr past ↦ get_or-append_right slots (replicate (texts - length slots) None) (length slots) text None refl past ∙ (none-at (texts - length slots) (text - length slots) ∙ sym (get_or_past slots text None past))
    ]

-- a slot put into a table that was made longer
pub is-put : (old new : List (Option Slot)) (text : ℕ) (slot : Option Slot) → new ≡ set (whole old (text + 1)) text slot → IsPut old text slot new
is-put old new text slot e texts h =
    let longer = whole old (text + 1) in
    let within : text < length longer = omega (arith, length-append old (replicate (text + 1 - length old) None), length-replicate {A = Option Slot} (text + 1 - length old) None) in
    ap (λ slots. whole slots texts) e ∙ (whole-set longer texts text slot within ∙ ap (λ slots. set slots text slot) (whole-whole old (text + 1) texts (omega (arith, h))))

pub whole-more : (slots : List (Option Slot)) (texts : ℕ) → length slots < texts → whole (slots ++ None ∷ []) texts ≡ whole slots texts
whole-more slots texts h =
    let left : texts - length (slots ++ None ∷ []) ≡ texts - suc (length slots) = omega (arith, length-append slots (None ∷ [])) in
    let more : suc (texts - suc (length slots)) ≡ texts - length slots = omega (arith, h) in
    ap (λ n. (slots ++ None ∷ []) ++ replicate n None) left ∙ (append_assoc slots (None ∷ []) (replicate (texts - suc (length slots)) None) ∙ ap (λ n. slots ++ replicate n None) more)

pub whole-none : (texts : ℕ) → whole [] texts ≡ replicate texts None
whole-none texts = ap (λ n. replicate n None) (omega arith)

count-none : (texts : ℕ) → count_by is_some (replicate {A = Option Slot} texts None) ≡ 0
count-none texts = omega (arith, sum_by-replicate (λ (slot : Option Slot). cond (is_some slot) 1 0) texts None)

-- how many texts have a slot
pub count-whole : (slots : List (Option Slot)) (texts : ℕ) → count_by is_some (whole slots texts) ≡ count_by is_some slots
count-whole slots texts = omega (arith, sum_by-append (λ (slot : Option Slot). cond (is_some slot) 1 0) slots (replicate (texts - length slots) None), count-none (texts - length slots))
