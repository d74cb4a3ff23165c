-- The last component of a name, behind one slash after another.
use Rattle.std.proofs.Common.{◌≡◌, ◌+◌, ◌<◌, ◌≤◌, ◌==◌, ℕ, Bool, false, true, cond, List, [], ◌∷◌, drop, length, nat_lt, arith, refl, ap, sym, ◌∙◌, Some, None, unwrap_or}
use Rattle.std.specs.List.{before_first, last_or, position, position_or_len, slice_split}
use Rattle.std.proofs.lemmas.Bool.Decides.{nat_tests}
use Rattle.std.proofs.lemmas.List.Splits.{length-slice_split, slice_split_first, slice_split_none}
use Rattle.std.proofs.lemmas.List.Sums.{fails_before_first}
use Rattle.ld_check.specs.Header.{last_component}

position-some : (p : ℕ → Bool) (xs : List ℕ) (place : ℕ) → position p xs ≡ Some place → (position_or_len p xs ≡ place) × (position_or_len p xs < length xs)
position-some p xs place is = by (nat_lt (position_or_len p xs) (length xs)) refl is
  where
    by : (b : Bool) → nat_lt (position_or_len p xs) (length xs) ≡ b → cond b (Some (position_or_len p xs)) None ≡ Some place → (position_or_len p xs ≡ place) × (position_or_len p xs < length xs)
    by true below is = (cc, grind (arith, nat_tests))
    by false below is = (cc, cc)

position-none : (p : ℕ → Bool) (xs : List ℕ) → position p xs ≡ None → length xs ≤ position_or_len p xs
position-none p xs is = by (nat_lt (position_or_len p xs) (length xs)) refl is
  where
    by : (b : Bool) → nat_lt (position_or_len p xs) (length xs) ≡ b → cond b (Some (position_or_len p xs)) None ≡ None → length xs ≤ position_or_len p xs
    by true below is = cc
    by false below is = grind (arith, nat_tests)

last-more : (part : List ℕ) (parts : List (List ℕ)) → 0 < length parts → last_or None (part ∷ parts) ≡ last_or None parts
last-more part [] some = absurd (omega (arith, some))
last-more part (next ∷ parts) some = refl

-- behind a slash
pub component_behind : (name : List ℕ) (place : ℕ) → position (λ byte. byte == 47) name ≡ Some place → last_component (drop (place + 1) name) ≡ last_component name
component_behind name place is =
    let is_slash : ℕ → Bool = λ byte. byte == 47 in
    let first = position-some is_slash name place is in
    let cut = slice_split_first is_slash name 0 first.1 in
    let parts = slice_split is_slash (drop (position_or_len is_slash name + 1) name) in
    let some : 0 < length parts = omega (arith, length-slice_split is_slash (drop (position_or_len is_slash name + 1) name)) in
    ap (λ n. last_component (drop (n + 1) name)) (sym first.0) ∙ ap (λ part. unwrap_or part []) (sym (last-more (before_first is_slash name) parts some) ∙ ap (last_or None) (sym cut))

-- without a slash
pub one_component : (name : List ℕ) → position (λ byte. byte == 47) name ≡ None → name ≡ last_component name
one_component name is =
    let is_slash : ℕ → Bool = λ byte. byte == 47 in
    let past = position-none is_slash name is in
    ap (λ parts. unwrap_or (last_or None parts) []) (sym (slice_split_none is_slash name (λ k d below. fails_before_first is_slash name k d (omega (arith, below, past)))))
