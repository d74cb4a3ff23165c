-- The table of pairs of digits.
use Rattle.std.proofs.Common.{◌≡◌, ℕ, zero, suc, ◌+◌, ◌*◌, ◌/◌, ◌%◌, ◌<◌, Bool, true, ◌&&◌, [], ◌∷◌, get_or, eqb, refl, arith, ⊎_elim}
use Rattle.std.proofs.lemmas.Bool.{and_parts, cases_lt, eqb-true}
use Rattle.ld_num.specs.Short.{three_digits}
use Rattle.ld_num.specs.declared.print.TheConstants.{PAIRS}

abbrev are_pairs : ℕ → Bool
are_pairs zero = true
are_pairs (suc n) =
    (eqb (get_or PAIRS (n * 2) 0) (48 + n / 10) && eqb (get_or PAIRS (n * 2 + 1) 0) (48 + n % 10)) && are_pairs n

below : (n pair : ℕ) → are_pairs n ≡ true → pair < n → (get_or PAIRS (pair * 2) 0 ≡ 48 + pair / 10) × (get_or PAIRS (pair * 2 + 1) 0 ≡ 48 + pair % 10)
below zero pair are h = absurd (omega arith)
below (suc n) pair are h =
    ⊎_elim (λ less. below n pair (and_parts _ _ are).1 less)
    (λ more.
    let same : pair ≡ n = omega arith in
    let here = (and_parts _ _ are).0 in rw same (eqb-true _ _ (and_parts _ _ here).0, eqb-true _ _ (and_parts _ _ here).1))
    (cases_lt pair n)

pub pair_at : (pair : ℕ) → pair < 100 → (get_or PAIRS (pair * 2) 0 ≡ 48 + pair / 10) × (get_or PAIRS (pair * 2 + 1) 0 ≡ 48 + pair % 10)
pair_at pair h = below 100 pair refl h

pub digits_are : (number : ℕ) → number < 1000 → (48 + number / 100) ∷ get_or PAIRS (number % 100 * 2) 0 ∷ get_or PAIRS (number % 100 * 2 + 1) 0 ∷ [] ≡ three_digits number
digits_are number h =
    let at = pair_at (number % 100) (omega arith) in
    let a : number / 100 ≡ number / 10 / 10 = omega arith in
    let b : number % 100 / 10 ≡ number / 10 % 10 = omega arith in
    let c : number % 100 % 10 ≡ number % 10 = omega arith in rw (at.0, at.1, a, b, c) refl
