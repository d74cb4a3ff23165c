-- Digits, and the numbers that they write.
use Rattle.std.proofs.Common.{◌≡◌, ℕ, zero, suc, ◌+◌, ◌-◌, ◌*◌, ◌^◌, ◌<◌, ◌≤◌, min, true, false, cond, ◌&&◌, nat_eq, List, [], ◌∷◌, ◌++◌, length, get_or, take, drop, arith, refl, sym, ◌∙◌, ap}
use Rattle.std.specs.Char.{digit_value, is_ascii_digit}
use Rattle.std.specs.Int.{IsInRange}
use Rattle.std.specs.List.{prefix_len, take_while}
use Rattle.std.specs.Str.{all_ascii_digits}
use Rattle.std.specs.Str.Parse.{AllDigits, digits_value, digits_value_after}
use Rattle.ld_num.specs.Number.{is_power}
use Rattle.std.proofs.Math.Nat.{pow-suc}
use Rattle.std.proofs.lemmas.Bool.{cond_both, and_parts}
use Rattle.std.proofs.lemmas.Bool.Decides.{nat_tests}
use Rattle.std.proofs.lemmas.List.{take_more}
use Rattle.std.proofs.lemmas.List.Sums.{take_while-cons}
use Rattle.std.proofs.lemmas.Str.{digit_value_digit}
use Rattle.std.proofs.lemmas.Str.Parse.{IsNumeralModel, digit_at, digits_value_short, numerals_by_value, tells_all_ascii_digits}

-- ---- bytes that are digits

pub own : IsNumeralModel (λ ds. all_ascii_digits ds ≡ true) (digits_value 10)
own = numerals_by_value _ tells_all_ascii_digits

pub value_of_digit : (b : ℕ) → is_ascii_digit b ≡ true → digit_value b < 10
value_of_digit b h =
    let in_range : IsInRange 48 57 b = grind (arith, nat_tests) in omega (arith, digit_value_digit b in_range)

-- all bytes are digits exactly where the digits at the front are all bytes
pub all_prefix : (xs : List ℕ) → all_ascii_digits xs ≡ nat_eq (prefix_len is_ascii_digit xs) (length xs)
all_prefix [] = refl
all_prefix (x ∷ xs) =
    elim (is_ascii_digit x) as (λ b. (b && all_ascii_digits xs) ≡ nat_eq (cond b (1 + prefix_len is_ascii_digit xs) 0) (suc (length xs))) [
      | true ↦ all_prefix xs ∙ grind (arith, nat_tests)
      | false ↦ grind (arith, nat_tests)
    ]

pub leading_digits_are : (xs : List ℕ) → AllDigits 10 (take_while is_ascii_digit xs)
leading_digits_are [] = tt
leading_digits_are (x ∷ xs) =
    rw (take_while-cons is_ascii_digit x xs) (cond_both (is_ascii_digit x) (x ∷ take_while is_ascii_digit xs) [] (AllDigits 10) (λ h. (value_of_digit x h, leading_digits_are xs)) (λ h. tt))

pub all_digits-append : (xs ys : List ℕ) → AllDigits 10 xs → AllDigits 10 ys → AllDigits 10 (xs ++ ys)
all_digits-append [] ys p q = q
all_digits-append (x ∷ xs) ys p q = (p.0, all_digits-append xs ys p.1 q)

pub all_digits-take : (n : ℕ) (xs : List ℕ) → AllDigits 10 xs → AllDigits 10 (take n xs)
all_digits-take zero xs h = tt
all_digits-take (suc n) [] h = tt
all_digits-take (suc n) (x ∷ xs) h = (h.0, all_digits-take n xs h.1)

pub all_digits-drop : (n : ℕ) (xs : List ℕ) → AllDigits 10 xs → AllDigits 10 (drop n xs)
all_digits-drop zero xs h = h
all_digits-drop (suc n) [] h = tt
all_digits-drop (suc n) (x ∷ xs) h = all_digits-drop n xs h.1

-- ---- the digits of an exponent

pub power_digits : (ds : List ℕ) → is_power ds ≡ true → AllDigits 10 ds
power_digits ds h = own.to ds (and_parts _ _ h).1

pub power_small : (ds : List ℕ) → is_power ds ≡ true → digits_value 10 ds < 1000
power_small ds h =
    let short : length ds ≤ 3 = grind (arith, nat_tests) in digits_value_short own ds 3 (and_parts _ _ h).1 short

-- ---- their value

pub value-append : (n : ℕ) (xs ys : List ℕ) → digits_value_after 10 n (xs ++ ys) ≡ digits_value_after 10 (digits_value_after 10 n xs) ys
value-append n [] ys = refl
value-append n (x ∷ xs) ys = value-append (n * 10 + digit_value x) xs ys

pub value-split : (n : ℕ) (ds : List ℕ) → digits_value_after 10 n ds ≡ n * 10 ^ length ds + digits_value 10 ds
value-split n [] = omega arith
value-split n (d ∷ ds) =
    let here = value-split (n * 10 + digit_value d) ds in
    let alone = value-split (0 * 10 + digit_value d) ds in rw (pow-suc 10 (length ds)) (omega (arith, here, alone))

-- ---- sums that stop growing at c

pub capped_more : (n c s i : ℕ) (ds : List ℕ) → AllDigits 10 ds → i < length ds → s ≡ min (digits_value_after 10 n (take i ds)) c → min (s * 10 + (get_or ds i 0 - 48)) c ≡ min (digits_value_after 10 n (take (i + 1) ds)) c
capped_more n c s i ds digits h e =
    let d = digit_value_digit (get_or ds i 0) (digit_at ds i digits h) in
    rw (take_more ds i 0 h, value-append n (take i ds) (get_or ds i 0 ∷ [])) (omega arith)

pub capped_after : (n c : ℕ) (ds : List ℕ) → min (digits_value_after 10 (min n c) ds) c ≡ min (digits_value_after 10 n ds) c
capped_after n c [] = omega arith
capped_after n c (d ∷ ds) =
    let m = min n c * 10 + digit_value d in
    let k = n * 10 + digit_value d in
    let e : min m c ≡ min k c = omega arith in
    sym (capped_after m c ds) ∙ ap (λ x. min (digits_value_after 10 x ds) c) e ∙ capped_after k c ds
