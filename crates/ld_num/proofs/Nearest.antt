-- Rounding to the nearest whole number.
use Rattle.std.proofs.Common.{◌≡◌, ℕ, zero, suc, ◌+◌, ◌-◌, ◌*◌, ◌^◌, ◌<◌, ◌≤◌, min, cond, nat_le, List, [], ◌∷◌, ◌++◌, length, get_or, take, drop, subst, arith, refl, ◌∙◌, ap, append_assoc, ⊎_elim}
use Rattle.std.specs.Char.{digit_value}
use Rattle.std.specs.Str.Parse.{AllDigits, digits_value, digits_value_after}
use Rattle.std.proofs.Math.Nat.{one-le-pow, pow-le-pow_right, mul-div-mul_right, div-eq_of_lt-le, div-eq_of_lt, mul-le-mul_right, mul-le-mul_left, mul_comm, pow-succ'}
use Rattle.std.proofs.lemmas.Bool.{cases_lt, cond_both, leb-true, leb-false}
use Rattle.std.proofs.lemmas.Int.Digits.{digits_value-lt}
use Rattle.std.proofs.lemmas.List.{length-append, length-drop, length-take-le, take-append-drop}
use Rattle.std.proofs.lemmas.Nat.{pow-add}
use Rattle.std.proofs.lemmas.Str.{digit_value_digit}
use Rattle.std.proofs.lemmas.Str.Parse.{digit_from_value}
use Rattle.ld_num.specs.Number.{Numeral, millionths_of, nearest}
use Rattle.ld_num.proofs.Values.{value-append, value-split, all_digits-append, all_digits-drop}

pub tens : (k : ℕ) → 0 < 10 ^ k
tens k = one-le-pow k 10 (omega arith)

pub nearest-cancel : (p q c : ℕ) → 0 < c → nearest (p * c) (q * c) ≡ nearest p q
nearest-cancel p q c h =
    let above : 2 * (p * c) + q * c ≡ (2 * p + q) * c = omega arith in
    let below : 2 * (q * c) ≡ (2 * q) * c = omega arith in
    rw (above, below) (mul-div-mul_right (2 * p + q) (2 * q) h)

pub nearest-one : (p : ℕ) → nearest p 1 ≡ p
nearest-one p = omega arith

-- the first digit that is dropped decides
nearest_low : (v d r q : ℕ) → d < 5 → r < q → nearest (v * (10 * q) + (d * q + r)) (10 * q) ≡ v
nearest_low v d r q digit h =
    let few : d * q ≤ 4 * q = mul-le-mul_right q (omega arith) in
    div-eq_of_lt-le _ (omega arith) (omega arith)

nearest_high : (v d r q : ℕ) → 5 ≤ d → d < 10 → r < q → nearest (v * (10 * q) + (d * q + r)) (10 * q) ≡ v + 1
nearest_high v d r q high digit h =
    let many : 5 * q ≤ d * q = mul-le-mul_right q high in
    let few : d * q ≤ 9 * q = mul-le-mul_right q (omega arith) in
    div-eq_of_lt-le _ (omega arith) (omega arith)

-- what is added for the first digit that is dropped
abbrev pub up : ℕ → ℕ
up digit = cond (nat_le 53 digit) 1 0

nearest_at : (v b r q : ℕ) → digit_value b < 10 → r < q → nearest (v * (10 * q) + (digit_value b * q + r)) (10 * q) ≡ v + up b
nearest_at v b r q digit h =
    let d : digit_value b + 48 ≡ b = digit_value_digit b (digit_from_value b digit) in
    cond_both (nat_le 53 b) 1 0 (λ u. nearest (v * (10 * q) + (digit_value b * q + r)) (10 * q) ≡ v + u)
    (λ e. nearest_high v (digit_value b) r q (omega (arith, leb-true 53 b e)) digit h)
    (λ e. nearest_low v (digit_value b) r q (omega (arith, leb-false 53 b e)) h ∙ omega arith)

pub nearest_digits : (v b : ℕ) (ds : List ℕ) → AllDigits 10 (b ∷ ds) → nearest (digits_value_after 10 v (b ∷ ds)) (10 ^ length (b ∷ ds)) ≡ v + up b
nearest_digits v b ds digits =
    let q = 10 ^ length ds in
    let first = value-split (0 * 10 + digit_value b) ds in
    let e : digits_value_after 10 v (b ∷ ds) ≡ v * (10 * q) + (digit_value b * q + digits_value 10 ds) = omega (arith, value-split (v * 10 + digit_value b) ds) in
    let t : 10 ^ length (b ∷ ds) ≡ 10 * q = pow-succ' 10 (length ds) in
    rw (e, t) (nearest_at v b (digits_value 10 ds) q digits.0 (digits_value-lt 10 ds digits.1))

-- ---- the parts of a numeral, with the period moved to the right

right_parts : (whole kept dropped : List ℕ) → AllDigits 10 dropped → 0 < length dropped → nearest (digits_value 10 (whole ++ (kept ++ dropped)) * 10 ^ length kept) (10 ^ length (kept ++ dropped)) ≡ digits_value_after 10 (digits_value 10 whole) kept + up (get_or dropped 0 0)
right_parts whole kept [] digits h = absurd (omega arith)
right_parts whole kept (b ∷ ds) digits h =
    let p = 10 ^ length kept in
    let t : 10 ^ length (kept ++ b ∷ ds) ≡ 10 ^ length (b ∷ ds) * p = ap (λ k. 10 ^ k) (length-append kept (b ∷ ds)) ∙ pow-add 10 (length kept) (length (b ∷ ds)) ∙ mul_comm _ _ in
    rw (t, nearest-cancel (digits_value 10 (whole ++ (kept ++ b ∷ ds))) (10 ^ length (b ∷ ds)) p (tens _), value-append 0 whole (kept ++ b ∷ ds), value-append (digits_value 10 whole) kept (b ∷ ds)) (nearest_digits _ b ds digits)

pub right_dropped : (whole fraction : List ℕ) (places : ℕ) → AllDigits 10 fraction → places < length fraction → nearest (digits_value 10 (whole ++ fraction) * 10 ^ places) (10 ^ length fraction) ≡ digits_value_after 10 (digits_value 10 whole) (take places fraction) + up (get_or (drop places fraction) 0 0)
right_dropped whole fraction places digits h =
    let P : List ℕ → ℕ → Type 0 = λ fs k. nearest (digits_value 10 (whole ++ fs) * 10 ^ k) (10 ^ length fs) ≡ digits_value_after 10 (digits_value 10 whole) (take places fraction) + up (get_or (drop places fraction) 0 0) in
    subst (λ fs. P fs places) (take-append-drop places fraction)
    (subst (P (take places fraction ++ drop places fraction)) (length-take-le places fraction (omega arith))
    (right_parts whole (take places fraction) (drop places fraction) (all_digits-drop places fraction digits) (omega (arith, length-drop places fraction))))

pub right_zeros : (n f places : ℕ) → f ≤ places → nearest (n * 10 ^ places) (10 ^ f) ≡ n * 10 ^ (places - f)
right_zeros n f places h =
    let t : 10 ^ places ≡ 10 ^ (places - f) * 10 ^ f = ap (λ k. 10 ^ k) (omega arith) ∙ pow-add 10 (places - f) f in
    let e : n * 10 ^ places ≡ (n * 10 ^ (places - f)) * 10 ^ f = omega (arith, ap (λ x. n * x) t) in
    let one : 10 ^ f ≡ 1 * 10 ^ f = omega arith in
    rw e (ap (nearest (n * 10 ^ (places - f) * 10 ^ f)) one ∙ nearest-cancel (n * 10 ^ (places - f)) 1 (10 ^ f) (tens f) ∙ nearest-one _)

-- ---- and to the left

pub left_none : (whole fraction : List ℕ) (places : ℕ) → AllDigits 10 whole → AllDigits 10 fraction → length whole < places → nearest (digits_value 10 (whole ++ fraction)) (10 ^ (length fraction + places)) ≡ 0
left_none whole fraction places w f h =
    let ds = whole ++ fraction in
    let small : digits_value 10 ds < 10 ^ length ds = digits_value-lt 10 ds (all_digits-append whole fraction w f) in
    let more : 10 ^ (length ds + 1) ≤ 10 ^ (length fraction + places) = pow-le-pow_right (omega arith) (omega (arith, length-append whole fraction)) in
    div-eq_of_lt (omega (arith, pow-add 10 (length ds) 1))

left_parts : (kept dropped fraction : List ℕ) → AllDigits 10 dropped → AllDigits 10 fraction → 0 < length dropped → nearest (digits_value 10 ((kept ++ dropped) ++ fraction)) (10 ^ (length fraction + length dropped)) ≡ digits_value 10 kept + up (get_or dropped 0 0)
left_parts kept [] fraction d f h = absurd (omega arith)
left_parts kept (b ∷ ds) fraction d f h =
    let t : length fraction + length (b ∷ ds) ≡ length (b ∷ (ds ++ fraction)) = omega (arith, length-append ds fraction) in
    rw (t, append_assoc kept (b ∷ ds) fraction, value-append 0 kept (b ∷ (ds ++ fraction))) (nearest_digits _ b (ds ++ fraction) (d.0, all_digits-append ds fraction d.1 f))

pub left_dropped : (whole fraction : List ℕ) (places : ℕ) → AllDigits 10 whole → AllDigits 10 fraction → 0 < places → places ≤ length whole → nearest (digits_value 10 (whole ++ fraction)) (10 ^ (length fraction + places)) ≡ digits_value 10 (take (length whole - places) whole) + up (get_or (drop (length whole - places) whole) 0 0)
left_dropped whole fraction places w f some h =
    let k = length whole - places in
    let P : List ℕ → ℕ → Type 0 = λ ds n. nearest (digits_value 10 (ds ++ fraction)) (10 ^ (length fraction + n)) ≡ digits_value 10 (take k whole) + up (get_or (drop k whole) 0 0) in
    let n : length (drop k whole) ≡ places = omega (arith, length-drop k whole) in
    subst (λ ds. P ds places) (take-append-drop k whole)
    (subst (P (take k whole ++ drop k whole)) n
    (left_parts (take k whole) (drop k whole) fraction (all_digits-drop k whole w) f (omega arith)))

-- ---- the number of a numeral, in millionths

pub millionths_right : (n : Numeral) → n.lowered ≤ 6 + n.raised → millionths_of n ≡ nearest (digits_value 10 (n.whole ++ n.fraction) * 10 ^ (6 + n.raised - n.lowered)) (10 ^ length n.fraction)
unfolding millionths_of
millionths_right n h =
    let v = digits_value 10 (n.whole ++ n.fraction) in
    let c = 10 ^ n.lowered in
    let k = 6 + n.raised - n.lowered in
    let six : 10 ^ (6 + n.raised) ≡ 10 ^ 6 * 10 ^ n.raised = pow-add 10 6 n.raised in
    let parts : 10 ^ (6 + n.raised) ≡ 10 ^ k * c = ap (λ k. 10 ^ k) (omega arith) ∙ pow-add 10 k n.lowered in
    let above : 10 ^ 6 * (v * 10 ^ n.raised) ≡ v * 10 ^ k * c = omega (arith, ap (λ x. v * x) six, ap (λ x. v * x) parts) in
    rw (above, pow-add 10 (length n.fraction) n.lowered) (nearest-cancel (v * 10 ^ k) (10 ^ length n.fraction) c (tens _))

pub millionths_left : (n : Numeral) → 6 + n.raised < n.lowered → millionths_of n ≡ nearest (digits_value 10 (n.whole ++ n.fraction)) (10 ^ (length n.fraction + (n.lowered - (6 + n.raised))))
unfolding millionths_of
millionths_left n h =
    let v = digits_value 10 (n.whole ++ n.fraction) in
    let c = 10 ^ (6 + n.raised) in
    let k = length n.fraction + (n.lowered - (6 + n.raised)) in
    let six : c ≡ 10 ^ 6 * 10 ^ n.raised = pow-add 10 6 n.raised in
    let above : 10 ^ 6 * (v * 10 ^ n.raised) ≡ v * c = omega (arith, ap (λ x. v * x) six) in
    let below : 10 ^ (length n.fraction + n.lowered) ≡ 10 ^ k * c = ap (λ k. 10 ^ k) (omega arith) ∙ pow-add 10 k (6 + n.raised) in
    rw (above, below) (nearest-cancel v (10 ^ k) c (tens _))

-- ---- sums that stop growing at c

few_zeros : (n c k : ℕ) → k < 13 → c ≤ 2 ^ 64 - 1 → min (min (n * 10 ^ min k 13) (2 ^ 64 - 1)) c ≡ min (n * 10 ^ k) c
few_zeros n c k h w = let e : min k 13 ≡ k = omega arith in rw e (omega arith)

past_zeros : (n c k : ℕ) → 13 ≤ k → c ≤ 10 ^ 13 → min (min (n * 10 ^ min k 13) (2 ^ 64 - 1)) c ≡ min (n * 10 ^ k) c
past_zeros zero c k h w = omega arith
past_zeros (suc n) c k h w =
    let e : min k 13 ≡ 13 = omega arith in
    let more : 10 ^ 13 ≤ 10 ^ k = pow-le-pow_right (omega arith) h in
    let most : suc n * 10 ^ 13 ≤ suc n * 10 ^ k = mul-le-mul_left (suc n) more in rw e (omega arith)

pub many_zeros : (n c k : ℕ) → c ≤ 10 ^ 13 → c ≤ 2 ^ 64 - 1 → min (min (n * 10 ^ min k 13) (2 ^ 64 - 1)) c ≡ min (n * 10 ^ k) c
many_zeros n c k h w =
    ⊎_elim (λ few. few_zeros n c k few w) (λ many. past_zeros n c k many h) (cases_lt k 13)

zeros_past : (n c k : ℕ) → c ≤ n → min (min n c * 10 ^ k) c ≡ min (n * 10 ^ k) c
zeros_past n c k h =
    let e : min n c ≡ c = omega arith in
    let more : c * 1 ≤ c * 10 ^ k = mul-le-mul_left c (tens k) in
    let above : c * 10 ^ k ≤ n * 10 ^ k = mul-le-mul_right (10 ^ k) h in rw e (omega arith)

zeros_within : (n c k : ℕ) → n < c → min (min n c * 10 ^ k) c ≡ min (n * 10 ^ k) c
zeros_within n c k h = let e : min n c ≡ n = omega arith in rw e refl

pub zeros_after : (n c k : ℕ) → min (min n c * 10 ^ k) c ≡ min (n * 10 ^ k) c
zeros_after n c k = ⊎_elim (zeros_within n c k) (zeros_past n c k) (cases_lt n c)
