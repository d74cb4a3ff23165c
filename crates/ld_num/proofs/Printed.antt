-- What is printed of a number is read as that number.
use Rattle.std.proofs.Common.{◌≡◌, ℕ, suc, ◌+◌, ◌-◌, ◌*◌, ◌/◌, ◌%◌, ◌^◌, ◌<◌, ◌≤◌, true, false, nat_le, nat_lt, ◌==◌, List, [], ◌∷◌, ◌++◌, length, get_or, take, drop, reverse, ℤ, pos, negsuc, unsigned_abs, Some, Ok, arith, refl, sym, ◌∙◌, ap, append-nil}
use Rattle.std.specs.Fmt.{decimal}
use Rattle.std.specs.Int.{IsInRange}
use Rattle.std.specs.Char.{digit_value}
use Rattle.std.specs.List.{suffix_len}
use Rattle.std.specs.Str.Parse.{AllDigits, digits_value, digits_value_after}
use Rattle.std.proofs.Math.Nat.{pow-suc}
use Rattle.std.proofs.lemmas.Bool.{eqb-true, le-leb, lt-ltb}
use Rattle.std.proofs.lemmas.Bool.Decides.{nat_tests}
use Rattle.std.proofs.lemmas.Fmt.{decimal_is_IsNumeral}
use Rattle.std.proofs.lemmas.List.{get_or-reverse, length-take, length-take-le, length-drop, take-append-drop, get_or-drop}
use Rattle.std.proofs.lemmas.List.Sums.{prefix_len_passes, suffix_len-le-length}
use Rattle.std.proofs.lemmas.Nat.{pow-add}
use Rattle.std.proofs.lemmas.Str.{digit_value_digit}
use Rattle.std.proofs.lemmas.Str.Parse.{digit_from_value}
use Rattle.ld_num.specs.Number.{Numeral, begins_with_minus, dec_of, millionths_of, nearest, numeral_of, powers_of, without_sign}
use Rattle.ld_num.specs.Scan.{numeral_in}
use Rattle.ld_num.specs.Text.{after_period, dec_text, six_digits, without_last_zeros}
use Rattle.ld_num.proofs.Nearest.{millionths_right, nearest-cancel, nearest-one, tens}
use Rattle.ld_num.proofs.Scanned.{plain_end, pointed_end}
use Rattle.ld_num.proofs.Values.{all_digits-take, value-append, value-split}

-- ---- the six digits of a fraction

digit_of : (n : ℕ) → n < 10 → digit_value (48 + n) ≡ n
digit_of n h =
    let r : IsInRange 48 57 (48 + n) = (omega arith, omega arith) in omega (arith, digit_value_digit (48 + n) r)

place_of : (n : ℕ) → digit_value (48 + n % 10) ≡ n % 10
place_of n = digit_of (n % 10) (omega arith)

six_value : (size : ℕ) → digits_value 10 (six_digits size) ≡ size % 10 ^ 6
six_value size =
    rw (place_of (size / 100000), place_of (size / 10000), place_of (size / 1000), place_of (size / 100), place_of (size / 10), place_of size) (omega arith)

is_place : (n : ℕ) → digit_value (48 + n % 10) < 10
is_place n = rw (place_of n) (omega arith)

pub six_are_digits : (size : ℕ) → AllDigits 10 (six_digits size)
six_are_digits size =
    (is_place (size / 100000), (is_place (size / 10000), (is_place (size / 1000), (is_place (size / 100), (is_place (size / 10), (is_place size, tt))))))

-- ---- zeros at the end

zeros_value : (n : ℕ) (zs : List ℕ) → ((i : ℕ) → i < length zs → get_or zs i 0 ≡ 48) → digits_value_after 10 n zs ≡ n * 10 ^ length zs
zeros_value n [] h = omega arith
zeros_value n (z ∷ zs) h =
    let first : z ≡ 48 = h 0 (omega arith) in
    let d : digit_value z ≡ 0 = rw first refl in
    let rest = zeros_value (n * 10 + digit_value z) zs (λ i k. h (suc i) (omega arith)) in
    rw (pow-suc 10 (length zs)) (rest ∙ ap (λ k. (n * 10 + k) * 10 ^ length zs) d ∙ omega arith)

abbrev last_zeros : List ℕ → ℕ
last_zeros xs = suffix_len (λ b. b == 48) xs

last_are_zeros : (xs : List ℕ) (i : ℕ) → i < length (drop (length xs - last_zeros xs) xs) → get_or (drop (length xs - last_zeros xs) xs) i 0 ≡ 48
last_are_zeros xs i h =
    let most = suffix_len-le-length (λ b. b == 48) xs in
    let k = last_zeros xs - 1 - i in
    let within : k < last_zeros xs = omega (arith, length-drop (length xs - last_zeros xs) xs) in
    let place : length xs - 1 - k ≡ length xs - last_zeros xs + i = omega (arith, length-drop (length xs - last_zeros xs) xs) in
    let at = eqb-true _ _ (prefix_len_passes (λ b. b == 48) (reverse xs) k 0 within) in
    get_or-drop (length xs - last_zeros xs) xs i 0 ∙ ap (λ j. get_or xs j 0) (sym place) ∙ sym (get_or-reverse xs k 0 (omega arith)) ∙ at

length_without : (xs : List ℕ) → length (without_last_zeros xs) ≤ length xs
length_without xs = omega (arith, length-take (length xs - last_zeros xs) xs)

trimmed_value : (xs : List ℕ) → digits_value 10 xs ≡ digits_value 10 (without_last_zeros xs) * 10 ^ (length xs - length (without_last_zeros xs))
trimmed_value xs =
    let n = length xs - last_zeros xs in
    let whole : digits_value 10 xs ≡ digits_value 10 (take n xs ++ drop n xs) = ap (digits_value 10) (sym (take-append-drop n xs)) in
    let length_is : length (drop n xs) ≡ length xs - length (take n xs) = omega (arith, length-drop n xs, length-take-le n xs (omega arith)) in
    whole ∙ value-append 0 (take n xs) (drop n xs) ∙ zeros_value _ (drop n xs) (last_are_zeros xs) ∙ ap (λ k. digits_value 10 (take n xs) * 10 ^ k) length_is

-- ---- a size

pub made_end : (ws fs : List ℕ) → 0 < length ws + length fs → numeral_in ws fs [] ≡ Some (record { whole = ws; fraction = fs; raised = 0; lowered = 0 })
unfolding powers_of
made_end ws fs h =
    let some : nat_lt 0 (length ws + length fs) ≡ true = lt-ltb 0 _ h in rw some refl

pub with_fraction : (ws fs : List ℕ) → AllDigits 10 ws → AllDigits 10 fs → numeral_of (ws ++ after_period fs) ≡ numeral_in ws fs []
with_fraction ws [] w f = plain_end ws w
with_fraction ws (d ∷ ds) w f =
    let e = pointed_end ws 46 (d ∷ ds) w f refl in rw append-nil at e

exact : (n : Numeral) (size : ℕ) → n.raised ≡ 0 → n.lowered ≡ 0 → length n.fraction ≤ 6 → digits_value 10 n.whole ≡ size / 10 ^ 6 → digits_value 10 n.fraction * 10 ^ (6 - length n.fraction) ≡ size % 10 ^ 6 → millionths_of n ≡ size
exact n size raised lowered short whole fraction =
    let f = length n.fraction in
    let l = 10 ^ f in
    let places : 6 + n.raised - n.lowered ≡ 6 = omega arith in
    let places_are : 6 ≡ 6 - f + f = omega arith in
    let six : 10 ^ 6 ≡ 10 ^ (6 - f) * l = ap (λ k. 10 ^ k) places_are ∙ pow-add 10 (6 - f) f in
    let value = value-append 0 n.whole n.fraction ∙ value-split (digits_value 10 n.whole) n.fraction in
    let split : size ≡ size / 10 ^ 6 * 10 ^ 6 + size % 10 ^ 6 = omega arith in
    let above : digits_value 10 (n.whole ++ n.fraction) * 10 ^ 6 ≡ size * l = omega (arith, value, ap (λ x. digits_value 10 n.fraction * x) six, ap (λ x. x * l) fraction, ap (λ x. x * l) whole, ap (λ x. x * l) split) in
    let one : l ≡ 1 * l = omega arith in
    millionths_right n (omega arith) ∙ rw (places, above) (ap (nearest (size * l)) one ∙ nearest-cancel size 1 l (tens f) ∙ nearest-one size)

pub size_again : (size : ℕ) → size ≤ 10 ^ 12 → (n : Numeral) × (numeral_of (decimal (size / 10 ^ 6) ++ after_period (without_last_zeros (six_digits size))) ≡ Some n) × (millionths_of n ≡ size)
size_again size h =
    let ws = decimal (size / 10 ^ 6) in
    let fs = without_last_zeros (six_digits size) in
    let small : size / 10 ^ 6 < 2 ^ 64 = omega arith in
    let numeral = decimal_is_IsNumeral (size / 10 ^ 6) small in
    let n : Numeral = record { whole = ws; fraction = fs; raised = 0; lowered = 0 } in
    let zeros = trimmed_value (six_digits size) in
    let short : length fs ≤ 6 = length_without (six_digits size) in
    (n, with_fraction ws fs numeral.0.1 (all_digits-take _ _ (six_are_digits size)) ∙ made_end ws fs (omega (arith, numeral.0.0)), exact n size refl refl short numeral.1 (sym zeros ∙ six_value size))

-- ---- a number

pub unsigned : (ws rest : List ℕ) → AllDigits 10 ws → 0 < length ws → (without_sign (ws ++ rest) ≡ ws ++ rest) × (begins_with_minus (ws ++ rest) ≡ false)
unsigned [] rest w h = absurd (omega arith)
unsigned (b ∷ ws) rest w h =
    let r : IsInRange 48 57 b = digit_from_value b w.0 in
    let minus : (b == 45) ≡ false = grind (arith, nat_tests) in
    let plus : (b == 43) ≡ false = grind (arith, nat_tests) in (rw (plus, minus) refl, minus)

pub dec_again : (z : ℤ) → unsigned_abs z ≤ 10 ^ 12 → dec_of (dec_text z) ≡ Ok z
unfolding dec_of dec_text millionths_of
dec_again (pos size) h =
    let again = size_again size h in
    let numeral = decimal_is_IsNumeral (size / 10 ^ 6) (omega arith) in
    let plain = unsigned (decimal (size / 10 ^ 6)) (after_period (without_last_zeros (six_digits size))) numeral.0.1 numeral.0.0 in
    let within : nat_le size (10 ^ 12) ≡ true = le-leb size (10 ^ 12) h in rw (plain.0, plain.1, again.1, again.2, within) refl
dec_again (negsuc less) h =
    let again = size_again (suc less) h in
    let within : nat_le (suc less) (10 ^ 12) ≡ true = le-leb (suc less) (10 ^ 12) h in rw (again.1, again.2, within) refl
