-- Numerals at the front of a text.
use Rattle.std.proofs.Common.{◌≡◌, ℕ, ◌+◌, ◌-◌, ◌*◌, ◌^◌, ◌<◌, ◌≤◌, Bool, true, false, List, [], ◌∷◌, ◌++◌, length, arith, refl, sym, ◌∙◌, ap, append-nil, append_assoc, ℤ, Some, Ok}
use Rattle.std.specs.Char.{digit_value, is_ascii_digit}
use Rattle.std.specs.Int.{IsInRange}
use Rattle.std.specs.List.{list_all}
use Rattle.std.specs.Str.Parse.{AllDigits, digits_value, digits_value_after}
use Rattle.std.proofs.Math.Nat.{mul-le-mul_left, pow-le-pow_right}
use Rattle.std.proofs.lemmas.Bool.{and_from, and_parts}
use Rattle.std.proofs.lemmas.Bool.Decides.{nat_tests}
use Rattle.std.proofs.lemmas.Int.Digits.{digits_value-lt}
use Rattle.std.proofs.lemmas.List.{length-append}
use Rattle.std.proofs.lemmas.List.Folds.{list_all-append}
use Rattle.std.proofs.lemmas.Nat.{mul-le}
use Rattle.std.proofs.lemmas.Str.{digit_value_digit}
use Rattle.ld_num.specs.Field.{after_front_field, front_field, is_blank}
use Rattle.ld_num.specs.Front.{IsFront, IsFrontNumber, IsLed, is_field_end, minus_if, plain}
use Rattle.ld_num.specs.Number.{begins_with_minus, dec_of, millionths_of, numeral_of, without_sign}
use Rattle.ld_num.specs.Scan.{in_range}
use Rattle.ld_num.specs.Text.{after_period, is_numeral_byte}
use Rattle.ld_num.proofs.Cut.{Fails, before-fails, before-passes, from-fails, from-passes}
use Rattle.ld_num.proofs.Nearest.{millionths_right, right_zeros}
use Rattle.ld_num.proofs.Plain.{digits_are_plain, fraction_is_plain}
use Rattle.ld_num.proofs.Printed.{made_end, unsigned, with_fraction}
use Rattle.ld_num.proofs.Sizes.{in_range_is}
use Rattle.ld_num.proofs.Values.{all_digits-append, value-append, value-split, value_of_digit}

-- ---- digits at the front

pub led_more : (text rest more : List ℕ) (start number most byte : ℕ) → IsLed text start number rest most → rest ≡ byte ∷ more → is_ascii_digit byte ≡ true → IsLed text start (number * 10 + (byte - 48)) more (most + 1)
led_more text rest more start number most byte led is digit =
    let in_range : IsInRange 48 57 byte = grind (arith, nat_tests) in
    let value = digits_value_after 10 start led.digits in
    let next : number * 10 + (byte - 48) ≡ value * 10 + digit_value byte = omega (arith, led.number_is, digit_value_digit byte in_range) in
    record {
      digits = led.digits ++ byte ∷ [];
      are_digits = all_digits-append led.digits (byte ∷ []) led.are_digits (value_of_digit byte digit, tt);
      few = omega (arith, led.few, length-append led.digits (byte ∷ []));
      text_is = led.text_is ∙ ap (λ xs. led.digits ++ xs) is ∙ sym (append_assoc led.digits (byte ∷ []) more);
      number_is = next ∙ sym (value-append start led.digits (byte ∷ []));
    }

pub led_fewer : (text rest : List ℕ) (start number few most : ℕ) → few ≤ most → IsLed text start number rest few → IsLed text start number rest most
led_fewer text rest start number few most less led =
    record {
      digits = led.digits;
      are_digits = led.are_digits;
      few = omega (arith, led.few);
      text_is = led.text_is;
      number_is = led.number_is;
    }

pub led_small : (text rest : List ℕ) (start number most : ℕ) → IsLed text start number rest most → number < (start + 1) * 10 ^ most
led_small text rest start number most led =
    let power = 10 ^ length led.digits in
    let below : digits_value 10 led.digits < power = digits_value-lt 10 led.digits led.are_digits in
    let parts : number ≡ start * power + digits_value 10 led.digits = led.number_is ∙ value-split start led.digits in
    let longer : (start + 1) * power ≤ (start + 1) * 10 ^ most = mul-le-mul_left (start + 1) (pow-le-pow_right (omega arith) led.few) in
    omega (arith, below, parts, longer)

pub led_low : (text rest : List ℕ) (start number most : ℕ) → start < 10 ^ 7 → most ≤ 7 → IsLed text start number rest most → number < 10 ^ 14
led_low text rest start number most low few led =
    let powers : 10 ^ most ≤ 10 ^ 7 = pow-le-pow_right (omega arith) few in
    let product : (start + 1) * 10 ^ most ≤ 10 ^ 7 * 10 ^ 7 = mul-le (start + 1) (10 ^ most) (10 ^ 7) (10 ^ 7) (omega arith) powers in
    omega (arith, led_small text rest start number most led, product)

pub led_length : (text rest : List ℕ) (start number most : ℕ) (led : IsLed text start number rest most) → length text ≡ length led.digits + length rest
led_length text rest start number most led =
    ap length led.text_is ∙ length-append led.digits rest

-- ---- a numeral at the front

-- the digits one after the other, and zeros up to the sixth decimal
decimals : (ws fs : List ℕ) → length fs ≤ 6 → millionths_of (plain ws fs) ≡ digits_value_after 10 (digits_value 10 ws) fs * 10 ^ (6 - length fs)
decimals ws fs six =
    millionths_right (plain ws fs) (omega arith) ∙ rw (value-append 0 ws fs) (right_zeros (digits_value_after 10 (digits_value 10 ws) fs) (length fs) 6 six)

pub front_whole : (text rest : List ℕ) (number : ℕ) → IsLed text 0 number rest 7 → length rest < length text → IsFront text (number * 1000000) rest
front_whole text rest number led shorter =
    record {
      whole = led.digits;
      fraction = [];
      whole_digits = led.are_digits;
      fraction_digits = tt;
      some = omega (arith, led_length text rest 0 number 7 led);
      text_is = led.text_is ∙ ap (λ xs. xs ++ rest) (sym (append-nil led.digits));
      size_is = ap (λ n. n * 1000000) led.number_is ∙ sym (decimals led.digits [] (omega arith));
    }

pointed : (ds : List ℕ) → 0 < length ds → after_period ds ≡ 46 ∷ ds
pointed [] h = absurd (omega arith)
pointed (d ∷ ds) h = refl

pub front_pointed : (text behind fraction rest : List ℕ) (whole number places scale : ℕ) → IsLed text 0 whole behind 7 → behind ≡ 46 ∷ fraction → IsLed fraction whole number rest 6 → places ≡ length fraction - length rest → 0 < places → scale ≡ 10 ^ (6 - places) → IsFront text (number * scale) rest
front_pointed text behind fraction rest whole number places scale front period decimal places_are some scale_is =
    let ws = front.digits in
    let fs = decimal.digits in
    let count : places ≡ length fs = omega (arith, places_are, led_length fraction rest whole number 6 decimal) in
    let written : text ≡ (ws ++ 46 ∷ fs) ++ rest = front.text_is ∙ ap (λ xs. ws ++ xs) period ∙ ap (λ xs. ws ++ 46 ∷ xs) decimal.text_is ∙ sym (append_assoc ws (46 ∷ fs) rest) in
    record {
      whole = ws;
      fraction = fs;
      whole_digits = front.are_digits;
      fraction_digits = decimal.are_digits;
      some = omega arith;
      text_is = written ∙ ap (λ xs. (ws ++ xs) ++ rest) (sym (pointed fs (omega arith)));
      size_is = ap (λ n. n * scale) decimal.number_is ∙ ap (λ w. digits_value_after 10 w fs * scale) front.number_is ∙ ap (λ s. digits_value_after 10 (digits_value 10 ws) fs * s) (scale_is ∙ ap (λ k. 10 ^ (6 - k)) count) ∙ sym (decimals ws fs decimal.few);
    }

-- ---- what is read of it

no_sign : (ws fs : List ℕ) → AllDigits 10 ws → 0 < length ws + length fs → (without_sign (ws ++ after_period fs) ≡ ws ++ after_period fs) × (begins_with_minus (ws ++ after_period fs) ≡ false)
no_sign [] [] w h = absurd (omega arith)
no_sign [] (d ∷ ds) w h = (refl, refl)
no_sign (b ∷ ws) fs w h = unsigned (b ∷ ws) (after_period fs) w (omega arith)

numeral_is : (text rest : List ℕ) (size : ℕ) (f : IsFront text size rest) → numeral_of (f.whole ++ after_period f.fraction) ≡ Some (plain f.whole f.fraction)
numeral_is text rest size f =
    with_fraction f.whole f.fraction f.whole_digits f.fraction_digits ∙ made_end f.whole f.fraction f.some

range_is : (text rest : List ℕ) (size : ℕ) (is_negative : Bool) (value : ℤ) (f : IsFront text size rest) → in_range is_negative size ≡ Ok value → in_range is_negative (millionths_of (plain f.whole f.fraction)) ≡ Ok value
range_is text rest size is_negative value f e = ap (in_range is_negative) (sym f.size_is) ∙ e

front_read : (text rest : List ℕ) (size : ℕ) (is_negative : Bool) (value : ℤ) (f : IsFront text size rest) → in_range is_negative size ≡ Ok value → dec_of (minus_if is_negative ++ (f.whole ++ after_period f.fraction)) ≡ Ok value
unfolding dec_of millionths_of
front_read text rest size true value f e =
    rw (numeral_is text rest size f) (in_range_is true (millionths_of (plain f.whole f.fraction)) ∙ range_is text rest size true value f e)
front_read text rest size false value f e =
    let sign = no_sign f.whole f.fraction f.whole_digits f.some in
    rw (sign.0, sign.1) (rw (numeral_is text rest size f) (in_range_is false (millionths_of (plain f.whole f.fraction)) ∙ range_is text rest size false value f e))

bytes_are : (text rest : List ℕ) (size : ℕ) (f : IsFront text size rest) → list_all is_numeral_byte (f.whole ++ after_period f.fraction) ≡ true
bytes_are text rest size f =
    list_all-append is_numeral_byte f.whole (after_period f.fraction) ∙ and_from _ _ (digits_are_plain f.whole f.whole_digits) (fraction_is_plain f.fraction f.fraction_digits)

front_bytes : (text rest : List ℕ) (size : ℕ) (is_negative : Bool) (f : IsFront text size rest) → list_all is_numeral_byte (minus_if is_negative ++ (f.whole ++ after_period f.fraction)) ≡ true
front_bytes text rest size true f = bytes_are text rest size f
front_bytes text rest size false f = bytes_are text rest size f

-- ---- the field at the front of a text

numeral_is_no_blank : (byte : ℕ) → is_numeral_byte byte ≡ true → is_blank byte ≡ false
numeral_is_no_blank byte h = grind (arith, nat_tests)

no_blanks : (bytes : List ℕ) → list_all is_numeral_byte bytes ≡ true → Fails is_blank bytes
no_blanks [] h = tt
no_blanks (byte ∷ bytes) h = (numeral_is_no_blank byte (and_parts _ _ h).0, no_blanks bytes (and_parts _ _ h).1)

field_before : (front rest : List ℕ) → Fails is_blank front → is_field_end rest ≡ true → front_field (front ++ rest) ≡ front
field_before front [] f end = before-fails is_blank front [] f ∙ append-nil front
field_before front (byte ∷ rest) f end =
    before-fails is_blank front (byte ∷ rest) f ∙ ap (λ xs. front ++ xs) (before-passes is_blank byte rest end) ∙ append-nil front

rest_behind : (front rest : List ℕ) → Fails is_blank front → is_field_end rest ≡ true → after_front_field (front ++ rest) ≡ rest
rest_behind front [] f end = from-fails is_blank front [] f
rest_behind front (byte ∷ rest) f end = from-fails is_blank front (byte ∷ rest) f ∙ from-passes is_blank byte rest end

pub front_number_is : (text digits rest : List ℕ) (size : ℕ) (is_negative : Bool) (value : ℤ) → text ≡ minus_if is_negative ++ digits → IsFront digits size rest → in_range is_negative size ≡ Ok value → is_field_end rest ≡ true → IsFrontNumber text value rest
front_number_is text digits rest size is_negative value sign f range end =
    let numeral = f.whole ++ after_period f.fraction in
    let front = minus_if is_negative ++ numeral in
    let whole : text ≡ front ++ rest = sign ∙ ap (λ xs. minus_if is_negative ++ xs) f.text_is ∙ sym (append_assoc (minus_if is_negative) numeral rest) in
    let plain = no_blanks front (front_bytes digits rest size is_negative f) in
    record {
      number = ap (λ xs. dec_of (front_field xs)) whole ∙ ap dec_of (field_before front rest plain end) ∙ front_read digits rest size is_negative value f range;
      rest_is = ap after_front_field whole ∙ rest_behind front rest plain end;
    }
