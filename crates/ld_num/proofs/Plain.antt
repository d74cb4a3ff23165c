-- The bytes of a printed number.
use Rattle.std.proofs.Common.{◌≡◌, ℕ, suc, ◌/◌, ◌^◌, ◌<◌, ◌≤◌, true, List, [], ◌∷◌, ◌++◌, length, ℤ, pos, negsuc, unsigned_abs, arith, refl, ◌∙◌, length-append}
use Rattle.std.specs.Char.{digit_value}
use Rattle.std.specs.Fmt.{decimal}
use Rattle.std.specs.Int.{IsInRange}
use Rattle.std.specs.List.{list_all}
use Rattle.std.specs.Str.Parse.{AllDigits}
use Rattle.std.proofs.lemmas.Bool.{and_from}
use Rattle.std.proofs.lemmas.Bool.Decides.{nat_tests}
use Rattle.std.proofs.lemmas.Fmt.{decimal_is_IsNumeral}
use Rattle.std.proofs.lemmas.List.Folds.{list_all-append}
use Rattle.std.proofs.lemmas.Str.Parse.{digit_from_value}
use Rattle.ld_num.specs.Text.{after_period, dec_text, is_numeral_byte, six_digits, without_last_zeros}
use Rattle.ld_num.proofs.Printed.{six_are_digits}
use Rattle.ld_num.proofs.Values.{all_digits-take}

digit_is_plain : (b : ℕ) → digit_value b < 10 → is_numeral_byte b ≡ true
digit_is_plain b h =
    let r : IsInRange 48 57 b = digit_from_value b h in grind (arith, nat_tests)

pub digits_are_plain : (ds : List ℕ) → AllDigits 10 ds → list_all is_numeral_byte ds ≡ true
digits_are_plain [] h = refl
digits_are_plain (d ∷ ds) h = and_from _ _ (digit_is_plain d h.0) (digits_are_plain ds h.1)

pub fraction_is_plain : (ds : List ℕ) → AllDigits 10 ds → list_all is_numeral_byte (after_period ds) ≡ true
fraction_is_plain [] h = refl
fraction_is_plain (d ∷ ds) h = digits_are_plain (d ∷ ds) h

abbrev size_text : ℕ → List ℕ
size_text size = decimal (size / 10 ^ 6) ++ after_period (without_last_zeros (six_digits size))

size_is_plain : (size : ℕ) → size ≤ 10 ^ 12 → list_all is_numeral_byte (size_text size) ≡ true
size_is_plain size h =
    let whole = decimal_is_IsNumeral (size / 10 ^ 6) (omega arith) in
    let fraction = all_digits-take _ _ (six_are_digits size) in
    list_all-append is_numeral_byte (decimal (size / 10 ^ 6)) (after_period (without_last_zeros (six_digits size))) ∙ and_from _ _ (digits_are_plain _ whole.0.1) (fraction_is_plain (without_last_zeros (six_digits size)) fraction)

size_is_some : (size : ℕ) → size ≤ 10 ^ 12 → 0 < length (size_text size)
size_is_some size h =
    let whole = decimal_is_IsNumeral (size / 10 ^ 6) (omega arith) in
    omega (arith, whole.0.0, length-append (decimal (size / 10 ^ 6)) (after_period (without_last_zeros (six_digits size))))

pub some_printed : (value : ℤ) → unsigned_abs value ≤ 10 ^ 12 → 0 < length (dec_text value)
unfolding dec_text
some_printed (pos size) h = size_is_some size h
some_printed (negsuc less) h = omega arith

pub plain_printed : (value : ℤ) → unsigned_abs value ≤ 10 ^ 12 → list_all is_numeral_byte (dec_text value) ≡ true
unfolding dec_text
plain_printed (pos size) h = size_is_plain size h
plain_printed (negsuc less) h = size_is_plain (suc less) h
