-- What is printed of a colour is one word, which is read as its number.
use Rattle.std.proofs.Common.{◌≡◌, ◌<◌, ◌+◌, ◌/◌, ◌%◌, ◌^◌, ◌==◌, ◌||◌, ℕ, true, false, List, [], ◌∷◌, length, nat_lt, Some, refl, sym, arith, ⊎_elim}
use Rattle.std.specs.Char.{digit_value, is_digit}
use Rattle.std.specs.Fmt.{decimal, digit_glyph}
use Rattle.std.specs.Int.{IsInRange}
use Rattle.std.specs.List.{list_all}
use Rattle.std.specs.Str.Parse.{AllDigits, digits_value}
use Rattle.std.proofs.lemmas.Bool.{and_from, and_right, cases_lt, lt-ltb, le-ltb, ne_eqb, or_from}
use Rattle.std.proofs.lemmas.Bool.Decides.{nat_tests}
use Rattle.std.proofs.lemmas.Fmt.{decimal_is_IsNumeral, length-decimal-le}
use Rattle.std.proofs.lemmas.Str.Parse.{digit_from_value}
use Rattle.ld_line.specs.Colour.{colour_word, is_hexadecimal}
use Rattle.ld_line.specs.Digits.{decimal_number}
use Rattle.ld_line.proofs.Values.{number_of-some}
use Rattle.ld_line.specs.Word.{is_plain, is_word}
use Rattle.ld_line.specs.Printing.{direct_text, six_hex}

digit_is_plain : (b : ℕ) → digit_value b < 10 → is_plain b ≡ true
digit_is_plain b h =
    let r : IsInRange 48 57 b = digit_from_value b h in grind (arith, nat_tests)

digits_are_plain : (ds : List ℕ) → AllDigits 10 ds → list_all is_plain ds ≡ true
digits_are_plain [] h = refl
digits_are_plain (d ∷ ds) h = and_from _ _ (digit_is_plain d h.0) (digits_are_plain ds h.1)

digits_are_word : (ds : List ℕ) → AllDigits 10 ds → 0 < length ds → is_word ds ≡ true
digits_are_word [] h some = absurd (omega arith)
digits_are_word (d ∷ ds) h some = and_from _ _ (digit_is_plain d h.0) (digits_are_plain ds h.1)

pub decimal_is_word : (number : ℕ) → number < 2 ^ 32 → is_word (decimal number) ≡ true
decimal_is_word number h =
    let numeral = decimal_is_IsNumeral number (omega arith) in digits_are_word (decimal number) numeral.0.1 numeral.0.0

are_digits : (ds : List ℕ) → AllDigits 10 ds → list_all (λ digit. is_digit digit 10) ds ≡ true
are_digits [] h = refl
are_digits (d ∷ ds) h = and_from _ _ (lt-ltb (digit_value d) 10 h.0) (are_digits ds h.1)

digit_is_no_x : (b : ℕ) → digit_value b < 10 → (b == 120 || b == 88) ≡ false
digit_is_no_x b h =
    let r : IsInRange 48 57 b = digit_from_value b h in
    or_from _ _ (ne_eqb b 120 (λ e. omega arith)) (ne_eqb b 88 (λ e. omega arith))

not_hexadecimal : (ds : List ℕ) → AllDigits 10 ds → is_hexadecimal ds ≡ false
not_hexadecimal [] h = refl
not_hexadecimal (a ∷ []) h = refl
not_hexadecimal (a ∷ b ∷ ds) h = and_right _ _ (digit_is_no_x b h.1.0)

pub number_again : (number : ℕ) → number < 2 ^ 32 → decimal_number (decimal number) ≡ Some number
unfolding decimal_number
number_again number h =
    let numeral = decimal_is_IsNumeral number (omega arith) in
    number_of-some 10 10 number (decimal number) numeral.0.0 (length-decimal-le 10 number (omega arith) (omega arith) (omega arith)) (are_digits (decimal number) numeral.0.1) (sym numeral.1) h

pub decimal_again : (number : ℕ) → number < 2 ^ 32 → colour_word (decimal number) ≡ Some number
unfolding colour_word decimal_number
decimal_again number h =
    let numeral = decimal_is_IsNumeral number (omega arith) in
    rw (not_hexadecimal (decimal number) numeral.0.1) (number_again number h)

-- ---- hexadecimal digits

glyph_value : (d : ℕ) → d < 16 → digit_value (digit_glyph true d) ≡ d
glyph_value d h =
    ⊎_elim
    (λ low. let is : nat_lt d 10 ≡ true = lt-ltb d 10 low in rw is (grind (arith, nat_tests)))
    (λ high. let is : nat_lt d 10 ≡ false = le-ltb d 10 high in rw is (grind (arith, nat_tests)))
    (cases_lt d 10)

place_value : (n : ℕ) → digit_value (digit_glyph true (n % 16)) ≡ n % 16
place_value n = glyph_value (n % 16) (omega arith)

place_is_digit : (n : ℕ) → is_digit (digit_glyph true (n % 16)) 16 ≡ true
place_is_digit n = lt-ltb _ _ (rw (place_value n) (omega arith))

place_is_plain : (n : ℕ) → is_plain (digit_glyph true (n % 16)) ≡ true
place_is_plain n =
    let d = n % 16 in
    ⊎_elim
    (λ low. let is : nat_lt (n % 16) 10 ≡ true = lt-ltb (n % 16) 10 low in rw is (grind (arith, nat_tests)))
    (λ high. let is : nat_lt (n % 16) 10 ≡ false = le-ltb (n % 16) 10 high in rw is (grind (arith, nat_tests)))
    (cases_lt (n % 16) 10)

pub direct_is_word : (value : ℕ) → is_word (direct_text value) ≡ true
unfolding direct_text
direct_is_word value =
    and_from _ _ (place_is_plain (value / 0x100000)) (and_from _ _ (place_is_plain (value / 0x10000)) (and_from _ _ (place_is_plain (value / 0x1000)) (and_from _ _ (place_is_plain (value / 0x100)) (and_from _ _ (place_is_plain (value / 0x10)) (and_from _ _ (place_is_plain value) refl)))))

are_hex : (value : ℕ) → list_all (λ digit. is_digit digit 16) (50 ∷ six_hex value) ≡ true
are_hex value =
    and_from _ _ (place_is_digit (value / 0x100000)) (and_from _ _ (place_is_digit (value / 0x10000)) (and_from _ _ (place_is_digit (value / 0x1000)) (and_from _ _ (place_is_digit (value / 0x100)) (and_from _ _ (place_is_digit (value / 0x10)) (and_from _ _ (place_is_digit value) refl)))))

hex_value : (value : ℕ) → value < 2 ^ 24 → 0x2000000 + value ≡ digits_value 16 (50 ∷ six_hex value)
hex_value value h =
    rw (place_value (value / 0x100000), place_value (value / 0x10000), place_value (value / 0x1000), place_value (value / 0x100), place_value (value / 0x10), place_value value) (omega arith)

pub direct_again : (value : ℕ) → value < 2 ^ 24 → colour_word (direct_text value) ≡ Some (0x2000000 + value)
unfolding colour_word direct_text
direct_again value h =
    number_of-some 16 8 (0x2000000 + value) (50 ∷ six_hex value) (omega arith) (omega arith) (are_hex value) (hex_value value h) (omega arith)
