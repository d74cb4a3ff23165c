-- What a numeral is, and which number of millionths it writes. File Format 1.0.2 ("Line Types") leaves the form of
-- numbers open; numerals with exponents, millionths and their rounding are this project's own.
use Rattle.std.specs.Prelude.{ℕ, ◌+◌, ◌*◌, ◌/◌, ◌^◌, Bool, false, ◌&&◌, ◌||◌, ◌==◌, nat_le, nat_lt, if◌then◌else◌, List, [], ◌∷◌, ◌++◌, length, drop, ℤ, pos, neg_ℤ, unsigned_abs, Option, Some, None, Result, Ok, Err}
use Rattle.std.specs.List.{before_first, after_first, position_or_len}
use Rattle.std.specs.Option.{option_map}
use Rattle.std.specs.Str.{all_ascii_digits}
use Rattle.std.specs.Str.Parse.{digits_value}
use Rattle.ld_num.specs.declared.dec.NumError.{NumError}
use Rattle.ld_num.specs.declared.dec.NumError.TheVariants.{NotANumber, OutOfRange}

-- ---- The grammar: at most one sign; digits with at most one period among, before or after them; at most one exponent.

-- `e` or `E`, which begins an exponent
abbrev pub is_mark : ℕ → Bool
is_mark b = (b == 101) || (b == 69)

abbrev pub is_period : ℕ → Bool
is_period b = b == 46

abbrev pub begins_with_minus : List ℕ → Bool
begins_with_minus [] = false
begins_with_minus (b ∷ rest) = b == 45

-- what follows the sign, where there is one
abbrev pub without_sign : List ℕ → List ℕ
without_sign [] = []
without_sign (b ∷ rest) = if (b == 43) || (b == 45) then rest else b ∷ rest

-- Of a text without its sign: what stands before the period, what stands between it and the exponent, and the exponent.
abbrev pub whole_part : List ℕ → List ℕ
whole_part text = before_first is_period (before_first is_mark text)

abbrev pub fraction_part : List ℕ → List ℕ
fraction_part text = after_first is_period (before_first is_mark text)

abbrev pub exponent_part : List ℕ → List ℕ
exponent_part text = drop (position_or_len is_mark text) text

-- the digits of an exponent: one to three
abbrev pub is_power : List ℕ → Bool
is_power digits =
    nat_le 1 (length digits) && nat_le (length digits) 3 && all_ascii_digits digits

-- the powers of ten by which an exponent multiplies, and by which it divides
abbrev pub powers_from : Bool → ℕ → ℕ × ℕ
powers_from is_negative power = if is_negative then (0, power) else (power, 0)

-- none but for an exponent: nothing, or `e` or `E`, at most one sign, and one to three digits
unfoldable pub powers_of : List ℕ → Option (ℕ × ℕ)
powers_of [] = Some (0, 0)
powers_of (b ∷ rest) =
    if is_mark b && is_power (without_sign rest) then Some (powers_from (begins_with_minus rest) (digits_value 10 (without_sign rest))) else None

-- A numeral without its sign. Its value is numerator / denominator.
pub record Numeral : Type 0 where
  -- the digits before the period, and those after it
  pub whole : List ℕ
  pub fraction : List ℕ
  -- the powers of ten of its exponent
  pub raised : ℕ
  pub lowered : ℕ

abbrev pub numeral_from : List ℕ → List ℕ → ℕ × ℕ → Numeral
numeral_from whole fraction powers =
    record { whole = whole; fraction = fraction; raised = powers.0; lowered = powers.1 }

-- none but for a numeral: its parts hold digits alone, at least one of them, and an exponent or nothing
unfoldable pub numeral_of : List ℕ → Option Numeral
numeral_of text =
    let digits = whole_part text ++ fraction_part text in if nat_lt 0 (length digits) && all_ascii_digits digits then option_map (numeral_from (whole_part text) (fraction_part text)) (powers_of (exponent_part text)) else None

abbrev pub numerator : Numeral → ℕ
numerator n = digits_value 10 (n.whole ++ n.fraction) * 10 ^ n.raised

abbrev pub denominator : Numeral → ℕ
denominator n = 10 ^ (length n.fraction + n.lowered)

-- ---- The number: the nearest whole number of millionths, and of two equally near ones that of greater size.

-- the whole number nearest to p / q, and of two equally near ones the greater
abbrev pub nearest : ℕ → ℕ → ℕ
nearest p q = (2 * p + q) / (2 * q)

-- the size p / q in whole millionths
abbrev pub in_millionths : ℕ → ℕ → ℕ
in_millionths p q = nearest (10 ^ 6 * p) q

-- the number of that size, which is never a negative zero
abbrev pub signed_of : Bool → ℕ → ℤ
signed_of is_negative size = if is_negative then neg_ℤ (pos size) else pos size

-- the fraction of that sign and of the size p / q, as the nearest whole number of millionths: of two equally near ones
-- that of greater size
abbrev pub fix : Bool → ℕ → ℕ → ℤ
fix is_negative p q = signed_of is_negative (in_millionths p q)

-- the size of the number that a numeral writes
unfoldable pub millionths_of : Numeral → ℕ
millionths_of n = in_millionths (numerator n) (denominator n)

-- a size of at most a million
abbrev pub is_in_range : ℤ → Bool
is_in_range value = nat_le (unsigned_abs value) (10 ^ 12)

abbrev pub if_in_range : ℤ → Result ℤ NumError
if_in_range value = if is_in_range value then Ok value else Err OutOfRange

-- what is read of a sign and of a numeral after it
abbrev pub signed_dec_of : Bool → Option Numeral → Result ℤ NumError
signed_dec_of is_negative None = Err NotANumber
signed_dec_of is_negative (Some n) = if_in_range (fix is_negative (numerator n) (denominator n))

-- what is read of a text
unfoldable pub dec_of : List ℕ → Result ℤ NumError
dec_of text = signed_dec_of (begins_with_minus text) (numeral_of (without_sign text))
