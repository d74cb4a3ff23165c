-- A numeral without its sign, taken apart from its front.
use Rattle.std.specs.Prelude.{ℕ, ◌+◌, ◌^◌, Bool, nat_lt, nat_le, if◌then◌else◌, ℤ, List, [], ◌∷◌, length, take, drop, Option, None, Result, Ok, Err}
use Rattle.std.specs.Char.{is_ascii_digit}
use Rattle.std.specs.List.{prefix_len}
use Rattle.std.specs.Option.{option_map}
use Rattle.ld_num.specs.Number.{Numeral, is_period, numeral_from, powers_of, signed_of}
use Rattle.ld_num.specs.declared.dec.NumError.{NumError}
use Rattle.ld_num.specs.declared.dec.NumError.TheVariants.{OutOfRange}

abbrev pub leading_digits : List ℕ → List ℕ
leading_digits text = take (prefix_len is_ascii_digit text) text

abbrev pub after_digits : List ℕ → List ℕ
after_digits text = drop (prefix_len is_ascii_digit text) text

-- the digits after a period that stands first
abbrev pub leading_fraction : List ℕ → List ℕ
leading_fraction [] = []
leading_fraction (b ∷ rest) = if is_period b then leading_digits rest else []

abbrev pub after_fraction : List ℕ → List ℕ
after_fraction [] = []
after_fraction (b ∷ rest) = if is_period b then after_digits rest else b ∷ rest

-- the numeral that is made of its digits and of what follows them
abbrev pub numeral_in : List ℕ → List ℕ → List ℕ → Option Numeral
numeral_in whole fraction rest =
    if nat_lt 0 (length whole + length fraction) then option_map (numeral_from whole fraction) (powers_of rest) else None

-- the number of that size, where the size is in range
abbrev pub in_range : Bool → ℕ → Result ℤ NumError
in_range is_negative size =
    if nat_le size (10 ^ 12) then Ok (signed_of is_negative size) else Err OutOfRange
