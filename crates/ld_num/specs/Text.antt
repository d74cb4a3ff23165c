-- How a number is printed (this project's own), and what those who print lines may rest on.
use Rattle.std.specs.Prelude.{◌≡◌, ℕ, ◌+◌, ◌-◌, ◌/◌, ◌%◌, ◌^◌, ◌<◌, ◌≤◌, Bool, true, ◌||◌, List, [], ◌∷◌, ◌++◌, ℤ, pos, negsuc, unsigned_abs, length, take, ◌==◌, Ok}
use Rattle.std.specs.Char.{is_ascii_digit}
use Rattle.std.specs.List.{list_all, suffix_len}
use Rattle.std.specs.Fmt.{decimal}
use Rattle.ld_num.specs.Number.{dec_of}

-- the six digits of the millionths of size
abbrev pub six_digits : ℕ → List ℕ
six_digits size =
    (48 + size / 100000 % 10) ∷ (48 + size / 10000 % 10) ∷ (48 + size / 1000 % 10) ∷ (48 + size / 100 % 10) ∷ (48 + size / 10 % 10) ∷ (48 + size % 10) ∷ []

abbrev pub without_last_zeros : List ℕ → List ℕ
without_last_zeros digits = take (length digits - suffix_len (λ b. b == 48) digits) digits

-- a period stands only before digits
abbrev pub after_period : List ℕ → List ℕ
after_period [] = []
after_period (b ∷ bs) = 46 ∷ b ∷ bs

abbrev pub sign_text : ℤ → List ℕ
sign_text (pos n) = []
sign_text (negsuc n) = 45 ∷ []

-- what is printed of a number of millionths
unfoldable pub dec_text : ℤ → List ℕ
dec_text value =
    let size = unsigned_abs value in sign_text value ++ decimal (size / 10 ^ 6) ++ after_period (without_last_zeros (six_digits size))

-- a digit, a minus or a period
abbrev pub is_numeral_byte : ℕ → Bool
is_numeral_byte byte = is_ascii_digit byte || ((byte == 45) || (byte == 46))

-- what is printed of a number in range is some bytes, each of them one of these, and it is read as that number
pub record PrintsNumerals : Type 0 where
  pub some : (value : ℤ) → unsigned_abs value ≤ 10 ^ 12 → 0 < length (dec_text value)
  pub plain : (value : ℤ) → unsigned_abs value ≤ 10 ^ 12 → list_all is_numeral_byte (dec_text value) ≡ true
  pub read_back : (value : ℤ) → unsigned_abs value ≤ 10 ^ 12 → dec_of (dec_text value) ≡ Ok value
