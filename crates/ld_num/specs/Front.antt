-- A numeral at the front of a text.
use Rattle.std.specs.Prelude.{◌≡◌, ℕ, ◌+◌, ◌<◌, ◌≤◌, Bool, true, if◌then◌else◌, List, [], ◌∷◌, ◌++◌, length, ℤ, Ok}
use Rattle.std.specs.Str.Parse.{AllDigits, digits_value_after}
use Rattle.ld_num.specs.Field.{after_front_field, front_field, is_blank}
use Rattle.ld_num.specs.Number.{Numeral, dec_of, millionths_of}
use Rattle.ld_num.specs.Text.{after_period}

-- digits and decimals, without an exponent
abbrev pub plain : List ℕ → List ℕ → Numeral
plain whole fraction = record { whole = whole; fraction = fraction; raised = 0; lowered = 0 }

-- the text begins with digits, at most so many, which write this number when they follow those of start
pub record IsLed (text : List ℕ) (start number : ℕ) (rest : List ℕ) (most : ℕ) : Type 0 where
  pub digits : List ℕ
  pub are_digits : AllDigits 10 digits
  pub few : length digits ≤ most
  pub text_is : text ≡ digits ++ rest
  pub number_is : number ≡ digits_value_after 10 start digits

-- The text begins with a numeral without a sign and without an exponent, whose number has this size.
pub record IsFront (text : List ℕ) (size : ℕ) (rest : List ℕ) : Type 0 where
  pub whole : List ℕ
  pub fraction : List ℕ
  pub whole_digits : AllDigits 10 whole
  pub fraction_digits : AllDigits 10 fraction
  pub some : 0 < length whole + length fraction
  pub text_is : text ≡ whole ++ after_period fraction ++ rest
  pub size_is : size ≡ millionths_of (plain whole fraction)

abbrev pub minus_if : Bool → List ℕ
minus_if is_negative = if is_negative then 45 ∷ [] else []

-- nothing, or a blank first
abbrev pub is_field_end : List ℕ → Bool
is_field_end [] = true
is_field_end (byte ∷ bytes) = is_blank byte

-- the field at the front of the text writes this number, and the rest stands behind it
pub record IsFrontNumber (text : List ℕ) (value : ℤ) (rest : List ℕ) : Type 0 where
  pub number : dec_of (front_field text) ≡ Ok value
  pub rest_is : after_front_field text ≡ rest
