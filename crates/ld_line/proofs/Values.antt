-- Numbers, digit by digit.
use Rattle.std.proofs.Common.{◌≡◌, ◌<◌, ◌≤◌, ◌+◌, ◌*◌, ◌^◌, ℕ, Bool, true, List, [], ◌∷◌, length, sym, ap, ◌∙◌, arith, tests, Some, None}
use Rattle.std.proofs.Math.Nat.{mul-le-mul_left}
use Rattle.std.specs.Char.{is_digit, digit_value}
use Rattle.std.specs.List.{list_all}
use Rattle.std.specs.Str.Parse.{digits_value, digits_value_after}
use Rattle.ld_line.specs.Digits.{number_of}

-- digits only add
pub digits_value_after-ge : (radix n : ℕ) (ds : List ℕ) → 1 ≤ radix → n ≤ digits_value_after radix n ds
digits_value_after-ge radix n [] some = omega arith
digits_value_after-ge radix n (d ∷ ds) some =
    omega (arith, digits_value_after-ge radix (n * radix + digit_value d) ds some, mul-le-mul_left n some)

pub number_of-big : (radix most : ℕ) (ds : List ℕ) → 2 ^ 32 ≤ digits_value radix ds → number_of radix most ds ≡ None
number_of-big radix most ds big = grind (arith, tests)

pub number_of-some : (radix most value : ℕ) (ds : List ℕ) → 0 < length ds → length ds ≤ most → list_all (λ digit. is_digit digit radix) ds ≡ true → value ≡ digits_value radix ds → value < 2 ^ 32 → number_of radix most ds ≡ Some value
number_of-some radix most value ds some short digits is small = grind (arith, tests)

-- no digits are left
pub digits_value_after-end : (radix value : ℕ) (rest : List ℕ) (whole : ℕ) → length rest ≡ 0 → digits_value_after radix value rest ≡ whole → value ≡ whole
digits_value_after-end radix value [] whole ends is = is
digits_value_after-end radix value (d ∷ ds) whole ends is = absurd (omega arith)

pub list_all-end : (test : ℕ → Bool) (rest digits : List ℕ) → length rest ≡ 0 → list_all test rest ≡ list_all test digits → list_all test digits ≡ true
list_all-end test [] digits ends is = sym is
list_all-end test (d ∷ ds) digits ends is = absurd (omega arith)

-- one digit more passes 2 ^ 32, and those behind it only add
pub digits_value-big : (radix value digit first whole : ℕ) (rest more : List ℕ) → 1 ≤ radix → rest ≡ first ∷ more → digit ≡ digit_value first → 2 ^ 32 ≤ value * radix + digit → digits_value_after radix value rest ≡ whole → 2 ^ 32 ≤ whole
digits_value-big radix value digit first whole rest more low parts is big same =
    let taken : digits_value_after radix (value * radix + digit_value first) more ≡ whole = sym (ap (digits_value_after radix value) parts) ∙ same in
    omega (arith, digits_value_after-ge radix (value * radix + digit_value first) more low)
