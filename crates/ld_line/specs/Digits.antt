-- Numbers of decimal or hexadecimal digits below 2 ^ 32, which this project reads in colours, codes and line numbers.
use Rattle.std.specs.Prelude.{ℕ, Bool, List, length, Option, Some, None, ◌==◌, ◌&&◌, ◌^◌, not, nat_le, nat_lt, if◌then◌else◌}
use Rattle.std.specs.Char.{is_digit}
use Rattle.std.specs.List.{list_all}
use Rattle.std.specs.Str.Parse.{digits_value}

-- one to so many digits of a base that write a number below 2 ^ 32
abbrev pub is_number : ℕ → ℕ → List ℕ → Bool
is_number radix most digits = not (length digits == 0) && nat_le (length digits) most && list_all (λ digit. is_digit digit radix) digits && nat_lt (digits_value radix digits) (2 ^ 32)

abbrev pub number_of : ℕ → ℕ → List ℕ → Option ℕ
number_of radix most digits = if is_number radix most digits then Some (digits_value radix digits) else None

-- the number that one to ten decimal digits write
unfoldable pub decimal_number : List ℕ → Option ℕ
decimal_number field = number_of 10 10 field
