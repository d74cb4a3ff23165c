-- Short numbers, as they are put together.
use Rattle.std.specs.Prelude.{ℕ, ◌+◌, ◌-◌, ◌/◌, ◌%◌, ◌^◌, ◌==◌, Bool, if◌then◌else◌, List, [], ◌∷◌, ◌++◌, take, drop}
use Rattle.std.specs.Fmt.{decimal}
use Rattle.ld_num.specs.Front.{minus_if}
use Rattle.ld_num.specs.Text.{after_period, six_digits, without_last_zeros}

abbrev pub three_digits : ℕ → List ℕ
three_digits number = (48 + number / 10 / 10) ∷ (48 + number / 10 % 10) ∷ (48 + number % 10) ∷ []

abbrev pub short_text : Bool → ℕ → List ℕ
short_text is_negative size =
    minus_if is_negative ++ decimal (size / 10 ^ 6) ++ after_period (without_last_zeros (six_digits size))

-- of a minus, the whole part, a period and the fraction, these without what is not shown
abbrev pub window : List ℕ → ℕ → ℕ → Bool → List ℕ
window text point count is_negative =
    let start = if is_negative then 0 else 1 in
    let stop = if count == 0 then point else point + 1 + count in take (stop - start) (drop start text)
