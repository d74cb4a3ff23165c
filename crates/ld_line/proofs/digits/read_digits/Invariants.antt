use Rattle.std.proofs.Common.{◌≡◌, ◌<◌, ◌^◌, length}
use Rattle.std.specs.Char.{is_digit}
use Rattle.std.specs.List.{list_all}
use Rattle.std.specs.Str.Parse.{digits_value, digits_value_after}
use Rattle.ld_line.proofs.digits.read_digits.Given as goal

abbrev pub invariant-loop-first : goal.invariant-loop-first
invariant-loop-first l =
    (digits_value_after l.radix l.value l.rest ≡ digits_value l.radix l.field) × (list_all (λ digit. is_digit digit l.radix) l.rest ≡ list_all (λ digit. is_digit digit l.radix) l.field) × (l.value < 2 ^ 32)

abbrev pub decreases-loop-first : goal.decreases-loop-first
decreases-loop-first l = length l.rest
