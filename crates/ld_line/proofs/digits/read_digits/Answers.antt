use Rattle.std.proofs.Common.{◌≡◌, ◌≤◌, ◌+◌, ◌*◌, ◌^◌, ap, ◌∙◌, arith, sym, tests}
use Rattle.std.specs.Char.{digit_value}
use Rattle.ld_line.proofs.Values.{digits_value-big, digits_value_after-end, list_all-end, number_of-big, number_of-some}
use Rattle.ld_line.proofs.digits.read_digits.Goals as goal

pub returns-in_default-append_digit : goal.returns-in_default-append_digit
returns-in_default-append_digit c =
    let digit : c.in-Some-to_digit.digit ≡ digit_value c.in-Some.first.now = c.in-Some-to_digit.ensures.value.1 ∙ ap digit_value c.from.ensures in
    let over : 2 ^ 32 ≤ c.loop-first.value * c.args.radix + c.in-Some-to_digit.digit = omega (arith, c.in_default-append_digit.ensures) in
    sym (number_of-big c.args.radix c.args.most c.args.field.now (digits_value-big c.args.radix c.loop-first.value _ _ _ _ c.in-Some.more.now (omega arith) c.in-Some.ensures.cases.0 digit over c.loop-first.invariant.0))

pub returns : goal.returns
returns c =
    let ends = c.in_default.ensures.cases in
    sym (number_of-some c.args.radix c.args.most c.loop-first.value c.args.field.now (grind (arith, tests)) (omega arith) (list_all-end _ _ _ ends c.loop-first.invariant.1) (digits_value_after-end _ _ _ _ ends c.loop-first.invariant.0) c.loop-first.invariant.2)
