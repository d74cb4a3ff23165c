use Rattle.std.proofs.Common.{◌≡◌, true, arith, rules}
use Rattle.std.specs.Char.{is_ascii_digit}
use Rattle.ld_num.proofs.Fronts.{led_fewer, led_low, led_more, led_small}
use Rattle.ld_num.proofs.digits.leading_number.Goals as goal

pub returns-in_default-clause-small : goal.returns-in_default-clause-small
returns-in_default-clause-small c =
    led_small _ _ _ _ c.args.most (led_fewer _ _ _ _ c.loop-taken.taken c.args.most (omega arith) c.loop-taken.invariant.led)

pub returns-then-not-is_ascii_digit-clause-small :
    goal.returns-then-not-is_ascii_digit-clause-small
returns-then-not-is_ascii_digit-clause-small c =
    led_small _ _ _ _ c.args.most (led_fewer _ _ _ _ c.loop-taken.taken c.args.most (omega arith) c.loop-taken.invariant.led)

pub loop-taken-preserved : goal.loop-taken-preserved
loop-taken-preserved c =
    let digit : is_ascii_digit c.in-Some.first.now ≡ true = search rules in
    let led = led_more _ _ _ _ _ _ _ c.loop-taken.invariant.led c.in-Some.ensures.cases.0 digit in
    let same = rw (← c.from.ensures) at led in
    record {
      led = same;
      low = led_low _ _ _ _ _ c.requires.start (omega arith) same;
    }

pub returns-clause-small : goal.returns-clause-small
returns-clause-small c =
    led_small _ _ _ _ c.args.most (led_fewer _ _ _ _ c.loop-taken.taken c.args.most (omega arith) c.loop-taken.invariant.led)
