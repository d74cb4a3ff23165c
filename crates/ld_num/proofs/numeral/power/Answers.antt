use Rattle.std.proofs.Common.{◌≡◌, ◌<◌, arith, ap, true, Some, sym, ◌∙◌}
use Rattle.std.specs.Str.Parse.{digits_value}
use Rattle.ld_num.specs.Number.{is_power}
use Rattle.ld_num.proofs.Values.{power_digits, power_small}
use Rattle.ld_num.proofs.numeral.power.Goals as goal

pub capped-requires-clause-digits : goal.capped-requires-clause-digits
capped-requires-clause-digits c = power_digits c.args.digits.now (sym c.is_power.ensures ∙ c.if-is_power.true)

pub returns-then-is_power-clause-power : goal.returns-then-is_power-clause-power
returns-then-is_power-clause-power c =
    let test : is_power c.args.digits.now ≡ true = sym c.is_power.ensures ∙ c.if-is_power.true in
    let small : digits_value 10 c.args.digits.now < 1000 = power_small c.args.digits.now test in
    let exact : c.capped.result ≡ digits_value 10 c.args.digits.now = omega arith in rw test (ap Some exact)

pub returns-then-is_power-clause-small : goal.returns-then-is_power-clause-small
returns-then-is_power-clause-small c =
    let test : is_power c.args.digits.now ≡ true = sym c.is_power.ensures ∙ c.if-is_power.true in
    let small : digits_value 10 c.args.digits.now < 1000 = power_small c.args.digits.now test in omega arith
