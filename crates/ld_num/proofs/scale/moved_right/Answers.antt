use Rattle.std.proofs.Common.{◌≡◌, ◌-◌, min, length, take, get_or, ap, arith}
use Rattle.std.specs.Str.Parse.{digits_value, digits_value_after}
use Rattle.ld_num.specs.declared.digits.TheConstants.{TOO_LARGE}
use Rattle.ld_num.proofs.Values.{all_digits-take, capped_after, value-append}
use Rattle.ld_num.proofs.Nearest.{up, right_dropped, right_zeros, zeros_after}
use Rattle.ld_num.proofs.scale.moved_right.Goals as goal

pub capped-requires-clause-digits : goal.capped-requires-clause-digits
capped-requires-clause-digits c =
    rw c.split_at.ensures.front (all_digits-take c.args.places _ c.requires.fraction_digits)

pub returns-then-places-fraction : goal.returns-then-places-fraction
returns-then-places-fraction c =
    let value = digits_value 10 c.args.whole.now in
    let kept = take c.args.places c.args.fraction.now in
    let e = right_dropped c.args.whole.now c.args.fraction.now c.args.places c.requires.fraction_digits c.if-places-fraction.true in
    let s = capped_after value TOO_LARGE kept in
    let k : c.capped.result ≡ min (digits_value_after 10 value kept) TOO_LARGE = cc (s, c.capped.ensures, c.split_at.ensures.front, c.capped-size.ensures) in
    let b = ap (λ xs. up (get_or xs 0 0)) c.split_at.ensures.back in omega (arith, e, k, b, c.rounded.ensures)

pub returns-else-places-fraction : goal.returns-else-places-fraction
returns-else-places-fraction c =
    let value = digits_value 10 c.args.whole.now in
    let s = capped_after value TOO_LARGE c.args.fraction.now in
    let k : c.capped-else-places-fraction.result ≡ min (digits_value_after 10 value c.args.fraction.now) TOO_LARGE = cc (s, c.capped-else-places-fraction.ensures, c.capped-size.ensures) in
    let e = right_zeros (digits_value_after 10 value c.args.fraction.now) (length c.args.fraction.now) c.args.places c.if-places-fraction.false in
    let z = zeros_after (digits_value_after 10 value c.args.fraction.now) TOO_LARGE (c.args.places - length c.args.fraction.now) in
    rw (value-append 0 c.args.whole.now c.args.fraction.now, e) (cc (k, z, c.with_zeros.ensures))
