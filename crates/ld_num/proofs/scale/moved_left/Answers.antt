use Rattle.std.proofs.Common.{get_or, ap, refl, arith}
use Rattle.ld_num.proofs.Values.{all_digits-take}
use Rattle.ld_num.proofs.Nearest.{up, left_dropped, left_none}
use Rattle.std.specs.Str.Parse.{digits_value}
use Rattle.ld_num.proofs.scale.moved_left.Goals as goal

pub capped-requires-clause-digits : goal.capped-requires-clause-digits
capped-requires-clause-digits c =
    rw c.split_at.ensures.front (all_digits-take _ _ c.requires.whole_digits)

pub returns-then-whole-places : goal.returns-then-whole-places
returns-then-whole-places c =
    let e = left_none c.args.whole.now c.args.fraction.now c.args.places c.requires.whole_digits c.requires.fraction_digits c.if-whole-places.true in
    rw e refl

pub returns : goal.returns
returns c =
    let e = left_dropped c.args.whole.now c.args.fraction.now c.args.places c.requires.whole_digits c.requires.fraction_digits c.requires.moved c.if-whole-places.false in
    let k = ap (digits_value 10) c.split_at.ensures.front in
    let b = ap (λ xs. up (get_or xs 0 0)) c.split_at.ensures.back in omega (arith, e, k, b, c.capped.ensures, c.rounded.ensures)
