use Rattle.std.proofs.lemmas.Str.Parse.{digit_at}
use Rattle.ld_num.proofs.Values.{capped_more}
use Rattle.ld_num.proofs.digits.capped.Goals as goal

pub overflow_sub-digit : goal.overflow_sub-digit
overflow_sub-digit c = (digit_at _ _ c.requires.digits c.loop-digit-test.true).0

pub loop-digit-preserved : goal.loop-digit-preserved
loop-digit-preserved c =
    let e = capped_more c.args.start 1000000000001 c.loop-digit.number c.loop-digit.digit-index c.args.digits.now c.requires.digits c.loop-digit-test.true c.loop-digit.invariant in cc
