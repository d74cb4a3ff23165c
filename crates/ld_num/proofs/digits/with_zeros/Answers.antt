use Rattle.std.proofs.Common.{lit≤}
use Rattle.ld_num.proofs.Nearest.{many_zeros}
use Rattle.ld_num.proofs.digits.with_zeros.Goals as goal

pub returns : goal.returns
returns c =
    let e = many_zeros c.args.number 1000000000001 c.args.count (lit≤ tt) (lit≤ tt) in cc
