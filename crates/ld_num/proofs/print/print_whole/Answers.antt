use Rattle.std.proofs.Common.{arith}
use Rattle.ld_num.proofs.Shorts.{appended_as, one_digit, three_are, two_digits, window_whole}
use Rattle.ld_num.proofs.print.print_whole.Goals as goal

pub returns-then-number-ge100-clause-ok : goal.returns-then-number-ge100-clause-ok
returns-then-number-ge100-clause-ok c =
    let whole = three_are c.args.number (omega (arith, c.if-number-ge100.true)) c.requires in
    let shown = rw c.three_digits.ensures at c.append.ensures.ok in
    appended_as _ _ _ _ _ shown (window_whole c.args.is_negative c.args.number _ _ 4 whole (omega arith))

pub returns-then-number-ge10-clause-ok : goal.returns-then-number-ge10-clause-ok
returns-then-number-ge10-clause-ok c =
    let whole = two_digits c.args.number (omega (arith, c.if-number-ge10.true)) (omega (arith, c.if-number-ge100.false)) in
    let shown = rw c.three_digits.ensures at c.append-then-number-ge10.ensures.ok in
    appended_as _ _ _ _ _ shown (window_whole c.args.is_negative c.args.number _ _ 3 whole (omega arith))

pub returns-else-number-ge10-clause-ok : goal.returns-else-number-ge10-clause-ok
returns-else-number-ge10-clause-ok c =
    let whole = one_digit c.args.number (omega (arith, c.if-number-ge10.false)) in
    let shown = rw c.three_digits.ensures at c.append-else-number-ge10.ensures.ok in
    appended_as _ _ _ _ _ shown (window_whole c.args.is_negative c.args.number _ _ 2 whole (omega arith))
