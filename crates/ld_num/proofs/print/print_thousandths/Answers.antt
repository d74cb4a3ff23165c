use Rattle.std.proofs.Common.{◌/◌, arith}
use Rattle.ld_num.proofs.Shorts.{appended_as, one_digit, thousandths_are, three_are, two_digits}
use Rattle.ld_num.proofs.print.print_thousandths.Goals as goal

pub returns-then-size-clause-ok : goal.returns-then-size-clause-ok
returns-then-size-clause-ok c =
    let whole = three_are (c.args.size / 1000000) (omega (arith, c.if-size.true)) (omega (arith, c.requires.short)) in
    let count = rw c.three_digits-places.ensures at c.kept-count.ensures.count in
    let text = thousandths_are c.args.is_negative c.args.size _ _ 4 c.kept-count.result c.requires.thousandths whole (omega arith) count in
    let shown = rw (c.three_digits.ensures, c.three_digits-places.ensures) at c.append.ensures.ok in
    appended_as _ _ _ _ _ shown text

pub returns-then-size-2-clause-ok : goal.returns-then-size-2-clause-ok
returns-then-size-2-clause-ok c =
    let whole = two_digits (c.args.size / 1000000) (omega (arith, c.if-size-2.true)) (omega (arith, c.if-size.false)) in
    let count = rw c.three_digits-places.ensures at c.kept-count.ensures.count in
    let text = thousandths_are c.args.is_negative c.args.size _ _ 3 c.kept-count.result c.requires.thousandths whole (omega arith) count in
    let shown = rw (c.three_digits.ensures, c.three_digits-places.ensures) at c.append-then-size-2.ensures.ok in
    appended_as _ _ _ _ _ shown text

pub returns-else-size-2-clause-ok : goal.returns-else-size-2-clause-ok
returns-else-size-2-clause-ok c =
    let whole = one_digit (c.args.size / 1000000) (omega (arith, c.if-size-2.false)) in
    let count = rw c.three_digits-places.ensures at c.kept-count.ensures.count in
    let text = thousandths_are c.args.is_negative c.args.size _ _ 2 c.kept-count.result c.requires.thousandths whole (omega arith) count in
    let shown = rw (c.three_digits.ensures, c.three_digits-places.ensures) at c.append-else-size-2.ensures.ok in
    appended_as _ _ _ _ _ shown text
