use Rattle.std.proofs.Common.{arith}
use Rattle.ld_num.proofs.Shorts.{appended_window}
use Rattle.ld_num.proofs.print.append.Goals as goal

pub returns-clause-ok : goal.returns-clause-ok
returns-clause-ok c =
    appended_window c.args.into.now.items c.args.text.now _ _ c.args.point c.args.count c.shown_from-start.result c.shown_to-end.result _ _ c.args.is_negative c.shown_from-start.ensures c.shown_to-end.ensures.end c.in_ok-extend_from_slice.ensures.items c.truncate.ensures.items (omega (arith, c.len-before.ensures)) (omega (arith, c.shown_to-end.ensures.within))
