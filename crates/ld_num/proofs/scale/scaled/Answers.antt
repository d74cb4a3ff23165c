use Rattle.ld_num.proofs.Nearest.{millionths_left, millionths_right}
use Rattle.ld_num.proofs.scale.scaled.Goals as goal

pub returns-then-lowered-places : goal.returns-then-lowered-places
returns-then-lowered-places c =
    let e = millionths_right (record { whole = c.args.whole.now; fraction = c.args.fraction.now; raised = c.args.raised; lowered = c.args.lowered }) c.if-lowered-places.true in
    rw e c.moved_right.ensures

pub returns-else-lowered-places : goal.returns-else-lowered-places
returns-else-lowered-places c =
    let e = millionths_left (record { whole = c.args.whole.now; fraction = c.args.fraction.now; raised = c.args.raised; lowered = c.args.lowered }) c.if-lowered-places.false in
    rw e c.moved_left.ensures
