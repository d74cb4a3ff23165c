use Rattle.std.proofs.Common.{arith}
use Rattle.ld_inline.proofs.FourPoints.{four_points}
use Rattle.ld_inline.proofs.ranges.points_range.Goals as goal

pub returns : goal.returns
returns c =
    four_points c.args.points c.index-points-0.result c.index-points-1.result c.index-points-2.result c.index-points-3.result (omega arith) c.point_range.ensures c.point_range-2.ensures c.point_range-3.ensures c.point_range-4.ensures
