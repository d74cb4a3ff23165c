use Rattle.std.proofs.Common.{arith}
use Rattle.ld_check.proofs.Sizes.{area, side, volume, volumes}
use Rattle.ld_check.proofs.vector.Normal.dot.Goals as goal

pub volume-x-requires-clause-area : goal.volume-x-requires-clause-area
volume-x-requires-clause-area c = area c.self.inside.x c.self.invariant.0

pub volume-x-requires-clause-side : goal.volume-x-requires-clause-side
volume-x-requires-clause-side c = side c.side.inside.x c.side.invariant.0

pub volume-y-requires-clause-area : goal.volume-y-requires-clause-area
volume-y-requires-clause-area c = area c.self.inside.y c.self.invariant.1

pub volume-y-requires-clause-side : goal.volume-y-requires-clause-side
volume-y-requires-clause-side c = side c.side.inside.y c.side.invariant.1

pub volume-z-requires-clause-area : goal.volume-z-requires-clause-area
volume-z-requires-clause-area c = area c.self.inside.z c.self.invariant.2

pub volume-z-requires-clause-side : goal.volume-z-requires-clause-side
volume-z-requires-clause-side c = side c.side.inside.z c.side.invariant.2

pub sum-requires-clause-a : goal.sum-requires-clause-a
sum-requires-clause-a c = volumes c.volume-x.result (omega (arith, c.volume-x.ensures.small))

pub sum-requires-clause-b : goal.sum-requires-clause-b
sum-requires-clause-b c = volume c.volume-y.result c.volume-y.ensures.small

pub sum-requires-2-clause-a : goal.sum-requires-2-clause-a
sum-requires-2-clause-a c =
    volumes c.sum.result (omega (arith, c.sum.ensures.small, volume c.volume-x.result c.volume-x.ensures.small, volume c.volume-y.result c.volume-y.ensures.small))

pub sum-requires-2-clause-b : goal.sum-requires-2-clause-b
sum-requires-2-clause-b c = volume c.volume-z.result c.volume-z.ensures.small
