use Rattle.ld_check.proofs.Sizes.{side}
use Rattle.ld_check.proofs.vector.Side.cross.Goals as goal

pub flat_cross-requires-clause-ux : goal.flat_cross-requires-clause-ux
flat_cross-requires-clause-ux c = side c.self.inside.y c.self.invariant.1

pub flat_cross-requires-clause-uy : goal.flat_cross-requires-clause-uy
flat_cross-requires-clause-uy c = side c.self.inside.z c.self.invariant.2

pub flat_cross-requires-clause-vx : goal.flat_cross-requires-clause-vx
flat_cross-requires-clause-vx c = side c.other.inside.y c.other.invariant.1

pub flat_cross-requires-clause-vy : goal.flat_cross-requires-clause-vy
flat_cross-requires-clause-vy c = side c.other.inside.z c.other.invariant.2

pub flat_cross-requires-2-clause-ux : goal.flat_cross-requires-2-clause-ux
flat_cross-requires-2-clause-ux c = side c.self.inside.z c.self.invariant.2

pub flat_cross-requires-2-clause-uy : goal.flat_cross-requires-2-clause-uy
flat_cross-requires-2-clause-uy c = side c.self.inside.x c.self.invariant.0

pub flat_cross-requires-2-clause-vx : goal.flat_cross-requires-2-clause-vx
flat_cross-requires-2-clause-vx c = side c.other.inside.z c.other.invariant.2

pub flat_cross-requires-2-clause-vy : goal.flat_cross-requires-2-clause-vy
flat_cross-requires-2-clause-vy c = side c.other.inside.x c.other.invariant.0

pub flat_cross-requires-3-clause-ux : goal.flat_cross-requires-3-clause-ux
flat_cross-requires-3-clause-ux c = side c.self.inside.x c.self.invariant.0

pub flat_cross-requires-3-clause-uy : goal.flat_cross-requires-3-clause-uy
flat_cross-requires-3-clause-uy c = side c.self.inside.y c.self.invariant.1

pub flat_cross-requires-3-clause-vx : goal.flat_cross-requires-3-clause-vx
flat_cross-requires-3-clause-vx c = side c.other.inside.x c.other.invariant.0

pub flat_cross-requires-3-clause-vy : goal.flat_cross-requires-3-clause-vy
flat_cross-requires-3-clause-vy c = side c.other.inside.y c.other.invariant.1
