-- Vectors of plane geometry over whole millionths.
use Rattle.std.specs.Prelude.{ℕ, ◌+◌, Bool, ◌&&◌, ℤ, pos, ◌+ℤ◌, ◌-ℤ◌, ◌*ℤ◌, nat_le, unsigned_abs, if◌then◌else◌}
use Rattle.std.specs.Ordering.{int_eq}
use Rattle.ld_num.specs.declared.point.Point.{Point}

pub record Vector : Type 0 where
  pub x : ℤ
  pub y : ℤ
  pub z : ℤ

-- from a point to another
abbrev pub toward : Point → Point → Vector
toward from to = record { x = to.x -ℤ from.x; y = to.y -ℤ from.y; z = to.z -ℤ from.z }

-- the cross product of two vectors of a plane, and of space
abbrev pub flat_cross : ℤ → ℤ → ℤ → ℤ → ℤ
flat_cross ux uy vx vy = ux *ℤ vy -ℤ uy *ℤ vx

abbrev pub cross : Vector → Vector → Vector
cross u v = record { x = flat_cross u.y u.z v.y v.z; y = flat_cross u.z u.x v.z v.x; z = flat_cross u.x u.y v.x v.y }

abbrev pub dot : Vector → Vector → ℤ
dot u v = u.x *ℤ v.x +ℤ u.y *ℤ v.y +ℤ u.z *ℤ v.z

abbrev pub is_null : Vector → Bool
is_null v = int_eq v.x (pos 0) && int_eq v.y (pos 0) && int_eq v.z (pos 0)

-- the sum of the sizes of the components
abbrev pub extent : Vector → ℕ
extent v = unsigned_abs v.x + unsigned_abs v.y + unsigned_abs v.z

-- a vector of a coordinate plane
pub record PlaneVector : Type 0 where
  pub x : ℤ
  pub y : ℤ

-- a vector without the coordinate in which the normal is greatest, the first of x, y, z of equal ones
abbrev pub flattened : Vector → Vector → PlaneVector
flattened normal v =
    if nat_le (unsigned_abs normal.y) (unsigned_abs normal.x) && nat_le (unsigned_abs normal.z) (unsigned_abs normal.x) then record { x = v.y; y = v.z } else if nat_le (unsigned_abs normal.z) (unsigned_abs normal.y) then record { x = v.x; y = v.z } else record { x = v.x; y = v.y }

-- how a way turns from one side to the next: to one hand above zero, to the other below, and zero straight on
abbrev pub turn : PlaneVector → PlaneVector → ℤ
turn u v = flat_cross u.x u.y v.x v.y
