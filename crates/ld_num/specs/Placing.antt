-- Where a placement puts a point, and whether it mirrors or is singular: File Format 1.0.2, "Line Type 1". That
-- coordinates are rounded to millionths and have a range is this project's own.
use Rattle.std.specs.Prelude.{◌^◌, Bool, ◌&&◌, if◌then◌else◌, ℤ, pos, neg_ℤ, ◌+ℤ◌, ◌*ℤ◌, int_lt, unsigned_abs, Option, Some, None}
use Rattle.std.specs.Ordering.{int_eq}
use Rattle.ld_num.specs.Number.{fix, is_in_range}
use Rattle.ld_num.specs.declared.point.Point.{Point}
use Rattle.ld_num.specs.declared.point.Placement.{Placement}

-- A row of the matrix times the point, and the offset. All are in millionths, so that it is in units of 10^-12.
abbrev pub exact : ℤ → ℤ → ℤ → ℤ → Point → ℤ
exact a b c offset point =
    a *ℤ point.x +ℤ b *ℤ point.y +ℤ c *ℤ point.z +ℤ offset *ℤ pos (10 ^ 6)

-- what is in units of 10^-12, in millionths
abbrev pub fixed : ℤ → ℤ
fixed value = fix (int_lt value (pos 0)) (unsigned_abs value) (10 ^ 12)

abbrev pub if_near : Point → Option Point
if_near point =
    if is_in_range point.x && is_in_range point.y && is_in_range point.z then Some point else None

-- the point moved; none where one coordinate is out of range
unfoldable pub moved : Placement → Point → Option Point
moved by point =
    if_near (record { x = fixed (exact by.a by.b by.c by.x point); y = fixed (exact by.d by.e by.f by.y point); z = fixed (exact by.g by.h by.i by.z point) })

-- the determinant of two rows and two columns
abbrev pub minor : ℤ → ℤ → ℤ → ℤ → ℤ
minor a b c d = a *ℤ d +ℤ neg_ℤ (b *ℤ c)

-- the determinant of the matrix, by its first row
abbrev pub determinant : Placement → ℤ
determinant by =
    by.a *ℤ minor by.e by.f by.h by.i +ℤ neg_ℤ (by.b *ℤ minor by.d by.f by.g by.i) +ℤ by.c *ℤ minor by.d by.e by.g by.h

-- whether the matrix mirrors
unfoldable pub is_mirrored : Placement → Bool
is_mirrored by = int_lt (determinant by) (pos 0)

-- whether the matrix has no inverse
unfoldable pub is_singular : Placement → Bool
is_singular by = int_eq (determinant by) (pos 0)
