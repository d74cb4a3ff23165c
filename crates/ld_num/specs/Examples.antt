-- Placements and points for worked examples.
use Rattle.std.specs.Prelude.{ℤ, pos}
use Rattle.ld_num.specs.declared.point.Point.{Point}
use Rattle.ld_num.specs.declared.point.Placement.{Placement}

abbrev pub at : ℤ → ℤ → ℤ → Point
at x y z = record { x = x; y = y; z = z }

-- at that point, and in every direction that many times as large
abbrev pub enlarged : Point → ℤ → Placement
enlarged p factor =
    record { x = p.x; y = p.y; z = p.z; a = factor; b = pos 0; c = pos 0; d = pos 0; e = factor; f = pos 0; g = pos 0; h = pos 0; i = factor }

abbrev pub origin : Point
origin = at (pos 0) (pos 0) (pos 0)
