-- Points, triangles and quads that are no good: File Format 1.0.2, "Line Type 3" and "Line Type 4" (vertices that are
-- collinear, quads that are not planar or not convex). The tolerance of planes is this project's own.
use Rattle.std.specs.Prelude.{ℕ, ◌*◌, Bool, false, ◌&&◌, ◌||◌, not, nat_lt, List, [], ◌∷◌, take, ℤ, pos, int_lt, unsigned_abs, slice_index_or}
use Rattle.std.specs.List.{list_all, list_any}
use Rattle.std.specs.Ordering.{int_eq}
use Rattle.ld_num.specs.declared.point.Point.{Point}
use Rattle.ld_line.specs.declared.line.Kind.{Kind}
use Rattle.ld_line.specs.declared.line.Kind.TheVariants.{Line2, Tri, Quad, Opt}
use Rattle.ld_line.specs.declared.line.Line.{Line}
use Rattle.ld_line.specs.declared.line.Line.TheVariants.{Draw}
use Rattle.ld_check.specs.Vectors.{PlaneVector, cross, dot, extent, flattened, is_null, toward, turn}

abbrev pub same_point : Point → Point → Bool
same_point p q = int_eq p.x q.x && int_eq p.y q.y && int_eq p.z q.z

-- two of the points are equal
abbrev pub has_equal : List Point → Bool
has_equal [] = false
has_equal (point ∷ points) = list_any (same_point point) points || has_equal points

-- how many points bound what is drawn: the control points of an optional line don't
abbrev pub ends_of : Kind → ℕ
ends_of Line2 = 2
ends_of Tri = 3
ends_of Quad = 4
ends_of Opt = 2

abbrev pub has_equal_points : Line → Bool
has_equal_points (Draw kind colour points) = has_equal (take (ends_of kind) points)
has_equal_points line = false

-- a corner by its place
abbrev pub corner : List Point → ℕ → Point
corner points place = slice_index_or points place (record { x = pos 0; y = pos 0; z = pos 0 })

-- the points lie on one straight line
abbrev pub is_straight : List Point → Bool
is_straight points = is_null (cross (toward (corner points 0) (corner points 1)) (toward (corner points 0) (corner points 2)))

abbrev pub is_straight_triangle : Line → Bool
is_straight_triangle (Draw Tri colour points) = is_straight points
is_straight_triangle line = false

-- the fourth corner lies off the plane of the first three: its distance from it, times the length of the plane's normal,
-- is above a hundredth of an LDraw unit times the sum of the sizes of the normal's components
abbrev pub is_bent : List Point → Bool
is_bent points =
    let normal = cross (toward (corner points 0) (corner points 1)) (toward (corner points 0) (corner points 2)) in nat_lt (10000 * extent normal) (unsigned_abs (dot normal (toward (corner points 0) (corner points 3))))

abbrev pub is_bent_quad : Line → Bool
is_bent_quad (Draw Quad colour points) = is_bent points
is_bent_quad line = false

-- how the way round turns at each corner, by the four sides of a quad
abbrev pub turns : PlaneVector → PlaneVector → PlaneVector → PlaneVector → List ℤ
turns ab bc cd da = turn da ab ∷ turn ab bc ∷ turn bc cd ∷ turn cd da ∷ []

-- the way round turns to the same hand at each corner
abbrev pub is_even : List ℤ → Bool
is_even turns = list_all (λ turn. int_lt (pos 0) turn) turns || list_all (λ turn. int_lt turn (pos 0)) turns

-- the turns at the corners, seen along the axis nearest to the cross product of the diagonals
abbrev pub corner_turns : List Point → List ℤ
corner_turns points =
    let a = corner points 0 in
    let b = corner points 1 in
    let c = corner points 2 in
    let d = corner points 3 in
    let normal = cross (toward a c) (toward b d) in turns (flattened normal (toward a b)) (flattened normal (toward b c)) (flattened normal (toward c d)) (flattened normal (toward d a))

abbrev pub is_uneven_quad : Line → Bool
is_uneven_quad (Draw Quad colour points) = not (is_even (corner_turns points))
is_uneven_quad line = false
