-- What a single line says: File Format 1.0.2, "Line Type 1" to "Line Type 5" and "Colours" (lines are drawn in the edge
-- colour 24, faces are not). That fields behind the last are a finding is this project's own.
use Rattle.std.specs.Prelude.{ℕ, ◌+◌, ◌*◌, Bool, true, false, ◌==◌, ◌&&◌, not, nat_lt, List, None}
use Rattle.std.specs.List.{list_any}
use lib.Pointwise.{pointwise}
use Rattle.ld_num.specs.Placing.{is_singular}
use Rattle.ld_line.specs.Kind.{points_in}
use Rattle.ld_line.specs.Reading.{line_of}
use Rattle.ld_line.specs.declared.line.Kind.{Kind}
use Rattle.ld_line.specs.declared.line.Kind.TheVariants.{Line2, Tri, Quad, Opt}
use Rattle.ld_line.specs.declared.line.Line.{Line}
use Rattle.ld_line.specs.declared.line.Line.TheVariants.{Draw, Malformed, OutOfRange, Ref}
use Rattle.ld_check.specs.Geometry.{same_point}
use Rattle.ld_check.specs.Text.{numbered_line, lines_before, passes}

abbrev pub is_malformed : Line → Bool
is_malformed Malformed = true
is_malformed line = false

abbrev pub is_out_of_range : Line → Bool
is_out_of_range OutOfRange = true
is_out_of_range line = false

-- a reference to a file whose text has no normal form
abbrev pub is_unnamed : Line → Bool
is_unnamed (Ref colour placement None) = true
is_unnamed line = false

abbrev pub is_singular_reference : Line → Bool
is_singular_reference (Ref colour placement name) = is_singular placement
is_singular_reference line = false

-- lines and optional lines
abbrev pub is_edge : Kind → Bool
is_edge Line2 = true
is_edge Opt = true
is_edge kind = false

abbrev pub is_edge_off_24 : Line → Bool
is_edge_off_24 (Draw kind colour points) = is_edge kind && not (colour == 24)
is_edge_off_24 line = false

abbrev pub is_face_in_24 : Line → Bool
is_face_in_24 (Draw kind colour points) = not (is_edge kind) && colour == 24
is_face_in_24 line = false

-- more fields than the line type, a colour and the coordinates of its points
abbrev pub has_more_fields : ℕ → Line → Bool
has_more_fields count (Draw kind colour points) = nat_lt (2 + 3 * points_in kind) count
has_more_fields count line = false

abbrev pub kind_place : Kind → ℕ
kind_place Line2 = 2
kind_place Tri = 3
kind_place Quad = 4
kind_place Opt = 5

-- both draw the same: the kind, the colour and the points, in their order
abbrev pub draws_same : Line → Line → Bool
draws_same (Draw kind colour points) (Draw other_kind other_colour other_points) =
    kind_place kind == kind_place other_kind && colour == other_colour && pointwise same_point points other_points
draws_same line other = false

-- a line draws what an earlier one draws
abbrev pub is_repeated : List (List ℕ) → ℕ → Bool
is_repeated lines number = passes (λ line. list_any (λ earlier. draws_same (line_of line) (line_of earlier)) (lines_before lines number)) (numbered_line lines number)
