-- What an inlined text means, which is this project's own: the drawn entries of an answer without their sources, all
-- certified and counterclockwise, and its steps counted in them.
use Rattle.std.specs.Prelude.{◌&&◌, ℕ, Bool, true, List, ◌++◌, length, map, take, drop, reverse, Option, Some, None, unwrap_or}
use Rattle.std.specs.List.{filter_map}
use Rattle.ld_num.specs.declared.point.Point.{Point}
use Rattle.ld_line.specs.declared.line.Kind.{Kind}
use Rattle.ld_line.specs.declared.line.Kind.TheVariants.{Tri, Quad}
use Rattle.ld_line.specs.declared.line.Winding.{Winding}
use Rattle.ld_line.specs.declared.line.Winding.TheVariants.{Ccw, Cw}
use Rattle.ld_colour.specs.Table.{Counting, rgb_in}
use Rattle.ld_colour.specs.declared.colour.Colour.{Colour}
use Rattle.ld_colour.specs.declared.colour.Colour.TheVariants.{EdgeOf, Direct}
use Rattle.ld_entry.specs.declared.entry.Entry.{Entry}
use Rattle.ld_entry.specs.declared.entry.Entry.TheVariants.{Drawn, Part}
use Rattle.ld_steps.specs.declared.step.StepPart.{StepPart}

-- a drawn entry without its source
pub record Shape : Type 0 where
  pub kind : Kind
  pub certified : Bool
  pub clip : Bool
  pub winding : Winding
  pub colour : Colour
  pub points : List Point

-- an entry without its source; None of a part entry
abbrev pub shape_of : Entry → Option Shape
shape_of (Drawn kind certified clip winding colour source points) =
    Some (record { kind = kind; certified = certified; clip = clip; winding = winding; colour = colour; points = points })
shape_of (Part file colour source) = None

-- the drawn entries
abbrev pub shapes_of : List Entry → List Shape
shapes_of entries = filter_map shape_of entries

-- the edge colour of a code as the direct colour of its red, green and blue
abbrev pub flat_colour : Counting → Colour → Colour
flat_colour table (EdgeOf code) = Direct (unwrap_or (rgb_in table (EdgeOf code)) 0)
flat_colour table colour = colour

-- the first so many points turned round
abbrev pub turned_round : ℕ → List Point → List Point
turned_round count points = reverse (take count points) ++ drop count points

-- the points of a clockwise face the other way round
abbrev pub flat_points : Kind → Winding → List Point → List Point
flat_points Tri Cw points = turned_round 3 points
flat_points Quad Cw points = turned_round 4 points
flat_points kind winding points = points

abbrev pub flat_shape : Counting → Shape → Shape
flat_shape table shape =
    record { kind = shape.kind; certified = true; clip = shape.certified && shape.clip; winding = Ccw; colour = flat_colour table shape.colour; points = flat_points shape.kind shape.winding shape.points }

-- a step by the drawn entries before and in it
abbrev pub flat_step : List Entry → StepPart → StepPart
flat_step entries step = record { first = length (shapes_of (take step.first entries)); end = length (shapes_of (take step.end entries)); view = step.view }

pub record Flat : Type 0 where
  pub shapes : List Shape
  pub steps : List StepPart

unfoldable pub flat : List Entry → List StepPart → Counting → Flat
flat entries steps table = record { shapes = map (flat_shape table) (shapes_of entries); steps = map (flat_step entries) steps }
