-- What the references above a text make of its entries: File Format 1.0.2 ("Line Type 1", "Colours") and Back Face
-- Culling (BFC) Language Extension. That points are rounded at each reference is this project's own.
use Rattle.std.specs.Prelude.{ℕ, zero, suc, ◌&&◌, Bool, true, false, List, [], ◌∷◌, ◌++◌, Option, Some, None, Result, Ok, Err}
use Rattle.ld_num.specs.Placing.{moved}
use Rattle.ld_num.specs.declared.point.Placement.{Placement}
use Rattle.ld_num.specs.declared.point.Point.{Point}
use Rattle.ld_line.specs.Kind.{points_in}
use Rattle.ld_line.specs.declared.line.Winding.{Winding}
use Rattle.ld_line.specs.declared.line.Winding.TheVariants.{Ccw, Cw}
use Rattle.ld_bfc.specs.Passing.{neutral, with}
use Rattle.ld_bfc.specs.declared.passing.Below.{Below}
use Rattle.ld_colour.specs.Colour.{under}
use Rattle.ld_colour.specs.declared.colour.Colour.{Colour}
use Rattle.ld_colour.specs.declared.colour.Colour.TheVariants.{Main}
use Rattle.ld_entry.specs.declared.entry.Entry.{Entry}
use Rattle.ld_entry.specs.declared.entry.Entry.TheVariants.{Drawn, Part}
use Rattle.ld_entry.specs.declared.entry.Fault.{Fault}
use Rattle.ld_entry.specs.declared.entry.Outer.{Outer}
use Rattle.ld_entry.specs.declared.entry.Source.{Source}
use Rattle.ld_entry.specs.declared.entry.What.{What}
use Rattle.ld_entry.specs.declared.entry.What.TheVariants.{Range}

-- what a line gives
abbrev pub Outcome : Type 0
Outcome = Result Entry Fault

abbrev pub fault_at : What → Source → Outcome
fault_at what source = Err (record { what = what; source = source })

-- the placement that a reference passes down, and where the reference stands
pub record Link : Type 0 where
  pub placement : Placement
  pub source : Source

-- What stands above a text: the links of the references from the root to it, outermost first, the current colour, and
-- what these references pass down together for back face culling.
pub record Above : Type 0 where
  pub links : List Link
  pub colour : Colour
  pub below : Below

abbrev pub nothing_above : Above
nothing_above = record { links = []; colour = Main; below = neutral }

-- a colour and no reference
abbrev pub colour_above : Colour → Above
colour_above colour = record { links = []; colour = colour; below = neutral }

-- one reference
abbrev pub above_of : Outer → Above
above_of outer = record { links = record { placement = outer.placement; source = outer.source } ∷ []; colour = outer.colour; below = outer.below }

-- the outer, and below it the inner
abbrev pub beneath : Above → Above → Above
beneath outer inner = record { links = outer.links ++ inner.links; colour = under inner.colour outer.colour; below = with outer.below inner.below }

-- a moved point before others
abbrev pub onto_moved : Option Point → Option (List Point) → Option (List Point)
onto_moved (Some point) (Some points) = Some (point ∷ points)
onto_moved point points = None

-- points, of which the first so many are used, with these moved and the others as they are; none where one has no place
unfoldable pub moved_points : Placement → ℕ → List Point → Option (List Point)
moved_points by zero points = Some points
moved_points by (suc used) [] = Some []
moved_points by (suc used) (point ∷ points) = onto_moved (moved by point) (moved_points by used points)

-- points behind a link, or where the link stands
abbrev pub or_source : Source → Option (List Point) → Result (List Point) Source
or_source source None = Err source
or_source source (Some points) = Ok points

abbrev pub through_link : Link → ℕ → Result (List Point) Source → Result (List Point) Source
through_link link used (Ok points) = or_source link.source (moved_points link.placement used points)
through_link link used (Err source) = Err source

-- Points moved through links, the innermost first. Where one has no place, the source of the link at which it has none.
abbrev pub through : List Link → ℕ → List Point → Result (List Point) Source
through [] used points = Ok points
through (link ∷ links) used points = through_link link used (through links used points)

-- the other winding where a face is turned
abbrev pub winding_turned : Bool → Winding → Winding
winding_turned false winding = winding
winding_turned true Ccw = Cw
winding_turned true Cw = Ccw

-- an entry by its moved points, or the fault of a link through which they do not go
abbrev pub at_points : (List Point → Entry) → Result (List Point) Source → Outcome
at_points entry (Ok points) = Ok (entry points)
at_points entry (Err source) = fault_at Range source

-- what becomes of an entry of a text below what stands above it
abbrev pub carried_entry : Above → Entry → Outcome
carried_entry above (Drawn kind certified clip winding colour source points) =
    at_points (Drawn kind (certified && above.below.enable) (clip && above.below.clip) (winding_turned above.below.invert winding) (under colour above.colour) source) (through above.links (points_in kind) points)
carried_entry above (Part file colour source) = Ok (Part file (under colour above.colour) source)

-- a fault stays
abbrev pub carried_outcome : Above → Outcome → Outcome
carried_outcome above (Ok entry) = carried_entry above entry
carried_outcome above (Err fault) = Err fault
