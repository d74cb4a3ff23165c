-- Worked examples of inlined texts.
use Rattle.std.specs.Prelude.{◌*◌, ◌==◌, ℕ, pos, Bool, false, List, [], ◌∷◌, Some, None, if◌then◌else◌}
use Rattle.ld_num.specs.declared.point.Point.{Point}
use Rattle.ld_line.specs.declared.line.Kind.{Kind}
use Rattle.ld_line.specs.declared.line.Winding.{Winding}
use Rattle.ld_colour.specs.Table.{Counting}
use Rattle.ld_colour.specs.declared.colour.Colour.{Colour}
use Rattle.ld_colour.specs.declared.definition.DefinedEdge.TheVariants.{Value, ValueOf}
use Rattle.ld_entry.specs.declared.entry.Entry.{Entry}
use Rattle.ld_entry.specs.declared.entry.Entry.TheVariants.{Drawn}
use Rattle.ld_entry.specs.declared.entry.Source.{Source}
use Rattle.ld_steps.specs.declared.step.StepPart.{StepPart}
use Rattle.ld_steps.specs.declared.step.Turn.{Turn}

abbrev pub point_at : ℕ → ℕ → ℕ → Point
point_at x y z = record { x = pos (x * 1000000); y = pos (y * 1000000); z = pos (z * 1000000) }

abbrev pub corner_points : List Point
corner_points = point_at 0 0 0 ∷ point_at 1 0 0 ∷ point_at 0 1 0 ∷ point_at 0 0 0 ∷ []

abbrev pub along : ℕ → List Point
along x = point_at 0 0 0 ∷ point_at x 0 0 ∷ point_at 0 0 0 ∷ point_at 0 0 0 ∷ []

abbrev pub here : Source
here = record { text = record { 0 = 0 }; line = 1 }

abbrev pub entry : Kind → Bool → Bool → Winding → Colour → List Point → Entry
entry kind certified clip winding colour points = Drawn kind certified clip winding colour here points

abbrev pub step : ℕ → ℕ → List Turn → StepPart
step first end view = record { first = first; end = end; view = view }

abbrev pub turned_by : ℕ → ℕ → Turn
turned_by x y = record { absolute = false; angles = record { x = pos (x * 1000000); y = pos (y * 1000000); z = pos 0 } }

-- the steps of the worked example steps
abbrev pub six_steps : Turn → Turn → List StepPart
six_steps turn tilt = step 0 1 [] ∷ step 1 1 [] ∷ step 1 1 (turn ∷ []) ∷ step 1 1 (turn ∷ tilt ∷ []) ∷ step 1 3 [] ∷ step 3 4 [] ∷ []

-- the colours Red, Blue and Black of the worked example colours
abbrev pub colours : Counting
colours code = if code == 4 then Some (record { value = 0xC91A09; edge = Value 0x333333 }) else if code == 1 then Some (record { value = 0x0055BF; edge = ValueOf 0 }) else if code == 0 then Some (record { value = 0x05131D; edge = Value 0x595959 }) else None

abbrev pub no_colours : Counting
no_colours code = None
