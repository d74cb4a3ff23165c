-- The text of an answer without references, which is this project's own: a statement of back face culling, then for each
-- step its drawn lines and its step line. Lines are those of File Format 1.0.2 ("Line Type 2" to "Line Type 5",
-- "Colours", "STEP"), of the Back Face Culling Language Extension ("CERTIFY", "CLIP", "NOCLIP"), and rotation steps as
-- MLCad writes them.
use Rattle.std.specs.Prelude.{◌≡◌, ◌&&◌, ℕ, Bool, true, false, List, [], ◌∷◌, ◌++◌, map, take, reverse, Option, Some, None, Result, Ok, Err, if◌then◌else◌, codes, decimal, unwrap_or}
use Rattle.std.specs.Cmp.Lexicographic.{pointwise}
use Rattle.std.specs.List.{flat_map, fold}
use Rattle.std.specs.Ordering.{int_eq}
use Rattle.std.specs.Result.{IsOk}
use Rattle.std.specs.declared.alloc.Global.{Global}
use Rattle.std.specs.declared.vec.Vec.{Vec}
use Rattle.ld_num.specs.Text.{dec_text}
use Rattle.ld_num.specs.declared.point.Point.{Point}
use Rattle.ld_line.specs.Kind.{points_in}
use Rattle.ld_line.specs.Printing.{bfc_line, coordinates, direct_text, kind_word, rotation_words, step_words}
use Rattle.ld_line.specs.Word.{ended, spaced}
use Rattle.ld_line.specs.declared.line.Angles.{Angles}
use Rattle.ld_line.specs.declared.line.Kind.{Kind}
use Rattle.ld_line.specs.declared.line.Kind.TheVariants.{Tri, Quad}
use Rattle.ld_line.specs.declared.line.RotWord.{RotWord}
use Rattle.ld_line.specs.declared.line.RotWord.TheVariants.{Abs, Rel, Add, End}
use Rattle.ld_line.specs.declared.line.Winding.{Winding}
use Rattle.ld_line.specs.declared.line.Winding.TheVariants.{Cw}
use Rattle.ld_colour.specs.Table.{Counting, rgb_in}
use Rattle.ld_colour.specs.declared.colour.Colour.{Colour}
use Rattle.ld_colour.specs.declared.colour.Colour.TheVariants.{Main, Edge, Code, EdgeOf, Direct}
use Rattle.ld_entry.specs.declared.entry.Entry.{Entry}
use Rattle.ld_entry.specs.declared.entry.Entry.TheVariants.{Drawn, Part}
use Rattle.ld_steps.specs.Parts.{entries_in}
use Rattle.ld_steps.specs.declared.step.StepPart.{StepPart}
use Rattle.ld_steps.specs.declared.step.Turn.{Turn}
use Rattle.ld_inline.specs.declared.inlining.InlineError.{InlineError}
use Rattle.ld_inline.specs.declared.inlining.InlineError.TheVariants.{Memory, NoColour}

-- a line by its words
abbrev pub Words : Type 0
Words = List (List ℕ)

-- ---- Drawn lines.

-- 16, 24, a code, or 0x2RRGGBB; an edge colour of a code by its red, green and blue
abbrev pub written_colour : Counting → Colour → List ℕ
written_colour table Main = codes "16"
written_colour table Edge = codes "24"
written_colour table (Code code) = decimal code
written_colour table (EdgeOf code) = direct_text (unwrap_or (rgb_in table (EdgeOf code)) 0)
written_colour table (Direct value) = direct_text value

-- the used points in the order in which they are written: those of a clockwise face are turned round
abbrev pub written_points : Kind → Winding → List Point → List Point
written_points Tri Cw points = reverse (take 3 points)
written_points Quad Cw points = reverse (take 4 points)
written_points kind winding points = take (points_in kind) points

abbrev pub drawn_words : Counting → Kind → Winding → Colour → List Point → Words
drawn_words table kind winding colour points = kind_word kind ∷ written_colour table colour ∷ map dec_text (flat_map coordinates (written_points kind winding points))

-- a statement where what is wanted does not stand
abbrev pub clip_lines : Bool → Bool → List Words
clip_lines true false = bfc_line (codes "NOCLIP" ∷ []) ∷ []
clip_lines false true = bfc_line (codes "CLIP" ∷ []) ∷ []
clip_lines stands wanted = []

-- the lines of an entry, where this clipping stands; part entries are not written
abbrev pub entry_lines : Counting → Bool → Entry → List Words
entry_lines table stands (Drawn kind certified clip winding colour source points) = clip_lines stands (certified && clip) ++ drawn_words table kind winding colour points ∷ []
entry_lines table stands (Part file colour source) = []

-- the clipping that stands behind an entry
abbrev pub stands_behind : Bool → Entry → Bool
stands_behind stands (Drawn kind certified clip winding colour source points) = certified && clip
stands_behind stands (Part file colour source) = stands

abbrev pub entries_lines : Counting → Bool → List Entry → List Words
entries_lines table stands [] = []
entries_lines table stands (entry ∷ entries) = entry_lines table stands entry ++ entries_lines table (stands_behind stands entry) entries

-- ---- Step lines.

abbrev pub same_angles : Angles → Angles → Bool
same_angles angles other = int_eq angles.x other.x && int_eq angles.y other.y && int_eq angles.z other.z

abbrev pub same_bool : Bool → Bool → Bool
same_bool true b = b
same_bool false true = false
same_bool false false = true

abbrev pub same_turn : Turn → Turn → Bool
same_turn turn other = same_bool turn.absolute other.absolute && same_angles turn.angles other.angles

abbrev pub last_turn : Turn → List Turn → Turn
last_turn turn [] = turn
last_turn turn (next ∷ turns) = last_turn next turns

-- the rotation step that is written of a view which changed
abbrev pub rotation_to : List Turn → RotWord
rotation_to [] = End
rotation_to (turn ∷ []) = if turn.absolute then Abs turn.angles else Rel turn.angles
rotation_to (turn ∷ next ∷ turns) = Add (last_turn next turns).angles

-- the step line between two views; None for a line without a rotation
abbrev pub step_rotation : List Turn → List Turn → Option RotWord
step_rotation before view = if pointwise same_turn view before then None else Some (rotation_to view)

abbrev pub stepped_words : Option RotWord → Words
stepped_words None = step_words
stepped_words (Some word) = rotation_words word

-- ---- The text.

-- the lines of steps, behind this view and where this clipping stands
abbrev pub steps_lines : Counting → List Entry → List Turn → Bool → List StepPart → List Words
steps_lines table entries view stands [] = []
steps_lines table entries view stands (step ∷ steps) =
    entries_lines table stands (entries_in entries step) ++ stepped_words (step_rotation view step.view) ∷ steps_lines table entries step.view (fold stands_behind stands (entries_in entries step)) steps

-- each line has one space between its words, and CR LF at its end
abbrev pub lines_text : List Words → List ℕ
lines_text lines = ended (map spaced lines)

unfoldable pub written_text : Counting → List Entry → List StepPart → List ℕ
written_text table entries steps = lines_text (bfc_line (codes "CERTIFY" ∷ codes "CCW" ∷ []) ∷ steps_lines table entries [] true steps)

-- ---- Colours without a value.

abbrev pub unless_valued : ℕ → Option ℕ → Option ℕ
unless_valued code None = Some code
unless_valued code (Some value) = None

-- the code of an edge colour that has no value
abbrev pub missing_colour : Counting → Colour → Option ℕ
missing_colour table (EdgeOf code) = unless_valued code (rgb_in table (EdgeOf code))
missing_colour table colour = None

abbrev pub missing_in : Counting → Entry → Option ℕ
missing_in table (Drawn kind certified clip winding colour source points) = missing_colour table colour
missing_in table (Part file colour source) = None

abbrev pub or_later : Option ℕ → Option ℕ → Option ℕ
or_later (Some code) later = Some code
or_later None later = later

-- that of the first drawn entry which has one
abbrev pub first_missing : Counting → List Entry → Option ℕ
first_missing table [] = None
first_missing table (entry ∷ entries) = or_later (missing_in table entry) (first_missing table entries)

abbrev pub unless_missing : Option ℕ → List ℕ → Result (List ℕ) ℕ
unless_missing None text = Ok text
unless_missing (Some code) text = Err code

-- the text of entries and steps by a table, or the code of the first edge colour that has no value
unfoldable pub inlined_text : List Entry → List StepPart → Counting → Result (List ℕ) ℕ
inlined_text entries steps table = unless_missing (first_missing table entries) (written_text table entries steps)

-- the text, or the code that has no value; memory is lacking only where the text is wanted
abbrev pub Inlines : Result (List ℕ) ℕ → Result (Vec ℕ Global) InlineError → Type 0
Inlines wanted (Ok text) = wanted ≡ Ok text.items
Inlines wanted (Err (NoColour code)) = wanted ≡ Err code
Inlines wanted (Err Memory) = IsOk wanted
