-- Worked models for recursive expansion, from their bytes.
use Rattle.std.specs.Prelude.{◌≡◌, ℕ, zero, suc, ◌*◌, ◌^◌, Bool, true, false, ℤ, pos, neg_ℤ, List, [], ◌∷◌, ◌++◌, replicate, Some, None, Result, Ok, Err, codes}
use Rattle.ld_names.specs.Standing.{Known, Text}
use Rattle.ld_names.specs.declared.file.FileId.{FileId}
use Rattle.ld_names.specs.declared.file.Folder.{Folder}
use Rattle.ld_names.specs.declared.file.Folder.TheVariants.{Model, P, Parts}
use Rattle.ld_num.specs.declared.point.Point.{Point}
use Rattle.ld_line.specs.declared.line.Kind.TheVariants.{Line2, Quad, Tri}
use Rattle.ld_line.specs.declared.line.Winding.{Winding}
use Rattle.ld_line.specs.declared.line.Winding.TheVariants.{Ccw, Cw}
use Rattle.ld_colour.specs.Colour.{colour_of}
use Rattle.ld_colour.specs.declared.colour.Colour.{Colour}
use Rattle.ld_colour.specs.declared.colour.Colour.TheVariants.{Code, Direct, Edge, EdgeOf, Main}
use Rattle.ld_entry.specs.Answers.{answer}
use Rattle.ld_entry.specs.Expansion.{neutral_expansion}
use Rattle.ld_entry.specs.NumberedTexts.{NumberedTexts, standing_texts}
use Rattle.ld_entry.specs.declared.entry.Entry.{Entry}
use Rattle.ld_entry.specs.declared.entry.Entry.TheVariants.{Drawn, Part}
use Rattle.ld_entry.specs.declared.entry.Fault.{Fault}
use Rattle.ld_entry.specs.declared.entry.Source.{Source}
use Rattle.ld_entry.specs.declared.entry.What.{What}
use Rattle.ld_entry.specs.declared.entry.What.TheVariants.{Cycle, Malformed, Missing, Range, TooDeep, TooMany, Unnamed}

-- ---- How the rows are written.

abbrev pub lies_in : Folder → List ℕ → List (List ℕ) → FileId × Text
lies_in folder name lines = (record { folder = folder; name = name }, Some lines)

-- a text beside the model
abbrev pub block : List ℕ → List (List ℕ) → FileId × Text
block name lines = lies_in (Model 1) name lines

-- a reference: its colour and its offset, the matrix that changes nothing, and the name of its file
abbrev pub ref : List ℕ → List ℕ → List ℕ
ref start name = codes "1 " ++ start ++ codes " 1 0 0 0 1 0 0 0 1 " ++ name

-- these texts and no others
abbrev pub texts_of : Known → NumberedTexts
texts_of known = standing_texts known (λ file. None)

-- the answer under the limits that stand where none is given
abbrev pub answer_in : Known → ℕ → Result (List Entry) Fault
answer_in known root = answer (texts_of known) 32 2000000 (record { 0 = root }) Main

abbrev pub at_line : ℕ → ℕ → Source
at_line text line = record { text = record { 0 = text }; line = line }

abbrev pub faulty : What → ℕ → ℕ → Result (List Entry) Fault
faulty what text line = Err (record { what = what; source = at_line text line })

-- whole units, and units below zero
abbrev pub units : ℕ → ℤ
units n = pos (n * 10 ^ 6)

abbrev pub below_zero : ℕ → ℤ
below_zero n = neg_ℤ (pos (n * 10 ^ 6))

abbrev pub point : ℤ → ℤ → ℤ → Point
point x y z = record { x = x; y = y; z = z }

abbrev pub origin : Point
origin = point (pos 0) (pos 0) (pos 0)

-- a line from one point to the origin, that is not certified
abbrev pub line_to_origin : Colour → Point → ℕ → ℕ → Entry
line_to_origin colour from text line = Drawn Line2 false true Ccw colour (at_line text line) (from ∷ origin ∷ origin ∷ origin ∷ [])

abbrev pub line_from_origin : Bool → Colour → Point → ℕ → ℕ → Entry
line_from_origin certified colour to text line = Drawn Line2 certified true Ccw colour (at_line text line) (origin ∷ to ∷ origin ∷ origin ∷ [])

-- a triangle from the origin to a point and one unit up
abbrev pub tri_to : Point → Bool → Bool → Winding → ℕ → ℕ → Entry
tri_to to certified clip winding text line = Drawn Tri certified clip winding Main (at_line text line) (origin ∷ to ∷ point (pos 0) (units 1) (pos 0) ∷ origin ∷ [])

abbrev pub right : Point
right = point (units 1) (pos 0) (pos 0)

abbrev pub left : Point
left = point (below_zero 1) (pos 0) (pos 0)

-- a text of one certified triangle
abbrev pub certified_tri : List (List ℕ)
certified_tri = codes "0 BFC CERTIFY CCW" ∷ codes "3 16 0 0 0 1 0 0 0 1 0" ∷ []

-- ---- Points and colours.

abbrev pub RoundingAtEachReference : Type 0
RoundingAtEachReference =
    answer_in (block (codes "m.ldr") (codes "1 16 0 0 0 3 0 0 0 1 0 0 0 1 a.ldr" ∷ []) ∷ block (codes "a.ldr") (codes "1 16 0 0 0 0.333333 0 0 0 1 0 0 0 1 b.ldr" ∷ []) ∷ block (codes "b.ldr") (codes "2 24 1.5 0 0 0 0 0" ∷ []) ∷ []) 0 ≡ Ok (line_to_origin Edge (point (pos 1500000) (pos 0) (pos 0)) 2 1 ∷ [])

abbrev pub MatrixOfZeros : Type 0
MatrixOfZeros =
    let here = point (units 1) (units 2) (units 3) in
    answer_in (block (codes "m.ldr") (codes "1 4 1 2 3 0 0 0 0 0 0 0 0 0 b.ldr" ∷ []) ∷ block (codes "b.ldr") (codes "3 16 5 0 0 0 5 0 0 0 5" ∷ []) ∷ []) 0 ≡ Ok (Drawn Tri false true Ccw (Code 4) (at_line 1 1) (here ∷ here ∷ here ∷ origin ∷ []) ∷ [])

abbrev pub Colours : Type 0
Colours =
    answer_in (block (codes "m.ldr") (ref (codes "4 0 0 0") (codes "a.ldr") ∷ ref (codes "1 0 0 0") (codes "b.ldr") ∷ []) ∷ block (codes "a.ldr") (ref (codes "24 0 0 0") (codes "b.ldr") ∷ []) ∷ block (codes "b.ldr") (codes "2 16 0 0 0 1 0 0" ∷ codes "2 24 0 0 0 1 0 0" ∷ []) ∷ []) 0 ≡ Ok (line_from_origin false (EdgeOf 4) right 2 1 ∷ line_from_origin false (EdgeOf 4) right 2 2 ∷ line_from_origin false (Code 1) right 2 1 ∷ line_from_origin false (EdgeOf 1) right 2 2 ∷ [])

-- a query in a direct colour
abbrev pub DirectColours : Type 0
DirectColours =
    answer (texts_of (block (codes "m.ldr") (codes "2 16 0 0 0 1 0 0" ∷ codes "2 24 0 0 0 1 0 0 more words" ∷ []) ∷ [])) 32 2000000 (record { 0 = 0 }) (colour_of 0x2FF8000) ≡ Ok (line_from_origin false (Direct 0xFF8000) right 0 1 ∷ line_from_origin false (Direct 0x333333) right 0 2 ∷ [])

-- ---- Back face culling.

-- the row's main model, behind its first lines
abbrev pub mirror_model : List (List ℕ)
mirror_model =
    codes "0 note" ∷ codes "1 16 0 0 0 -1 0 0 0 1 0 0 0 1 t.ldr" ∷ codes "0 BFC INVERTNEXT" ∷ codes "3 16 0 0 0 1 0 0 0 1 0" ∷ ref (codes "16 0 0 0") (codes "t.ldr") ∷ []

abbrev pub InvertnextAndMirror : Type 0
InvertnextAndMirror =
    answer_in (block (codes "m.ldr") (codes "0 BFC CERTIFY CCW" ∷ codes "0 BFC INVERTNEXT" ∷ mirror_model) ∷ block (codes "t.ldr") certified_tri ∷ []) 0 ≡ Ok (tri_to left true true Ccw 1 2 ∷ tri_to right true true Ccw 0 6 ∷ tri_to right true true Ccw 1 2 ∷ [])

-- the same without the first INVERTNEXT
abbrev pub MirrorAlone : Type 0
MirrorAlone =
    answer_in (block (codes "m.ldr") (codes "0 BFC CERTIFY CCW" ∷ mirror_model) ∷ block (codes "t.ldr") certified_tri ∷ []) 0 ≡ Ok (tri_to left true true Cw 1 2 ∷ tri_to right true true Ccw 0 5 ∷ tri_to right true true Ccw 1 2 ∷ [])

-- a model, a primitive and a part that says nothing of culling
abbrev pub certification_texts : List (List ℕ) → Known
certification_texts model =
    block (codes "m.ldr") model ∷ lies_in P (codes "pr.dat") certified_tri ∷ lies_in Parts (codes "s.dat") (ref (codes "16 0 0 0") (codes "pr.dat") ∷ []) ∷ []

abbrev pub part_at : Colour → ℕ → ℕ → ℕ → Entry
part_at colour file text line = Part (record { 0 = file }) colour (at_line text line)

abbrev pub CertificationPassed : Type 0
CertificationPassed = answer_in (certification_texts (ref (codes "16 0 0 0") (codes "pr.dat") ∷ [])) 0 ≡ Ok (part_at Main 1 0 1 ∷ tri_to right true true Ccw 1 2 ∷ [])

abbrev pub CertificationStopped : Type 0
CertificationStopped = answer_in (certification_texts (ref (codes "16 0 0 0") (codes "s.dat") ∷ [])) 0 ≡ Ok (part_at Main 2 0 1 ∷ tri_to right false true Ccw 1 2 ∷ [])

abbrev pub CertificationRefused : Type 0
CertificationRefused = answer_in (certification_texts (codes "0 BFC NOCERTIFY" ∷ ref (codes "16 0 0 0") (codes "pr.dat") ∷ [])) 0 ≡ Ok (part_at Main 1 0 2 ∷ tri_to right false true Ccw 1 2 ∷ [])

abbrev pub ClipAndWinding : Type 0
ClipAndWinding =
    answer_in (block (codes "m.ldr") (codes "0 BFC CERTIFY CW" ∷ codes "0 BFC CERTIFY CCW" ∷ codes "3 16 0 0 0 1 0 0 0 1 0" ∷ codes "0 BFC CCW NOCLIP" ∷ codes "0 BFC NOCLIP" ∷ ref (codes "16 0 0 0") (codes "t.ldr") ∷ []) ∷ block (codes "t.ldr") certified_tri ∷ []) 0 ≡ Ok (tri_to right true true Cw 0 3 ∷ tri_to right true false Ccw 1 2 ∷ [])

-- ---- A model of parts.

abbrev pub header : List ℕ → List (List ℕ)
header type = codes "0 A title" ∷ codes "0 Name: it" ∷ codes "0 Author: A Builder" ∷ (codes "0 !LDRAW_ORG Unofficial_" ++ type) ∷ codes "0 !LICENSE Example licence" ∷ []

abbrev pub ordinary_model : Known
ordinary_model =
    block (codes "car.ldr") (header (codes "Model") ++ ref (codes "4 0 0 0") (codes "left.ldr") ∷ ref (codes "1 100 0 0") (codes "3001.dat") ∷ codes "0 STEP" ∷ ref (codes "1 0 -24 0") (codes "right.ldr") ∷ ref (codes "1 200 0 0") (codes "3001.dat") ∷ []) ∷ block (codes "left.ldr") (ref (codes "16 0 0 0") (codes "3001.dat") ∷ ref (codes "16 0 0 80") (codes "3001.dat") ∷ ref (codes "16 0 0 160") (codes "3001.dat") ∷ codes "0 STEP" ∷ ref (codes "14 0 0 240") (codes "3001.dat") ∷ ref (codes "14 0 0 320") (codes "3001.dat") ∷ []) ∷ block (codes "right.ldr") (ref (codes "16 0 0 0") (codes "3001.dat") ∷ ref (codes "16 0 0 80") (codes "3001.dat") ∷ ref (codes "16 0 0 160") (codes "3001.dat") ∷ ref (codes "4 0 0 240") (codes "3001.dat") ∷ ref (codes "4 0 0 320") (codes "3001.dat") ∷ []) ∷ lies_in Parts (codes "3001.dat") (header (codes "Part") ++ codes "0 BFC CERTIFY CCW" ∷ codes "4 16 -40 0 -20 -40 0 20 40 0 20 40 0 -20" ∷ ref (codes "16 0 -4 0") (codes "stud.dat") ∷ []) ∷ lies_in P (codes "stud.dat") (header (codes "Primitive") ++ codes "0 BFC CERTIFY CCW" ∷ codes "3 16 0 0 0 6 0 0 0 0 6" ∷ codes "2 24 0 0 0 6 0 0" ∷ []) ∷ []

-- the first four entries, where no more than three are allowed
abbrev pub FirstOfAnOrdinaryModel : Type 0
FirstOfAnOrdinaryModel =
    let top = point (pos 0) (below_zero 4) (pos 0) in
    let beside = point (units 6) (below_zero 4) (pos 0) in
    (neutral_expansion (texts_of ordinary_model) 32 3 [] (record { 0 = 0 })).entries ≡ part_at (Code 4) 3 1 1 ∷ Drawn Quad true true Ccw (Code 4) (at_line 3 7) (point (below_zero 40) (pos 0) (below_zero 20) ∷ point (below_zero 40) (pos 0) (units 20) ∷ point (units 40) (pos 0) (units 20) ∷ point (units 40) (pos 0) (below_zero 20) ∷ []) ∷ Drawn Tri true true Ccw (Code 4) (at_line 4 7) (top ∷ beside ∷ point (pos 0) (below_zero 4) (units 6) ∷ origin ∷ []) ∷ Drawn Line2 true true Ccw (EdgeOf 4) (at_line 4 8) (top ∷ beside ∷ origin ∷ origin ∷ []) ∷ []

-- how many entries stand up to and with each line of the main model
abbrev pub EndsOfAnOrdinaryModel : Type 0
EndsOfAnOrdinaryModel =
    let expansion = neutral_expansion (texts_of ordinary_model) 32 2000000 [] (record { 0 = 0 }) in
    (expansion.line_ends ≡ 0 ∷ 0 ∷ 0 ∷ 0 ∷ 0 ∷ 20 ∷ 24 ∷ 24 ∷ 44 ∷ 48 ∷ []) × (expansion.end ≡ None)

-- ---- Faults and limits.

abbrev pub cycle_texts : Known
cycle_texts = block (codes "a.ldr") (ref (codes "16 0 0 0") (codes "b.ldr") ∷ []) ∷ block (codes "b.ldr") (codes "3 16 0 0 0 1 0 0 0 1 0" ∷ ref (codes "16 0 0 0") (codes "a.ldr") ∷ []) ∷ []

abbrev pub CycleFromTheFirst : Type 0
CycleFromTheFirst = answer_in cycle_texts 0 ≡ faulty Cycle 1 2

abbrev pub CycleFromTheSecond : Type 0
CycleFromTheSecond = answer_in cycle_texts 1 ≡ faulty Cycle 0 1

abbrev pub ReferenceToItself : Type 0
ReferenceToItself = answer_in (block (codes "m.ldr") (codes "0 note" ∷ ref (codes "16 0 0 0") (codes "m.ldr") ∷ []) ∷ []) 0 ≡ faulty Cycle 0 2

-- a model whose reference has this offset
abbrev pub outside_texts : List ℕ → Known
outside_texts start = block (codes "m.ldr") (ref start (codes "s.ldr") ∷ []) ∷ block (codes "s.ldr") (codes "3 16 0 0 0 1 0 0 0 1 0" ∷ ref (codes "16 0 0 0") (codes "gone.dat") ∷ []) ∷ []

abbrev pub EarlierFaultFromOutside : Type 0
EarlierFaultFromOutside = answer_in (outside_texts (codes "16 1000000 0 0")) 0 ≡ faulty Range 0 1

abbrev pub NoFaultFromOutside : Type 0
NoFaultFromOutside = answer_in (outside_texts (codes "16 0 0 0")) 0 ≡ faulty Missing 1 2

abbrev pub triangles : ℕ → Known
triangles count = block (codes "m.ldr") (replicate count (codes "3 16 0 0 0 1 0 0 0 1 0")) ∷ []

abbrev pub answer_within : Known → ℕ → ℕ → Result (List Entry) Fault
answer_within known depth most = answer (texts_of known) depth most (record { 0 = 0 }) Main

abbrev pub OneTooMany : Type 0
OneTooMany = answer_within (triangles 4) 32 3 ≡ faulty TooMany 0 4

abbrev pub AsManyAsAllowed : Type 0
AsManyAsAllowed = answer_within (triangles 3) 32 3 ≡ Ok (tri_to right false true Ccw 0 1 ∷ tri_to right false true Ccw 0 2 ∷ tri_to right false true Ccw 0 3 ∷ [])

abbrev pub OneEntryAllowed : Type 0
OneEntryAllowed = answer_within (triangles 2) 32 1 ≡ faulty TooMany 0 2

abbrev pub OnlyEntryAllowed : Type 0
OnlyEntryAllowed = answer_within (triangles 1) 32 1 ≡ Ok (tri_to right false true Ccw 0 1 ∷ [])

abbrev pub three_deep : Known
three_deep =
    block (codes "m.ldr") (ref (codes "16 0 0 0") (codes "a.ldr") ∷ []) ∷ block (codes "a.ldr") (ref (codes "16 0 0 0") (codes "b.ldr") ∷ []) ∷ block (codes "b.ldr") [] ∷ []

abbrev pub DepthOfTwo : Type 0
DepthOfTwo = answer_within three_deep 2 3 ≡ faulty TooDeep 1 1

abbrev pub DepthOfThree : Type 0
DepthOfThree = answer_within three_deep 3 3 ≡ Ok []

abbrev pub DepthOfOne : Type 0
DepthOfOne = answer_within three_deep 1 3 ≡ faulty TooDeep 0 1

abbrev pub RootWithoutLines : Type 0
RootWithoutLines = answer_in three_deep 2 ≡ Ok []

abbrev pub AbsentRoot : Type 0
AbsentRoot = answer_in ((record { folder = Model 1; name = codes "m.ldr" }, None) ∷ []) 0 ≡ Ok []

abbrev pub UnknownRoot : Type 0
UnknownRoot = answer_in [] 7 ≡ Ok []

-- the answer to a query of a text of one line
abbrev pub answer_of_line : List ℕ → Result (List Entry) Fault
answer_of_line line = answer_in (block (codes "m.ldr") (line ∷ []) ∷ []) 0

abbrev pub ReferenceWithoutFile : Type 0
ReferenceWithoutFile = answer_of_line (ref (codes "16 0 0 0") []) ≡ faulty Malformed 0 1

abbrev pub NoLineType : Type 0
NoLineType = answer_of_line (codes "6 junk") ≡ faulty Malformed 0 1

abbrev pub NameWithoutNormalForm : Type 0
NameWithoutNormalForm = answer_of_line (ref (codes "16 0 0 0") (codes "C:/x.dat")) ≡ faulty Unnamed 0 1

abbrev pub NumberOutOfRange : Type 0
NumberOutOfRange = answer_of_line (codes "2 24 1000000.0000005 0 0 0 0 0") ≡ faulty Range 0 1

-- A chain of texts, each but the last of which puts the next one unit further; the last draws a line. Their names are
-- bytes from this one on.
abbrev pub chain : ℕ → ℕ → Known
chain zero name = block (name ∷ []) (codes "2 24 0 0 0 1 0 0" ∷ []) ∷ []
chain (suc more) name = block (name ∷ []) (ref (codes "16 1 0 0") (suc name ∷ []) ∷ []) ∷ chain more (suc name)

abbrev pub ChainOf64 : Type 0
ChainOf64 =
    answer_within (chain 63 128) 64 1 ≡ Ok (Drawn Line2 false true Ccw Edge (at_line 63 1) (point (units 63) (pos 0) (pos 0) ∷ point (units 64) (pos 0) (pos 0) ∷ origin ∷ origin ∷ []) ∷ [])

abbrev pub ChainOf65 : Type 0
ChainOf65 = answer_within (chain 64 128) 64 1 ≡ faulty TooDeep 63 1
