-- Worked expansions of texts by themselves and under ways, and the heights of these texts.
use Rattle.std.specs.Prelude.{◌≡◌, ℕ, suc, false, true, pos, List, [], ◌∷◌, ◌++◌, map, replicate, Option, Some, None, codes}
use Rattle.ld_names.specs.Standing.{Known}
use Rattle.ld_line.specs.declared.line.Kind.TheVariants.{Line2}
use Rattle.ld_line.specs.declared.line.Winding.TheVariants.{Ccw}
use Rattle.ld_colour.specs.declared.colour.Colour.TheVariants.{Edge, Main}
use Rattle.ld_entry.specs.Expansion.{neutral_expansion}
use Rattle.ld_entry.specs.Heights.{height}
use Rattle.ld_entry.specs.Rows.{at_line, block, chain, cycle_texts, line_from_origin, ordinary_model, origin, outside_texts, point, ref, right, texts_of, tri_to, triangles, units}
use Rattle.ld_entry.specs.declared.entry.Entry.{Entry}
use Rattle.ld_entry.specs.declared.entry.Entry.TheVariants.{Drawn}
use Rattle.ld_entry.specs.declared.entry.Expansion.{Expansion}
use Rattle.ld_entry.specs.declared.entry.Fault.{Fault}
use Rattle.ld_entry.specs.declared.entry.What.{What}
use Rattle.ld_entry.specs.declared.entry.What.TheVariants.{Cycle, Missing, Range, TooDeep}

-- ---- How the rows are written.

-- the expansion of a text under a way, both by number
abbrev pub expansion_in : Known → ℕ → ℕ → List ℕ → ℕ → Expansion
expansion_in known depth most way text = neutral_expansion (texts_of known) depth most (map (λ number. record { 0 = number }) way) (record { 0 = text })

abbrev pub shows : List Entry → List ℕ → Option Fault → Expansion
shows entries line_ends end = record { entries = entries; line_ends = line_ends; end = end }

abbrev pub ends_with : What → ℕ → ℕ → Option Fault
ends_with what text line = Some (record { what = what; source = at_line text line })

abbrev pub height_in : Known → ℕ → ℕ → ℕ
height_in known depth text = height (suc depth) (texts_of known) (record { 0 = text })

abbrev pub triangle : ℕ → ℕ → Entry
triangle text line = tri_to right false true Ccw text line

-- ---- Low and high texts.

-- the model, the primitive, and a number that no file has; and on a cycle
abbrev pub HeightsOfModels : Type 0
HeightsOfModels =
    (height_in ordinary_model 32 0 ≡ 4) × (height_in ordinary_model 32 4 ≡ 1) × (height_in ordinary_model 32 5 ≡ 1) × (height_in cycle_texts 32 1 ≡ 33)

-- what the second of three texts in a chain shows, whose last draws a line
abbrev pub second_shows : Expansion
second_shows =
    shows (Drawn Line2 false true Ccw Edge (at_line 2 1) (point (units 1) (pos 0) (pos 0) ∷ point (units 2) (pos 0) (pos 0) ∷ origin ∷ origin ∷ []) ∷ []) (1 ∷ []) None

-- under a way of one text it is low, and under a longer one it would not be
abbrev pub AtTheDepth : Type 0
AtTheDepth =
    (height_in (chain 2 128) 3 1 ≡ 2) × (expansion_in (chain 2 128) 3 9 (0 ∷ []) 1 ≡ second_shows) × (expansion_in (chain 2 128) 3 9 [] 1 ≡ second_shows)

-- where a way may have one text less, it is high
abbrev pub AboveTheDepth : Type 0
AboveTheDepth =
    (height_in (chain 2 128) 2 1 ≡ 2) × (expansion_in (chain 2 128) 2 9 (0 ∷ []) 1 ≡ shows [] (0 ∷ []) (ends_with TooDeep 1 1)) × (expansion_in (chain 2 128) 2 9 [] 1 ≡ second_shows)

-- of a text on a cycle, the way to it decides where the cycle ends
abbrev pub CycleIsHigh : Type 0
CycleIsHigh =
    (expansion_in cycle_texts 32 9 (0 ∷ []) 1 ≡ shows (triangle 1 1 ∷ []) (1 ∷ 1 ∷ []) (ends_with Cycle 1 2)) × (expansion_in cycle_texts 32 9 [] 1 ≡ shows (triangle 1 1 ∷ []) (1 ∷ 1 ∷ []) (ends_with Cycle 0 1))

-- ---- What is kept of a text, and what references to it make of that.

-- a text that is used in another colour
abbrev pub coloured_texts : Known
coloured_texts = block (codes "m.ldr") (ref (codes "4 0 0 0") (codes "b.ldr") ∷ []) ∷ block (codes "b.ldr") (codes "2 16 0 0 0 1 0 0" ∷ codes "2 24 0 0 0 1 0 0" ∷ []) ∷ []

abbrev pub InTheMainColour : Type 0
InTheMainColour = expansion_in coloured_texts 32 9 (0 ∷ []) 1 ≡ shows (line_from_origin false Main right 1 1 ∷ line_from_origin false Edge right 1 2 ∷ []) (1 ∷ 2 ∷ []) None

-- the end of a text stands behind what a reference refuses of its entries, and behind its entries where none is refused
abbrev pub EndBehindAnOuterRange : Type 0
EndBehindAnOuterRange =
    (expansion_in (outside_texts (codes "16 1000000 0 0")) 32 9 [] 1 ≡ shows (triangle 1 1 ∷ []) (1 ∷ 1 ∷ []) (ends_with Missing 1 2)) × (expansion_in (outside_texts (codes "16 1000000 0 0")) 32 9 [] 0 ≡ shows [] (0 ∷ []) (ends_with Range 0 1)) × (expansion_in (outside_texts (codes "16 0 0 0")) 32 9 [] 0 ≡ shows (triangle 1 1 ∷ []) (1 ∷ []) (ends_with Missing 1 2))

abbrev pub four_triangles : ℕ → List Entry
four_triangles text = triangle text 1 ∷ triangle text 2 ∷ triangle text 3 ∷ triangle text 4 ∷ []

-- a model of such a text
abbrev pub model_of : List (List ℕ) → Known
model_of lines = block (codes "m.ldr") (ref (codes "16 0 0 0") (codes "s.ldr") ∷ []) ∷ block (codes "s.ldr") lines ∷ []

-- triangles, and behind them a reference to a file that is not there
abbrev pub ended_triangles : ℕ → List (List ℕ)
ended_triangles count = replicate count (codes "3 16 0 0 0 1 0 0 0 1 0") ++ ref (codes "16 0 0 0") (codes "gone.dat") ∷ []

-- Where three entries are allowed, the fourth is the last, and no end is behind it; nor is there one for what refers to
-- the text.
abbrev pub OneEntryMoreThanAllowed : Type 0
OneEntryMoreThanAllowed =
    (expansion_in (triangles 5) 32 3 [] 0 ≡ shows (four_triangles 0) (1 ∷ 2 ∷ 3 ∷ 4 ∷ 4 ∷ []) None) × (expansion_in (model_of (ended_triangles 4)) 32 3 [] 1 ≡ shows (four_triangles 1) (1 ∷ 2 ∷ 3 ∷ 4 ∷ 4 ∷ []) None) × (expansion_in (model_of (ended_triangles 4)) 32 3 [] 0 ≡ shows (four_triangles 1) (4 ∷ []) None)

-- behind three entries the end stands
abbrev pub AsManyEntriesAsAllowed : Type 0
AsManyEntriesAsAllowed =
    expansion_in (model_of (ended_triangles 3)) 32 3 [] 0 ≡ shows (triangle 1 1 ∷ triangle 1 2 ∷ triangle 1 3 ∷ []) (3 ∷ []) (ends_with Missing 1 4)
