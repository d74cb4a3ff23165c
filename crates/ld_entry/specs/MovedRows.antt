-- Worked models of moved parts, from their bytes.
use Rattle.std.specs.Prelude.{◌≡◌, ℕ, zero, suc, Bool, false, true, pos, List, [], ◌∷◌, ◌++◌, Ok, codes}
use Rattle.ld_names.specs.Standing.{Known, Text}
use Rattle.ld_names.specs.declared.file.FileId.{FileId}
use Rattle.ld_names.specs.declared.file.Folder.TheVariants.{Parts}
use Rattle.ld_line.specs.declared.line.Kind.TheVariants.{Tri}
use Rattle.ld_line.specs.declared.line.Winding.TheVariants.{Ccw}
use Rattle.ld_colour.specs.declared.colour.Colour.TheVariants.{Code}
use Rattle.ld_entry.specs.KeptRows.{ends_with, expansion_in, shows}
use Rattle.ld_entry.specs.Rows.{answer_in, at_line, block, certified_tri, faulty, lies_in, origin, part_at, point, ref, right, texts_of, units}
use Rattle.ld_entry.specs.declared.entry.Entry.{Entry}
use Rattle.ld_entry.specs.declared.entry.Entry.TheVariants.{Drawn}
use Rattle.ld_entry.specs.declared.entry.What.TheVariants.{Cycle}

-- ---- How the rows are written.

-- what says that a part moved to one of this name
abbrev pub moved_to : List ℕ → List (List ℕ)
moved_to name = (codes "0 ~Moved to " ++ name) ∷ ref (codes "16 0 0 0") name ∷ []

abbrev pub part : List ℕ → List (List ℕ) → FileId × Text
part name lines = lies_in Parts name lines

abbrev pub target_in : Known → ℕ → ℕ
target_in known text = ((texts_of known).target (record { 0 = text })).0

-- the triangle of a part in colour 4
abbrev pub part_triangle : Bool → ℕ → Entry
part_triangle certified text = Drawn Tri certified true Ccw (Code 4) (at_line text 2) (origin ∷ right ∷ point (pos 0) (units 1) (pos 0) ∷ origin ∷ [])

-- ---- One move, and more.

-- a model that uses a part by its old name and by its new one
abbrev pub moved_model : Known
moved_model =
    block (codes "m.ldr") (ref (codes "4 0 0 0") (codes "old.dat") ∷ ref (codes "4 0 0 0") (codes "new.dat") ∷ []) ∷ part (codes "old.dat") (moved_to (codes "new.dat")) ∷ part (codes "new.dat") certified_tri ∷ []

-- Both entries are of the part itself. What it gives comes behind each, the first time through the text that says where
-- it moved to, which is a silent part text.
abbrev pub MovedPart : Type 0
MovedPart =
    answer_in moved_model 0 ≡ Ok (part_at (Code 4) 2 0 1 ∷ part_triangle false 2 ∷ part_at (Code 4) 2 0 2 ∷ part_triangle true 2 ∷ [])

-- a part in a model's file
abbrev pub moved_block : List ℕ → List (List ℕ)
moved_block name = (codes "0 ~Moved to " ++ name) ∷ codes "0 !LDRAW_ORG Unofficial_Part" ∷ ref (codes "16 0 0 0") name ∷ []

-- Moves lead on along references. A text that is no part ends them, and so does a part without such a title, with a
-- second reference, or with a drawn line.
abbrev pub moves : Known
moves =
    part (codes "a") (moved_to (codes "b")) ∷ part (codes "b") (moved_to (codes "c")) ∷ part (codes "c") certified_tri ∷ block (codes "d") (moved_block (codes "e")) ∷ block (codes "e") certified_tri ∷ part (codes "f") (ref (codes "16 0 0 0") (codes "a") ∷ moved_to (codes "a")) ∷ part (codes "g") (moved_to (codes "a") ++ ref (codes "16 0 0 0") (codes "b") ∷ []) ∷ part (codes "h") (moved_to (codes "a") ++ certified_tri) ∷ part (codes "i") (moved_to (codes "gone")) ∷ block (codes "j") (moved_block (codes "b")) ∷ []

abbrev pub TargetsOverWalks : Type 0
TargetsOverWalks =
    (target_in moves 0 ≡ 2) × (target_in moves 1 ≡ 2) × (target_in moves 2 ≡ 2) × (target_in moves 9 ≡ 2)

abbrev pub NoTargets : Type 0
NoTargets = (target_in moves 3 ≡ 3) × (target_in moves 4 ≡ 4) × (target_in moves 5 ≡ 5) × (target_in moves 6 ≡ 6) × (target_in moves 7 ≡ 7) × (target_in moves 8 ≡ 8)

-- ---- Moves in a cycle, and many.

abbrev pub cycle_of_moves : Known
cycle_of_moves =
    block (codes "m.ldr") (ref (codes "4 0 0 0") (codes "a.dat") ∷ []) ∷ part (codes "a.dat") (moved_to (codes "b.dat")) ∷ part (codes "b.dat") (moved_to (codes "a.dat")) ∷ []

abbrev pub MovedCycle : Type 0
MovedCycle =
    (answer_in cycle_of_moves 0 ≡ faulty Cycle 2 2) × (expansion_in cycle_of_moves 32 9 [] 0 ≡ shows (part_at (Code 4) 2 0 1 ∷ []) (1 ∷ []) (ends_with Cycle 2 2))

-- of three, no text counts twice, so that the moves of the first end at the last
abbrev pub cycle_of_three : Known
cycle_of_three = part (codes "a") (moved_to (codes "b")) ∷ part (codes "b") (moved_to (codes "c")) ∷ part (codes "c") (moved_to (codes "a")) ∷ []

abbrev pub MovesInACycle : Type 0
MovesInACycle = (target_in cycle_of_three 0 ≡ 2) × (target_in cycle_of_three 1 ≡ 0) × (target_in cycle_of_three 2 ≡ 1)

-- parts, each but the last of which moved to the next; their names are bytes from this one on
abbrev pub moved_chain : ℕ → ℕ → Known
moved_chain zero name = part (name ∷ []) certified_tri ∷ []
moved_chain (suc more) name = part (name ∷ []) (moved_to (suc name ∷ [])) ∷ moved_chain more (suc name)

-- of 64 parts the last is the target of the first, and of 65 the last but one
abbrev pub MovesOf64 : Type 0
MovesOf64 = target_in (moved_chain 63 128) 0 ≡ 63

abbrev pub MovesOf65 : Type 0
MovesOf65 = target_in (moved_chain 64 128) 0 ≡ 63
