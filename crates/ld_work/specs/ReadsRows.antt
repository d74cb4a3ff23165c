-- Worked counts of the lines that expansions read.
use Rattle.std.specs.Prelude.{◌≡◌, ℕ, List, [], ◌∷◌, ◌++◌, Option, Some, None, codes}
use Rattle.ld_names.specs.Standing.{Known}
use Rattle.ld_entry.specs.Expansion.{neutral_expansion}
use Rattle.ld_entry.specs.KeptRows.{ended_triangles, model_of}
use Rattle.ld_entry.specs.Rows.{block, chain, cycle_texts, ref, texts_of, triangles}
use Rattle.ld_entry.specs.declared.entry.Expansion.{Expansion}
use Rattle.ld_work.specs.Reads.{reads}

-- the lines that the expansion of the first text reads where these are kept, by depth and number of entries
abbrev pub reads_in : Known → ℕ → ℕ → List (Option Expansion) → ℕ
reads_in known depth most kept =
    reads (record { texts = texts_of known; bounds = record { entries = most; depth = depth }; cache = record { kept = kept; blocks = 9 } }) [] (record { 0 = 0 })

-- the second of these texts is kept
abbrev pub second_kept : Known → ℕ → List (Option Expansion)
second_kept known depth = None ∷ Some (neutral_expansion (texts_of known) depth 9 [] (record { 0 = 1 })) ∷ []

-- three lines, two of which refer to a text of two lines
abbrev pub two_uses : Known
two_uses =
    block (codes "m.ldr") (ref (codes "16 0 0 0") (codes "s.ldr") ∷ codes "0 note" ∷ ref (codes "4 0 0 0") (codes "s.ldr") ∷ []) ∷ block (codes "s.ldr") (codes "2 16 0 0 0 1 0 0" ∷ codes "2 24 0 0 0 1 0 0" ∷ []) ∷ []

-- each use of a text reads its lines, and none where it is kept
abbrev pub EachUseIsRead : Type 0
EachUseIsRead = (reads_in two_uses 32 9 [] ≡ 7) × (reads_in two_uses 32 9 (second_kept two_uses 32) ≡ 3)

-- in a chain of three texts the second is given where the way may have three, and read where it may have two
abbrev pub LowTextsAreGiven : Type 0
LowTextsAreGiven = (reads_in (chain 2 128) 3 9 (second_kept (chain 2 128) 3) ≡ 1) × (reads_in (chain 2 128) 2 9 (second_kept (chain 2 128) 2) ≡ 2)

-- the lines behind a fault do not count, nor do those of a text behind it
abbrev pub NoneBehindAFault : Type 0
NoneBehindAFault = reads_in (model_of (ended_triangles 1 ++ codes "0 note" ∷ [])) 32 9 [] ≡ 3

-- nor do those behind an entry too many
abbrev pub NoneBehindAnEntryTooMany : Type 0
NoneBehindAnEntryTooMany = reads_in (triangles 5) 32 3 [] ≡ 4

-- a reference back counts, and enters nothing
abbrev pub ReferenceBackIsRead : Type 0
ReferenceBackIsRead = reads_in cycle_texts 32 9 [] ≡ 3
