-- The lines of blocks.
use Rattle.std.proofs.Common.{◌≡◌, ℕ, Bool, true, false, cond, List, [], ◌∷◌, ◌++◌, Option, Some, None, refl, ◌∙◌}
use Rattle.std.specs.List.{list_all}
use Rattle.std.proofs.lemmas.Bool.{and_parts, and_from, false≢true}
use Rattle.std.proofs.lemmas.List.Folds.{list_all-append}
use Rattle.ld_line.specs.declared.line.BlockLine.{BlockLine}
use Rattle.ld_line.specs.declared.line.BlockLine.TheVariants.{File, NoFile, Data, Other}
use Rattle.ld_line.specs.Block.{block_line_of, is_other}
use Rattle.ld_line.specs.Cut.{lines_of}
use Rattle.ld_line.specs.Word.{LinesOfTexts, is_one_line}
use Rattle.ld_mpd.specs.declared.block.Block.{Block}
use Rattle.ld_mpd.specs.Blocks.{are_inside, begun_blocks, behind_file, block_at, blocks_in, blocks_of, firsts, inside, is_inside, is_later, opening, text_blocks, texts_in}
use Rattle.ld_mpd.specs.Laws.{LinesStandInside, TextLinesStandInside}

abbrev pub stands_inside : Block → Bool
stands_inside b = are_inside b.lines

inside_are : (lines : List (List ℕ)) → list_all is_one_line lines ≡ true → are_inside (inside lines) ≡ true
inside_are [] h = refl
inside_are (line ∷ lines) h = by_line (inside_are lines (and_parts _ _ h).1) (is_inside line) refl
  where
    by_line : are_inside (inside lines) ≡ true → (here : Bool) → is_inside line ≡ here → are_inside (cond here (line ∷ inside lines) []) ≡ true
    by_line rest true is = and_from _ _ (and_from _ _ (and_parts (is_one_line line) (list_all is_one_line lines) h).0 is) rest
    by_line rest false is = refl

begun_are : (own : List ℕ) (lines : List (List ℕ)) → list_all is_one_line lines ≡ true → list_all stands_inside (begun_blocks own lines) ≡ true
begun_are own [] h = refl
begun_are own (line ∷ lines) h = by_kind (inside_are lines (and_parts _ _ h).1) (begun_are own lines (and_parts _ _ h).1) (block_line_of line)
  where
    by_kind : are_inside (inside lines) ≡ true → list_all stands_inside (begun_blocks own lines) ≡ true → (kind : BlockLine) → list_all stands_inside (block_at own line lines kind ++ begun_blocks own lines) ≡ true
    by_kind here rest File = and_from _ _ here rest
    by_kind here rest Data = and_from _ _ here rest
    by_kind here rest NoFile = rest
    by_kind here rest Other = rest

opening_are : (own : List ℕ) (lines : List (List ℕ)) (behind : Option (List (List ℕ))) → list_all is_one_line lines ≡ true → list_all stands_inside (opening own lines behind) ≡ true
opening_are own lines (Some behind) h = refl
opening_are own lines None h = and_from _ _ (inside_are lines h) refl

-- what holds of all blocks holds of those that stand
pub firsts_all : (test : Block → Bool) (earlier blocks : List Block) → list_all test blocks ≡ true → list_all test (firsts earlier blocks) ≡ true
firsts_all test earlier [] h = refl
firsts_all test earlier (b ∷ blocks) h =
    elim (is_later earlier b) as (λ later. list_all test (cond later (firsts earlier blocks) (b ∷ firsts (earlier ++ b ∷ []) blocks)) ≡ true) [
      | true ↦ firsts_all test earlier blocks (and_parts _ _ h).1
      | false ↦ and_from _ _ (and_parts _ _ h).0 (firsts_all test (earlier ++ b ∷ []) blocks (and_parts _ _ h).1)
    ]

pub blocks_are : (own : List ℕ) (lines : List (List ℕ)) → list_all is_one_line lines ≡ true → list_all stands_inside (blocks_in own lines) ≡ true
blocks_are own lines h =
    firsts_all stands_inside [] (opening own lines (behind_file lines) ++ begun_blocks own lines) (list_all-append stands_inside (opening own lines (behind_file lines)) (begun_blocks own lines) ∙ and_from _ _ (opening_are own lines (behind_file lines) h) (begun_are own lines h))

texts_are : (blocks : List Block) → list_all stands_inside blocks ≡ true → list_all (λ text. are_inside text.1) (texts_in blocks) ≡ true
texts_are [] h = refl
texts_are (b ∷ blocks) h =
    elim b.is_data as (λ kind. list_all (λ text. are_inside text.1) (cond kind (texts_in blocks) ((b.name, b.lines) ∷ texts_in blocks)) ≡ true) [
      | true ↦ texts_are blocks (and_parts _ _ h).1
      | false ↦ and_from _ _ (and_parts _ _ h).0 (texts_are blocks (and_parts _ _ h).1)
    ]

pub lines_stand_inside : LinesOfTexts → LinesStandInside
unfolding blocks_of
lines_stand_inside law own bytes = blocks_are own (lines_of bytes) (law.one_line bytes)

pub text_lines_stand_inside : LinesOfTexts → TextLinesStandInside
unfolding text_blocks
text_lines_stand_inside law own bytes = texts_are (blocks_of own bytes) (lines_stand_inside law own bytes)

-- a line that begins or ends no block is passed over
pub begun_inside : (own line : List ℕ) (lines : List (List ℕ)) → is_inside line ≡ true → begun_blocks own (line ∷ lines) ≡ begun_blocks own lines
begun_inside own line lines h = by_kind (block_line_of line) h
  where
    by_kind : (kind : BlockLine) → is_other kind ≡ true → block_at own line lines kind ++ begun_blocks own lines ≡ begun_blocks own lines
    by_kind Other here = refl
    by_kind File here = absurd (false≢true here)
    by_kind NoFile here = absurd (false≢true here)
    by_kind Data here = absurd (false≢true here)
