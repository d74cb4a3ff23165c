-- The first text block.
use Rattle.std.proofs.Common.{◌≡◌, ◌||◌, ℕ, Bool, true, false, not, cond, List, [], ◌∷◌, ◌++◌, Option, Some, None, refl, ap, sym, ◌∙◌, unwrap_or}
use Rattle.std.specs.List.{list_all, list_any}
use Rattle.std.proofs.lemmas.Bool.{and_parts, and_from, or_from}
use Rattle.std.proofs.lemmas.List.Folds.{list_all-append}
use Rattle.ld_line.specs.declared.line.BlockLine.{BlockLine}
use Rattle.ld_line.specs.declared.line.BlockLine.TheVariants.{File, NoFile, Data, Other}
use Rattle.ld_line.specs.Block.{block_line_of}
use Rattle.ld_line.specs.Cut.{lines_of}
use Rattle.ld_mpd.specs.declared.block.Block.{Block}
use Rattle.ld_mpd.specs.Blocks.{begun_blocks, behind_file, block, block_at, block_name, blocks_in, blocks_of, first_lines, firsts, has_text, inside, is_file, is_later, is_named, opening, text_blocks, text_of, texts_in}
use Rattle.ld_mpd.specs.Laws.{TextIgnoresName, TextStands, TextsAmongBlocks}

-- the first text has these lines
abbrev pub HasFirst : List (List ℕ × List (List ℕ)) → List (List ℕ) → Type 0
HasFirst texts lines = (name : List ℕ) × (more : List (List ℕ × List (List ℕ))) × (texts ≡ (name, lines) ∷ more)

some_none : {A : Type 0} (x : A) → None ≡ Some x → ⊥
some_none x e = cc

same_some : {A : Type 0} (x y : A) → Some x ≡ Some y → x ≡ y
same_some x y e = cc

nil_cons : {A : Type 0} (x : A) (xs : List A) → [] ≡ x ∷ xs → ⊥
nil_cons x xs e = cc

texts_begun : (own : List ℕ) (lines behind : List (List ℕ)) → behind_file lines ≡ Some behind → HasFirst (texts_in (begun_blocks own lines)) (inside behind)
texts_begun own [] behind is = absurd (some_none behind is)
texts_begun own (line ∷ lines) behind is = by_kind (texts_begun own lines behind) (block_line_of line) is
  where
    by_kind : (behind_file lines ≡ Some behind → HasFirst (texts_in (begun_blocks own lines)) (inside behind)) → (kind : BlockLine) → cond (is_file kind) (Some lines) (behind_file lines) ≡ Some behind → HasFirst (texts_in (block_at own line lines kind ++ begun_blocks own lines)) (inside behind)
    by_kind later File here = (block_name own line, texts_in (begun_blocks own lines), ap (λ ls. (block_name own line, inside ls) ∷ texts_in (begun_blocks own lines)) (same_some lines behind here))
    by_kind later NoFile here = later here
    by_kind later Data here = later here
    by_kind later Other here = later here

-- a text block is none of the data blocks before it
no_later : (earlier : List Block) (name : List ℕ) → list_all (λ b. b.is_data) earlier ≡ true → list_any (is_named false name) earlier ≡ false
no_later [] name data' = refl
no_later (b ∷ earlier) name data' =
    let here : b.is_data ≡ true = (and_parts _ _ data').0 in or_from _ _ (rw here refl) (no_later earlier name (and_parts _ _ data').1)

texts_firsts : (earlier blocks : List Block) (lines : List (List ℕ)) → list_all (λ b. b.is_data) earlier ≡ true → HasFirst (texts_in blocks) lines → HasFirst (texts_in (firsts earlier blocks)) lines
texts_firsts earlier [] lines data' first = absurd (nil_cons _ _ first.2)
texts_firsts earlier (b ∷ blocks) lines data' first = by_kind (texts_firsts earlier blocks lines data') (texts_firsts (earlier ++ b ∷ []) blocks lines) b.is_data refl first
  where
    more : List Block
    more = firsts (earlier ++ b ∷ []) blocks

    by_later : (HasFirst (texts_in blocks) lines → HasFirst (texts_in (firsts earlier blocks)) lines) → (list_all (λ x. x.is_data) (earlier ++ b ∷ []) ≡ true → HasFirst (texts_in blocks) lines → HasFirst (texts_in more) lines) → (later : Bool) → b.is_data ≡ true → HasFirst (texts_in blocks) lines → HasFirst (texts_in (cond later (firsts earlier blocks) (b ∷ more))) lines
    by_later passed kept true is rest = passed rest
    by_later passed kept false is rest =
        let first = kept (list_all-append (λ x. x.is_data) earlier (b ∷ []) ∙ and_from _ _ data' (and_from _ _ is refl)) rest in
        (first.0, first.1, ap (λ k. cond k (texts_in more) ((b.name, b.lines) ∷ texts_in more)) is ∙ first.2)

    by_kind : (HasFirst (texts_in blocks) lines → HasFirst (texts_in (firsts earlier blocks)) lines) → (list_all (λ x. x.is_data) (earlier ++ b ∷ []) ≡ true → HasFirst (texts_in blocks) lines → HasFirst (texts_in more) lines) → (kind : Bool) → b.is_data ≡ kind → HasFirst (cond kind (texts_in blocks) ((b.name, b.lines) ∷ texts_in blocks)) lines → HasFirst (texts_in (cond (is_later earlier b) (firsts earlier blocks) (b ∷ more))) lines
    by_kind passed kept true is rest = by_later passed kept (is_later earlier b) is rest
    by_kind passed kept false is rest =
        let new : is_later earlier b ≡ false = ap (λ k. list_any (is_named k b.name) earlier) is ∙ no_later earlier b.name data' in
        let head : (b.name, b.lines) ≡ (rest.0, lines) = cc (rest.2) in
        let text : texts_in (b ∷ more) ≡ (b.name, b.lines) ∷ texts_in more = ap (λ k. cond k (texts_in more) ((b.name, b.lines) ∷ texts_in more)) is in
        (rest.0, texts_in more, ap (λ later. texts_in (cond later (firsts earlier blocks) (b ∷ more))) new ∙ text ∙ ap (λ t. t ∷ texts_in more) head)

-- the lines behind the first FILE line, or all lines, up to the next line of a block
abbrev pub main_lines : List (List ℕ) → List (List ℕ)
main_lines lines = inside (unwrap_or (behind_file lines) lines)

pub texts_blocks_in : (own : List ℕ) (lines : List (List ℕ)) → HasFirst (texts_in (blocks_in own lines)) (main_lines lines)
texts_blocks_in own lines = by_file (behind_file lines) refl
  where
    by_file : (behind : Option (List (List ℕ))) → behind_file lines ≡ behind → HasFirst (texts_in (firsts [] (opening own lines behind ++ begun_blocks own lines))) (inside (unwrap_or behind lines))
    by_file (Some behind) is = texts_firsts [] (begun_blocks own lines) (inside behind) refl (texts_begun own lines behind is)
    by_file None is = texts_firsts [] (block false own (inside lines) ∷ begun_blocks own lines) (inside lines) refl (own, texts_in (begun_blocks own lines), refl)

pub text_is : (own bytes : List ℕ) → text_of own bytes ≡ main_lines (lines_of bytes)
unfolding text_of text_blocks blocks_of
text_is own bytes = ap first_lines (texts_blocks_in own (lines_of bytes)).2

pub text_stands : TextStands
unfolding text_of text_blocks blocks_of
text_stands own bytes =
    let first = texts_blocks_in own (lines_of bytes) in
    (first.0, first.1, first.2 ∙ ap (λ ls. (first.0, ls) ∷ first.1) (sym (ap first_lines first.2)))

pub text_ignores_name : TextIgnoresName
text_ignores_name own other bytes = text_is own bytes ∙ sym (text_is other bytes)

texts_has : (blocks : List Block) (lines : List (List ℕ)) → HasFirst (texts_in blocks) lines → has_text blocks ≡ true
texts_has [] lines first = absurd (nil_cons _ _ first.2)
texts_has (b ∷ blocks) lines first = by_kind (texts_has blocks lines) b.is_data refl first
  where
    by_kind : (HasFirst (texts_in blocks) lines → has_text blocks ≡ true) → (kind : Bool) → b.is_data ≡ kind → HasFirst (cond kind (texts_in blocks) ((b.name, b.lines) ∷ texts_in blocks)) lines → (not b.is_data || has_text blocks) ≡ true
    by_kind later true is rest = rw is (later rest)
    by_kind later false is rest = rw is refl

-- one block at least is a text
pub blocks_have_text : (own bytes : List ℕ) → has_text (blocks_of own bytes) ≡ true
unfolding blocks_of
blocks_have_text own bytes = texts_has (blocks_in own (lines_of bytes)) (main_lines (lines_of bytes)) (texts_blocks_in own (lines_of bytes))

-- the text behind a FILE line, and a text without one
pub text_behind : (own bytes : List ℕ) (lines behind : List (List ℕ)) → lines ≡ lines_of bytes → behind_file lines ≡ Some behind → inside behind ≡ text_of own bytes
text_behind own bytes lines behind are is =
    sym (text_is own bytes ∙ ap main_lines (sym are) ∙ ap (λ found. inside (unwrap_or found lines)) is)

pub text_whole : (own bytes : List ℕ) (lines : List (List ℕ)) → lines ≡ lines_of bytes → behind_file lines ≡ None → inside lines ≡ text_of own bytes
text_whole own bytes lines are is =
    sym (text_is own bytes ∙ ap main_lines (sym are) ∙ ap (λ found. inside (unwrap_or found lines)) is)

pub texts_among_blocks : TextsAmongBlocks
unfolding text_blocks
texts_among_blocks own bytes = refl
