-- The names of blocks.
use Rattle.std.proofs.Common.{◌≡◌, ◌||◌, ℕ, Bool, true, false, cond, List, [], ◌∷◌, ◌++◌, map, Option, Some, None, Result, Ok, Err, bytes_eq, refl, ap, sym, ◌∙◌}
use Rattle.std.specs.List.{AllByRecursion, IsDistinct, list_any}
use Rattle.std.proofs.lemmas.Bool.{or_parts}
use Rattle.std.proofs.lemmas.Cmp.{nat_list_eq_equiv}
use Rattle.std.proofs.lemmas.List.Folds.{list_any-append}
use Rattle.ld_names.specs.Normal.{AreNames, normal_of}
use Rattle.ld_names.specs.declared.name.NameError.{NameError}
use Rattle.ld_line.specs.declared.line.BlockLine.{BlockLine}
use Rattle.ld_line.specs.declared.line.BlockLine.TheVariants.{File, NoFile, Data, Other}
use Rattle.ld_line.specs.Block.{block_line_of}
use Rattle.ld_line.specs.Cut.{lines_of}
use Rattle.ld_line.specs.Field.{after_fields}
use Rattle.ld_mpd.specs.declared.block.Block.{Block}
use Rattle.ld_mpd.specs.Blocks.{begun_blocks, behind_file, block_at, blocks_of, firsts, is_later, is_named, name_or, opening, text_blocks, texts_in}
use Rattle.ld_mpd.specs.Laws.{AreNamed, BlocksAreNamed, TextNamesDiffer}

abbrev IsNormal : List ℕ → Type 0
IsNormal name = normal_of name ≡ Ok name

name_is : (law : AreNames) (own text : List ℕ) → IsNormal own → IsNormal (name_or own (normal_of text))
name_is law own text is = by_result (normal_of text) refl
  where
    by_result : (result : Result (List ℕ) NameError) → normal_of text ≡ result → IsNormal (name_or own result)
    by_result (Ok name) here = law.again text name here
    by_result (Err e) here = is

named_begun : (law : AreNames) (own : List ℕ) (lines : List (List ℕ)) → IsNormal own → AreNamed (begun_blocks own lines)
named_begun law own [] is = tt
named_begun law own (line ∷ lines) is = by_kind (named_begun law own lines is) (block_line_of line)
  where
    by_kind : AreNamed (begun_blocks own lines) → (kind : BlockLine) → AreNamed (block_at own line lines kind ++ begun_blocks own lines)
    by_kind rest File = (name_is law own (after_fields 2 line) is, rest)
    by_kind rest Data = (name_is law own (after_fields 2 line) is, rest)
    by_kind rest NoFile = rest
    by_kind rest Other = rest

named_opening : (own : List ℕ) (lines : List (List ℕ)) (behind : Option (List (List ℕ))) (more : List Block) → IsNormal own → AreNamed more → AreNamed (opening own lines behind ++ more)
named_opening own lines (Some behind) more is rest = rest
named_opening own lines None more is rest = (is, rest)

named_firsts : (earlier blocks : List Block) → AreNamed blocks → AreNamed (firsts earlier blocks)
named_firsts earlier [] h = tt
named_firsts earlier (b ∷ blocks) h =
    elim (is_later earlier b) as (λ later. AreNamed (cond later (firsts earlier blocks) (b ∷ firsts (earlier ++ b ∷ []) blocks)))
    [ true ↦ named_firsts earlier blocks h.1 | false ↦ (h.0, named_firsts (earlier ++ b ∷ []) blocks h.1) ]

pub blocks_are_named : AreNames → BlocksAreNamed
unfolding blocks_of
blocks_are_named law own bytes is =
    let lines = lines_of bytes in
    named_firsts [] (opening own lines (behind_file lines) ++ begun_blocks own lines) (named_opening own lines (behind_file lines) (begun_blocks own lines) is (named_begun law own lines is))

-- ---- text blocks have different names

abbrev text_names : List Block → List (List ℕ)
text_names blocks = map (λ text. text.0) (texts_in blocks)

abbrev IsNewIn : List Block → List ℕ → Type 0
IsNewIn earlier name = list_any (is_named false name) earlier ≡ false

-- what is new among more blocks is new among the first of them
newer : (earlier : List Block) (b : Block) (names : List (List ℕ)) → AllByRecursion (IsNewIn (earlier ++ b ∷ [])) names → AllByRecursion (IsNewIn earlier) names
newer earlier b [] h = tt
newer earlier b (name ∷ names) h =
    ((or_parts _ _ (sym (list_any-append (is_named false name) earlier (b ∷ [])) ∙ h.0)).0, newer earlier b names h.1)

-- and differs from the last one, where that is a text
differs : (earlier : List Block) (b : Block) (names : List (List ℕ)) → b.is_data ≡ false → AllByRecursion (IsNewIn (earlier ++ b ∷ [])) names → AllByRecursion (λ name. bytes_eq b.name name ≡ false) names
differs earlier b [] is h = tt
differs earlier b (name ∷ names) is h =
    let last = or_parts (list_any (is_named false name) earlier) (is_named false name b || false) (sym (list_any-append (is_named false name) earlier (b ∷ [])) ∙ h.0) in
    let other = or_parts (is_named false name b) false last.1 in
    (nat_list_eq_equiv.symm b.name name ∙ rw is at other.0, differs earlier b names is h.1)

names_new : (earlier blocks : List Block) → AllByRecursion (IsNewIn earlier) (text_names (firsts earlier blocks))
names_new earlier [] = tt
names_new earlier (b ∷ blocks) = by_later (names_new earlier blocks) (newer earlier b (text_names more) (names_new (earlier ++ b ∷ []) blocks)) (is_later earlier b) refl
  where
    more : List Block
    more = firsts (earlier ++ b ∷ []) blocks

    by_kind : AllByRecursion (IsNewIn earlier) (text_names more) → (kind : Bool) → b.is_data ≡ kind → is_later earlier b ≡ false → AllByRecursion (IsNewIn earlier) (map (λ text. text.0) (cond kind (texts_in more) ((b.name, b.lines) ∷ texts_in more)))
    by_kind rest true is new = rest
    by_kind rest false is new = (ap (λ kind. list_any (is_named kind b.name) earlier) (sym is) ∙ new, rest)

    by_later : AllByRecursion (IsNewIn earlier) (text_names (firsts earlier blocks)) → AllByRecursion (IsNewIn earlier) (text_names more) → (later : Bool) → is_later earlier b ≡ later → AllByRecursion (IsNewIn earlier) (text_names (cond later (firsts earlier blocks) (b ∷ more)))
    by_later passed rest true is = passed
    by_later passed rest false is = by_kind rest b.is_data refl is

names_differ : (earlier blocks : List Block) → IsDistinct bytes_eq (text_names (firsts earlier blocks))
unfolding IsDistinct
names_differ earlier [] = tt
names_differ earlier (b ∷ blocks) = by_later (names_differ earlier blocks) (names_differ (earlier ++ b ∷ []) blocks) (is_later earlier b)
  where
    more : List Block
    more = firsts (earlier ++ b ∷ []) blocks

    by_kind : IsDistinct bytes_eq (text_names more) → (kind : Bool) → b.is_data ≡ kind → IsDistinct bytes_eq (map (λ text. text.0) (cond kind (texts_in more) ((b.name, b.lines) ∷ texts_in more)))
    by_kind rest true is = rest
    by_kind rest false is = (differs earlier b (text_names more) is (names_new (earlier ++ b ∷ []) blocks), rest)

    by_later : IsDistinct bytes_eq (text_names (firsts earlier blocks)) → IsDistinct bytes_eq (text_names more) → (later : Bool) → IsDistinct bytes_eq (text_names (cond later (firsts earlier blocks) (b ∷ more)))
    by_later passed rest true = passed
    by_later passed rest false = by_kind rest b.is_data refl

pub text_names_differ : TextNamesDiffer
unfolding text_blocks blocks_of
text_names_differ own bytes = names_differ [] (opening own (lines_of bytes) (behind_file (lines_of bytes)) ++ begun_blocks own (lines_of bytes))
