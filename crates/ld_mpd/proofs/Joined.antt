-- What is joined is cut into the same blocks.
use Rattle.std.proofs.Common.{◌≡◌, ◌==◌, ◌||◌, ◌+◌, ℕ, Bool, true, false, not, cond, List, [], ◌∷◌, ◌++◌, Option, Some, None, Ok, refl, ap, sym, ◌∙◌, append-nil, arith}
use Rattle.std.specs.List.{flat_map, list_all, list_any}
use Rattle.std.proofs.lemmas.Bool.{and_parts, and_from, false≢true, or_parts}
use Rattle.std.proofs.lemmas.Bool.Decides.{nat_tests}
use Rattle.std.proofs.lemmas.List.Folds.{list_all-append}
use Rattle.ld_names.specs.Normal.{AreNames, is_control, normal_of}
use Rattle.ld_line.specs.declared.line.BlockLine.{BlockLine}
use Rattle.ld_line.specs.declared.line.BlockLine.TheVariants.{File, NoFile, Data, Other}
use Rattle.ld_line.specs.Block.{block_line_of, is_other}
use Rattle.ld_line.specs.Cut.{lines_of, without_mark}
use Rattle.ld_line.specs.Field.{after_field, after_fields, fields}
use Rattle.ld_line.specs.Word.{LinesOfTexts, ended, is_one_line}
use Rattle.ld_mpd.specs.declared.block.Block.{Block}
use Rattle.ld_mpd.specs.Blocks.{are_inside, begun_blocks, behind_file, block, block_at, block_name, blocks_in, blocks_of, firsts, has_text, inside, is_file, is_inside, is_later, name_or, opening}
use Rattle.ld_mpd.specs.Joining.{block_lines, first_bad, head_word, is_bad, join_by, join_of, joined}
use Rattle.ld_mpd.specs.Laws.{AreNamed, SplitOfJoined}
use Rattle.ld_mpd.proofs.Inside.{begun_inside}

-- ---- the line before a block

abbrev line_for : Bool → BlockLine
line_for true = Data
line_for false = File

head_is : (is_data : Bool) (name : List ℕ) → block_line_of (head_word is_data ++ name) ≡ line_for is_data
unfolding block_line_of fields
head_is true name = refl
head_is false name = refl

head_rest : (is_data : Bool) (name : List ℕ) → after_fields 2 (head_word is_data ++ name) ≡ 32 ∷ name
unfolding after_field
head_rest true name = refl
head_rest false name = refl

behind_blank : (name : List ℕ) → normal_of (32 ∷ name) ≡ normal_of name
unfolding normal_of
behind_blank name = refl

head_name : (own : List ℕ) (is_data : Bool) (name : List ℕ) → normal_of name ≡ Ok name → block_name own (head_word is_data ++ name) ≡ name
head_name own is_data name is =
    ap (λ rest. name_or own (normal_of rest)) (head_rest is_data name) ∙ ap (name_or own) (behind_blank name ∙ is)

plain_byte : (b : ℕ) → is_control b ≡ false → not (b == 10) ≡ true
plain_byte b h = grind (arith, nat_tests)

plain_name : (name : List ℕ) → list_any is_control name ≡ false → is_one_line name ≡ true
plain_name [] h = refl
plain_name (b ∷ name) h = and_from _ _ (plain_byte b (or_parts _ _ h).0) (plain_name name (or_parts _ _ h).1)

head_is_one_line : (is_data : Bool) (name : List ℕ) → is_one_line name ≡ true → is_one_line (head_word is_data ++ name) ≡ true
head_is_one_line true name h = h
head_is_one_line false name h = h

head_mark : (is_data : Bool) (name rest : List ℕ) → without_mark (((head_word is_data ++ name) ++ 13 ∷ 10 ∷ []) ++ rest) ≡ ((head_word is_data ++ name) ++ 13 ∷ 10 ∷ []) ++ rest
head_mark true name rest = refl
head_mark false name rest = refl

-- ---- blocks that can be joined

abbrev AreGood : List Block → List Block → Type 0
AreGood earlier [] = Unit {0}
AreGood earlier (b ∷ blocks) = (is_later earlier b ≡ false) × (are_inside b.lines ≡ true) × AreGood (earlier ++ b ∷ []) blocks

some_none : (number : ℕ) → Some number ≡ None → ⊥
some_none number e = cc

true_from_not : (b : Bool) → not b ≡ false → b ≡ true
true_from_not true h = refl
true_from_not false h = absurd (false≢true (sym h))

good : (number : ℕ) (earlier blocks : List Block) → first_bad number earlier blocks ≡ None → AreGood earlier blocks
good number earlier [] none = tt
good number earlier (b ∷ blocks) none = by_bad (good (number + 1) (earlier ++ b ∷ []) blocks) (is_bad earlier b) refl none
  where
    by_bad : (first_bad (number + 1) (earlier ++ b ∷ []) blocks ≡ None → AreGood (earlier ++ b ∷ []) blocks) → (bad : Bool) → is_bad earlier b ≡ bad → cond bad (Some number) (first_bad (number + 1) (earlier ++ b ∷ []) blocks) ≡ None → AreGood earlier (b ∷ blocks)
    by_bad later true is found = absurd (some_none number found)
    by_bad later false is rest = ((or_parts _ _ is).0, true_from_not _ (or_parts _ _ is).1, later rest)

firsts_good : (earlier blocks : List Block) → AreGood earlier blocks → firsts earlier blocks ≡ blocks
firsts_good earlier [] h = refl
firsts_good earlier (b ∷ blocks) h =
    let new : is_later earlier b ≡ false = h.0 in rw new (ap (λ bs. b ∷ bs) (firsts_good (earlier ++ b ∷ []) blocks h.2))

-- ---- lines

one_lines : (lines : List (List ℕ)) → are_inside lines ≡ true → list_all is_one_line lines ≡ true
one_lines [] h = refl
one_lines (line ∷ lines) h = and_from _ _ (and_parts _ _ (and_parts _ _ h).0).0 (one_lines lines (and_parts _ _ h).1)

are_one_line : (law : AreNames) (earlier blocks : List Block) → AreGood earlier blocks → AreNamed blocks → list_all is_one_line (flat_map block_lines blocks) ≡ true
are_one_line law earlier [] h named = refl
are_one_line law earlier (b ∷ blocks) h named =
    and_from _ _ (head_is_one_line b.is_data b.name (plain_name b.name (law.names b.name named.0).plain))
    (list_all-append is_one_line b.lines (flat_map block_lines blocks) ∙ and_from _ _ (one_lines b.lines h.1) (are_one_line law (earlier ++ b ∷ []) blocks h.2 named.1))

no_mark : (blocks : List Block) → without_mark (ended (flat_map block_lines blocks)) ≡ ended (flat_map block_lines blocks)
no_mark [] = refl
no_mark (b ∷ blocks) = head_mark b.is_data b.name (ended (b.lines ++ flat_map block_lines blocks))

-- ---- cutting

inside_lines : (lines rest : List (List ℕ)) → are_inside lines ≡ true → inside (lines ++ rest) ≡ lines ++ inside rest
inside_lines [] rest h = refl
inside_lines (line ∷ lines) rest h =
    let here : is_inside line ≡ true = (and_parts _ _ (and_parts _ _ h).0).1 in
    rw here (ap (λ ls. line ∷ ls) (inside_lines lines rest (and_parts _ _ h).1))

begun_lines : (own : List ℕ) (lines rest : List (List ℕ)) → are_inside lines ≡ true → begun_blocks own (lines ++ rest) ≡ begun_blocks own rest
begun_lines own [] rest h = refl
begun_lines own (line ∷ lines) rest h =
    begun_inside own line (lines ++ rest) (and_parts _ _ (and_parts _ _ h).0).1 ∙ begun_lines own lines rest (and_parts _ _ h).1

head_outside : (is_data : Bool) (name : List ℕ) → is_inside (head_word is_data ++ name) ≡ false
head_outside true name = ap is_other (head_is true name)
head_outside false name = ap is_other (head_is false name)

inside_none : (blocks : List Block) → inside (flat_map block_lines blocks) ≡ []
inside_none [] = refl
inside_none (b ∷ blocks) = let here : is_inside (head_word b.is_data ++ b.name) ≡ false = head_outside b.is_data b.name in rw here refl

block_at_head : (own : List ℕ) (is_data : Bool) (line : List ℕ) (lines : List (List ℕ)) → block_at own line lines (line_for is_data) ≡ block is_data (block_name own line) (inside lines) ∷ []
block_at_head own true line lines = refl
block_at_head own false line lines = refl

begun_again : (own : List ℕ) (earlier blocks : List Block) → AreGood earlier blocks → AreNamed blocks → begun_blocks own (flat_map block_lines blocks) ≡ blocks
begun_again own earlier [] h named = refl
begun_again own earlier (b ∷ blocks) h named =
    let head = head_word b.is_data ++ b.name in
    let rest = flat_map block_lines blocks in
    let at : block_at own head (b.lines ++ rest) (block_line_of head) ≡ block b.is_data (block_name own head) (inside (b.lines ++ rest)) ∷ [] = ap (block_at own head (b.lines ++ rest)) (head_is b.is_data b.name) ∙ block_at_head own b.is_data head (b.lines ++ rest) in
    let lines : inside (b.lines ++ rest) ≡ b.lines = inside_lines b.lines rest h.1 ∙ ap (λ ls. b.lines ++ ls) (inside_none blocks) ∙ append-nil b.lines in
    let more : begun_blocks own (b.lines ++ rest) ≡ blocks = begun_lines own b.lines rest h.1 ∙ begun_again own (earlier ++ b ∷ []) blocks h.2 named.1 in
    ap (λ bs. bs ++ begun_blocks own (b.lines ++ rest)) at
    ∙ ap (λ name. block b.is_data name (inside (b.lines ++ rest)) ∷ begun_blocks own (b.lines ++ rest)) (head_name own b.is_data b.name named.0)
    ∙ ap (λ ls. block b.is_data b.name ls ∷ begun_blocks own (b.lines ++ rest)) lines
    ∙ ap (λ bs. b ∷ bs) more

-- ---- a text block stands

abbrev IsFound : Option (List (List ℕ)) → Type 0
IsFound found = (behind : List (List ℕ)) × (found ≡ Some behind)

found_behind : (lines rest : List (List ℕ)) → are_inside lines ≡ true → behind_file (lines ++ rest) ≡ behind_file rest
found_behind [] rest h = refl
found_behind (line ∷ lines) rest h =
    by_kind (block_line_of line) (and_parts _ _ (and_parts _ _ h).0).1 ∙ found_behind lines rest (and_parts _ _ h).1
  where
    by_kind : (kind : BlockLine) → is_other kind ≡ true → cond (is_file kind) (Some (lines ++ rest)) (behind_file (lines ++ rest)) ≡ behind_file (lines ++ rest)
    by_kind Other here = refl
    by_kind File here = absurd (false≢true here)
    by_kind NoFile here = absurd (false≢true here)
    by_kind Data here = absurd (false≢true here)

file_stands : (earlier blocks : List Block) → AreGood earlier blocks → has_text blocks ≡ true → IsFound (behind_file (flat_map block_lines blocks))
file_stands earlier [] h text = absurd (false≢true text)
file_stands earlier (b ∷ blocks) h text = by_kind (file_stands (earlier ++ b ∷ []) blocks h.2) b.is_data text
  where
    after : List (List ℕ)
    after = b.lines ++ flat_map block_lines blocks

    by_kind : (has_text blocks ≡ true → IsFound (behind_file (flat_map block_lines blocks))) → (kind : Bool) → (not kind || has_text blocks) ≡ true → IsFound (behind_file ((head_word kind ++ b.name) ∷ after))
    by_kind later false here = (after, ap (λ k. cond (is_file k) (Some after) (behind_file after)) (head_is false b.name))
    by_kind later true here =
        let rest = later here in
        (rest.0, ap (λ k. cond (is_file k) (Some after) (behind_file after)) (head_is true b.name) ∙ found_behind b.lines (flat_map block_lines blocks) h.1 ∙ rest.1)

-- ---- the whole

joins : (text : Bool) (bad : Option ℕ) (blocks : List Block) (bytes : List ℕ) → join_by blocks text bad ≡ Ok bytes → (text ≡ true) × (bad ≡ None) × (joined blocks ≡ bytes)
joins false bad blocks bytes is = absurd cc
joins true (Some number) blocks bytes is = absurd cc
joins true None blocks bytes is = (refl, refl, cc)

cut_again : (own : List ℕ) (blocks : List Block) → AreGood [] blocks → AreNamed blocks → has_text blocks ≡ true → blocks_in own (flat_map block_lines blocks) ≡ blocks
cut_again own blocks h named text =
    let lines = flat_map block_lines blocks in
    let found = file_stands [] blocks h text in
    ap (λ behind. firsts [] (opening own lines behind ++ begun_blocks own lines)) found.1 ∙ ap (firsts []) (begun_again own [] blocks h named) ∙ firsts_good [] blocks h

pub split_of_joined : AreNames → LinesOfTexts → SplitOfJoined
unfolding join_of blocks_of
split_of_joined names law own blocks bytes named is =
    let parts = joins (has_text blocks) (first_bad 1 [] blocks) blocks bytes is in
    let h = good 1 [] blocks parts.1 in
    ap (λ bs. blocks_in own (lines_of bs)) (sym parts.2)
    ∙ ap (blocks_in own) (law.back (flat_map block_lines blocks) (are_one_line names [] blocks h named) (no_mark blocks))
    ∙ cut_again own blocks h named parts.0
