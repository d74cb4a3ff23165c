-- Why an edit is refused, before its weight is looked at and after.
use Rattle.std.proofs.Common.{◌≡◌, ◌≤◌, ◌<◌, ◌+◌, ◌-◌, ◌||◌, ◌==◌, ℕ, suc, Bool, true, false, List, [], length, take, drop, Option, Some, None, sym, ap, refl, ◌∙◌, option_map, option_and_then, IsSome, get_or, arith, tests, nat_lt, slice_set, inl, inr, take_all}
use Rattle.std.specs.List.{insert, list_all, remove}
use Rattle.std.specs.Map.{set_value}
use Rattle.std.specs.Option.{is_none, is_some, option_map_or, option_or}
use Rattle.std.proofs.lemmas.Bool.{cases_lt}
use Rattle.std.proofs.lemmas.List.{drop_all}
use Rattle.std.proofs.lemmas.List.Sums.{get_or-le-sum_by, sum_by-append, sum_by-insert, sum_by-remove, sum_by-set}
use Rattle.ld_names.specs.declared.file.FileId.{FileId}
use Rattle.ld_names.specs.Standing.{Known, Text, same_file}
use Rattle.ld_texts.specs.Known.{id_of, lines_at, weight_of, weight_of_lines, weight_of_text}
use Rattle.ld_texts.specs.Editing.{edited, is_block_text, misfit, misses, overweight, refusal_of, refused_if, text_of}
use Rattle.ld_texts.specs.Inside.Placed.{with_text_at}
use Rattle.ld_texts.specs.declared.edit.Edit.{Edit}
use Rattle.ld_texts.specs.declared.edit.Edit.TheVariants.{Set, Insert, Delete, New, Restore, Drop, Move}
use Rattle.ld_texts.specs.declared.edit.EditRefusal.{EditRefusal}
use Rattle.ld_texts.specs.declared.edit.EditRefusal.TheVariants.{BadLine, NoFile, FileThere, NoLine, Full}
use Rattle.ld_texts.proofs.Placed.{id_of-lt-length, lines_at-le-weight_of, text_of-is, weight_of-with_text_at, written-is, written_at}

-- ---- an edit that is not refused

pub option_or_none : {A : Type 0} (a b : Option A) → option_or a b ≡ None → (a ≡ None) × (b ≡ None)
option_or_none None b is = (refl, is)
option_or_none (Some x) b is = absurd (cc)

pub refused_if-none : (holds : Bool) (refusal : EditRefusal) → refused_if holds refusal ≡ None → holds ≡ false
refused_if-none true refusal is = absurd (cc)
refused_if-none false refusal is = refl

-- it keeps within the limit
pub fits : (max_weight : ℕ) (known : Known) (edit : Edit) → refusal_of max_weight known edit ≡ None → weight_of (edited known edit) ≤ max_weight
fits max_weight known edit is =
    let light = refused_if-none (nat_lt max_weight (weight_of (edited known edit))) (Full (weight_of known)) (option_or_none (misfit (text_of known) edit) (overweight max_weight known (edited known edit)) is).1 in
    grind (arith, tests)

-- and one of a line finds its line
pub inside : (further line : ℕ) (text : Text) (lines : List (List ℕ)) → misses further line text ≡ None → text ≡ Some lines → (0 < line) × (line ≤ length lines + further)
inside further line None lines fits is = absurd (cc)
inside further line (Some these) lines fits is =
    let same : these ≡ lines = cc in
    let passes : (line == 0 || nat_lt (length these + further) line) ≡ false = refused_if-none (line == 0 || nat_lt (length these + further) line) (NoLine (length these)) fits in
    rw (← same) (grind (arith, tests))

-- ---- refusals that do not come from the weight

heavy : (m n : ℕ) → n ≤ m → nat_lt m n ≡ false
heavy m n le = grind (arith, tests)

-- such a refusal is the answer, where the edit weighs no more
refusal-light : (refusal : Option EditRefusal) (max_weight : ℕ) (known after : Known) → weight_of after ≤ max_weight → option_or refusal (overweight max_weight known after) ≡ refusal
refusal-light (Some why) max_weight known after light = refl
refusal-light None max_weight known after light = ap (λ b. refused_if b (Full (weight_of known))) (heavy max_weight (weight_of after) light)

-- a file is known with a number, or not at all
numbered_or : (P : Option ℕ → Type 0) → P None → ((id : ℕ) → P (Some id)) → (place : Option ℕ) → P place
numbered_or P none some None = none
numbered_or P none some (Some id) = some id

-- a text in the place of another
writing-weight : (known : Known) (file : FileId) (id : ℕ) (text : Text) → id_of known file ≡ Some id → weight_of (set_value (same_file file) known text) + weight_of_text (text_of known file) ≡ weight_of known + weight_of_text text
writing-weight known file id text is =
    rw (written_at known file id text is, text_of-is known file id is) (weight_of-with_text_at known id text (id_of-lt-length known file id is))

pub written-weight : (known : Known) (file : FileId) (text : Text) → weight_of (set_value (same_file file) known text) + weight_of_text (text_of known file) ≤ weight_of known + weight_of_text text
written-weight known file text = place (id_of known file) refl
  where
    place : (found : Option ℕ) → found ≡ id_of known file → weight_of (set_value (same_file file) known text) + weight_of_text (text_of known file) ≤ weight_of known + weight_of_text text
    place None is =
        let same : set_value (same_file file) known text ≡ known = written-is known file text ∙ ap (λ n. option_map_or (λ id. with_text_at known id text) n known) (sym is) in
        let none : text_of known file ≡ None = ap (option_and_then (lines_at known)) (sym is) in
        rw (same, none) (omega arith)
    place (Some id) is = omega (arith, writing-weight known file id text (sym is))

pub text_of-le : (known : Known) (file : FileId) → weight_of_text (text_of known file) ≤ weight_of known
text_of-le known file = numbered_or (λ place. weight_of_text (option_and_then (lines_at known) place) ≤ weight_of known) (omega arith) (λ id. lines_at-le-weight_of known id) (id_of known file)

remove-light : (lines : List (List ℕ)) (place : ℕ) → weight_of_lines (remove lines place) ≤ weight_of_lines lines
remove-light lines place =
    elim (cases_lt place (length lines)) [
      | inl within ↦ omega (arith, sum_by-remove (λ l. length l + 32) lines place [] within)
      | inr over ↦ omega (arith, sum_by-append (λ l. length l + 32) (take place lines) (drop (suc place) lines), ap weight_of_lines (take_all place lines over), ap weight_of_lines (drop_all (suc place) lines (omega arith)))
    ]

removed-light : (text : Text) (place : ℕ) → weight_of_text (option_map (λ lines. remove lines place) text) ≤ weight_of_text text
removed-light None place = omega arith
removed-light (Some lines) place = remove-light lines place

delete-light : (known : Known) (file : FileId) (line : ℕ) → weight_of (edited known (Delete file line)) ≤ weight_of known
delete-light known file line = omega (arith, written-weight known file (option_map (λ lines. remove lines (line - 1)) (text_of known file)), removed-light (text_of known file) (line - 1))

new-light : (known : Known) (file : FileId) → weight_of (edited known (New file)) ≤ weight_of known
new-light known file = omega (arith, written-weight known file (Some []))

drop-light : (known : Known) (file : FileId) → weight_of (edited known (Drop file)) ≤ weight_of known
drop-light known file = omega (arith, written-weight known file None)

move-light : (known : Known) (from to : FileId) → weight_of (edited known (Move from to)) ≤ weight_of known
move-light known from to = omega (arith, written-weight known from None, written-weight (set_value (same_file from) known None) to (text_of known from))

module _ (max_weight : ℕ) (known : Known) (within : weight_of known ≤ max_weight) where
  pub new-refusal : (file : FileId) → refusal_of max_weight known (New file) ≡ refused_if (is_some (text_of known file)) FileThere
  new-refusal file = refusal-light _ max_weight known (edited known (New file)) (omega (arith, new-light known file, within))

  pub drop-refusal : (file : FileId) → refusal_of max_weight known (Drop file) ≡ refused_if (is_none (text_of known file)) NoFile
  drop-refusal file = refusal-light _ max_weight known (edited known (Drop file)) (omega (arith, drop-light known file, within))

  pub move-refusal : (from to : FileId) → refusal_of max_weight known (Move from to) ≡ option_or (refused_if (is_none (text_of known from)) NoFile) (refused_if (is_some (text_of known to)) FileThere)
  move-refusal from to = refusal-light _ max_weight known (edited known (Move from to)) (omega (arith, move-light known from to, within))

  pub delete-refusal : (file : FileId) (line : ℕ) → refusal_of max_weight known (Delete file line) ≡ misses 0 line (text_of known file)
  delete-refusal file line = refusal-light _ max_weight known (edited known (Delete file line)) (omega (arith, delete-light known file line, within))

-- ---- refusals by the weight

-- a line weighs no more than all
pub line_light : (known : Known) (file : FileId) (lines : List (List ℕ)) (place : ℕ) → Some lines ≡ text_of known file → place < length lines → length (get_or lines place []) + 32 ≤ weight_of known
line_light known file lines place is within = omega (arith, text_of-le known file, ap weight_of_text is, get_or-le-sum_by (λ l. length l + 32) lines place [] within)

-- a present file is known
present : (known : Known) (file : FileId) (lines : List (List ℕ)) → Some lines ≡ text_of known file → (id : ℕ) × (id_of known file ≡ Some id)
present known file lines is = place (id_of known file) refl is
  where
    place : (found : Option ℕ) → found ≡ id_of known file → Some lines ≡ option_and_then (lines_at known) found → (id : ℕ) × (id_of known file ≡ Some id)
    place None at had = absurd (cc)
    place (Some id) at had = (id, sym at)

-- the lines of a file change
changed-weight : (known : Known) (file : FileId) (old : List (List ℕ)) (change : List (List ℕ) → List (List ℕ)) → Some old ≡ text_of known file → weight_of (set_value (same_file file) known (option_map change (text_of known file))) + weight_of_lines old ≡ weight_of known + weight_of_lines (change old)
changed-weight known file old change is =
    let id = present known file old is in
    let turns : option_map change (text_of known file) ≡ Some (change old) = ap (option_map change) (sym is) in
    let whole = writing-weight known file id.0 (option_map change (text_of known file)) id.1 in
    omega (arith, whole, ap weight_of_text is, ap weight_of_text turns)

pub set-weight : (known : Known) (file : FileId) (lines : List (List ℕ)) (line : ℕ) (put : List ℕ) → Some lines ≡ text_of known file → line - 1 < length lines → weight_of (edited known (Set file line put)) + (length (get_or lines (line - 1) []) + 32) ≡ weight_of known + (length put + 32)
set-weight known file lines line put is within =
    omega (arith, changed-weight known file lines (λ ls. slice_set ls (line - 1) put) is, sum_by-set (λ l. length l + 32) lines (line - 1) put [] within)

pub insert-weight : (known : Known) (file : FileId) (lines : List (List ℕ)) (line : ℕ) (put : List ℕ) → Some lines ≡ text_of known file → weight_of (edited known (Insert file line put)) + 0 ≡ weight_of known + (length put + 32)
insert-weight known file lines line put is =
    omega (arith, changed-weight known file lines (λ ls. insert ls (line - 1) put) is, sum_by-insert (λ l. length l + 32) lines (line - 1) put)

-- an absent file gets lines
pub restored-weight : (known : Known) (file : FileId) (lines : List (List ℕ)) → IsSome (id_of known file) → text_of known file ≡ None → weight_of (edited known (Restore file lines)) ≡ weight_of known + weight_of_lines lines
restored-weight known file lines is absent = place (id_of known file) refl is
  where
    place : (found : Option ℕ) → id_of known file ≡ found → IsSome found → weight_of (edited known (Restore file lines)) ≡ weight_of known + weight_of_lines lines
    place None at some = absurd (cc)
    place (Some id) at some = omega (arith, writing-weight known file id (Some lines) at, ap weight_of_text absent)

-- a text is there where something stands for it
pub some_text : {X : Type 0} (lines : X → List (List ℕ)) (found : Option X) (text : Text) → option_map lines found ≡ text → is_some text ≡ is_some found
some_text {X = X} lines found text is = ap is_some (sym is) ∙ same found
  where
    same : (found : Option X) → is_some (option_map lines found) ≡ is_some found
    same None = refl
    same (Some x) = refl

module _ (max_weight : ℕ) (known : Known) (file : FileId) (lines : List (List ℕ)) (good : list_all is_block_text lines ≡ true) where
  pub restore-there : is_some (text_of known file) ≡ true → Some FileThere ≡ refusal_of max_weight known (Restore file lines)
  restore-there there = rw (good, there) refl

  pub restore-weighs : IsSome (id_of known file) → is_some (text_of known file) ≡ false → refused_if (nat_lt max_weight (weight_of known + weight_of_lines lines)) (Full (weight_of known)) ≡ refusal_of max_weight known (Restore file lines)
  restore-weighs is absent =
      let weight = restored-weight known file lines is (none (text_of known file) absent) in
      rw (good, absent, weight) refl
    where
      none : (text : Text) → is_some text ≡ false → text ≡ None
      none None lacks = refl
      none (Some these) lacks = absurd (cc)

-- where nothing else refuses it, an edit of a line is refused by its weight
pub weighed : (bad : Bool) (further line : ℕ) (text : Text) (lines : List (List ℕ)) (rest result : Option EditRefusal) → bad ≡ false → Some lines ≡ text → misses further line (Some lines) ≡ None → result ≡ rest → result ≡ option_or (option_or (refused_if bad BadLine) (misses further line text)) rest
weighed bad further line text lines rest result good is stands same =
    same ∙ sym (ap (λ b. option_or (option_or (refused_if b BadLine) (misses further line text)) rest) good ∙ ap (λ t. option_or (misses further line t) rest) (sym is) ∙ ap (λ r. option_or r rest) stands)
