-- An edit leaves texts of lines that a block may hold.
use Rattle.std.proofs.Common.{◌≡◌, ◌-◌, ℕ, zero, suc, Bool, true, false, List, [], ◌∷◌, Option, Some, None, refl, option_map, option_and_then, slice_set, inl, inr}
use Rattle.std.specs.Prelude.{not}
use Rattle.std.specs.List.{insert, list_all, remove}
use Rattle.std.specs.Map.{set_value}
use Rattle.std.specs.Option.{is_some, option_or}
use Rattle.std.proofs.lemmas.Bool.{and_from, and_parts, cases_Bool}
use Rattle.ld_names.specs.declared.file.FileId.{FileId}
use Rattle.ld_names.specs.Standing.{Known, Text, same_file}
use Rattle.ld_texts.specs.Editing.{edited, is_block_text, misfit, misses, overweight, refused_if, text_of}
use Rattle.ld_texts.specs.EditLaws.{KeepsBlockLines, are_of_block_lines, is_of_block_lines}
use Rattle.ld_texts.specs.Known.{id_of, lines_at}
use Rattle.ld_texts.specs.declared.edit.Edit.{Edit}
use Rattle.ld_texts.specs.declared.edit.Edit.TheVariants.{Set, Insert, Delete, New, Restore, Drop, Move}
use Rattle.ld_texts.specs.declared.edit.EditRefusal.TheVariants.{BadLine, FileThere}
use Rattle.ld_texts.proofs.Refused.{option_or_none, refused_if-none}

-- ---- lists of which each item passes

module _ {X : Type 0} (passes : X → Bool) where
  all-set : (xs : List X) (place : ℕ) (x : X) → list_all passes xs ≡ true → passes x ≡ true → list_all passes (slice_set xs place x) ≡ true
  all-set [] place x all one = refl
  all-set (first ∷ xs) zero x all one = and_from (passes x) (list_all passes xs) one (and_parts (passes first) (list_all passes xs) all).1
  all-set (first ∷ xs) (suc place) x all one =
      let both = and_parts (passes first) (list_all passes xs) all in
      and_from (passes first) (list_all passes (slice_set xs place x)) both.0 (all-set xs place x both.1 one)

  all-insert : (xs : List X) (place : ℕ) (x : X) → list_all passes xs ≡ true → passes x ≡ true → list_all passes (insert xs place x) ≡ true
  all-insert xs zero x all one = and_from (passes x) (list_all passes xs) one all
  all-insert [] (suc place) x all one = and_from (passes x) true one refl
  all-insert (first ∷ xs) (suc place) x all one =
      let both = and_parts (passes first) (list_all passes xs) all in
      and_from (passes first) (list_all passes (insert xs place x)) both.0 (all-insert xs place x both.1 one)

  all-remove : (xs : List X) (place : ℕ) → list_all passes xs ≡ true → list_all passes (remove xs place) ≡ true
  all-remove [] zero all = refl
  all-remove [] (suc place) all = refl
  all-remove (first ∷ xs) zero all = (and_parts (passes first) (list_all passes xs) all).1
  all-remove (first ∷ xs) (suc place) all =
      let both = and_parts (passes first) (list_all passes xs) all in
      and_from (passes first) (list_all passes (remove xs place)) both.0 (all-remove xs place both.1)

-- ---- texts

written : (known : Known) (file : FileId) (text : Text) → are_of_block_lines known ≡ true → is_of_block_lines text ≡ true → are_of_block_lines (set_value (same_file file) known text) ≡ true
written [] file text all one = refl
written (first ∷ known) file text all one =
    let both = and_parts (is_of_block_lines first.1) (are_of_block_lines known) all in
    elim (cases_Bool (same_file file first.0)) [
      | inl same ↦ rw same (and_from (is_of_block_lines text) (are_of_block_lines known) one both.1)
      | inr differ ↦ rw differ (and_from (is_of_block_lines first.1) (are_of_block_lines (set_value (same_file file) known text)) both.0 (written known file text both.1 one))
    ]

at-place : (known : Known) (id : ℕ) → are_of_block_lines known ≡ true → is_of_block_lines (lines_at known id) ≡ true
unfolding lines_at
at-place [] id all = refl
at-place (first ∷ known) zero all = (and_parts (is_of_block_lines first.1) (are_of_block_lines known) all).0
at-place (first ∷ known) (suc id) all = at-place known id (and_parts (is_of_block_lines first.1) (are_of_block_lines known) all).1

by-number : (known : Known) (id : Option ℕ) → are_of_block_lines known ≡ true → is_of_block_lines (option_and_then (lines_at known) id) ≡ true
by-number known None all = refl
by-number known (Some id) all = at-place known id all

changed : (text : Text) (change : List (List ℕ) → List (List ℕ)) → ((lines : List (List ℕ)) → list_all is_block_text lines ≡ true → list_all is_block_text (change lines) ≡ true) → is_of_block_lines text ≡ true → is_of_block_lines (option_map change text) ≡ true
changed None change keeps all = refl
changed (Some lines) change keeps all = keeps lines all

is-not : (b : Bool) → not b ≡ false → b ≡ true
is-not true is = refl
is-not false is = absurd (cc)

-- a line that is not refused
is-good : (text : List ℕ) (further line : ℕ) (lines : Text) → option_or (refused_if (not (is_block_text text)) BadLine) (misses further line lines) ≡ None → is_block_text text ≡ true
is-good text further line lines is =
    is-not (is_block_text text) (refused_if-none (not (is_block_text text)) BadLine (option_or_none (refused_if (not (is_block_text text)) BadLine) (misses further line lines) is).0)

keeps : (known : Known) (edit : Edit) → misfit (text_of known) edit ≡ None → are_of_block_lines known ≡ true → are_of_block_lines (edited known edit) ≡ true
keeps known (Set file line text) fits all =
    written known file (option_map (λ lines. slice_set lines (line - 1) text) (text_of known file)) all
    (changed (text_of known file) (λ lines. slice_set lines (line - 1) text) (λ lines good. all-set is_block_text lines (line - 1) text good (is-good text 0 line (text_of known file) fits)) (by-number known (id_of known file) all))
keeps known (Insert file line text) fits all =
    written known file (option_map (λ lines. insert lines (line - 1) text) (text_of known file)) all
    (changed (text_of known file) (λ lines. insert lines (line - 1) text) (λ lines good. all-insert is_block_text lines (line - 1) text good (is-good text 1 line (text_of known file) fits)) (by-number known (id_of known file) all))
keeps known (Delete file line) fits all =
    written known file (option_map (λ lines. remove lines (line - 1)) (text_of known file)) all
    (changed (text_of known file) (λ lines. remove lines (line - 1)) (λ lines good. all-remove is_block_text lines (line - 1) good) (by-number known (id_of known file) all))
keeps known (New file) fits all = written known file (Some []) all refl
keeps known (Restore file lines) fits all =
    written known file (Some lines) all
    (is-not (list_all is_block_text lines) (refused_if-none (not (list_all is_block_text lines)) BadLine (option_or_none (refused_if (not (list_all is_block_text lines)) BadLine) (refused_if (is_some (text_of known file)) FileThere) fits).0))
keeps known (Drop file) fits all = written known file None all refl
keeps known (Move from to) fits all =
    written (set_value (same_file from) known None) to (text_of known from) (written known from None all refl) (by-number known (id_of known from) all)

pub keeps_block_lines : KeepsBlockLines
keeps_block_lines max_weight known edit fits all =
    keeps known edit (option_or_none (misfit (text_of known) edit) (overweight max_weight known (edited known edit)) fits).0 all
