-- The first place in a list at which a test passes, by recursion on the list; and look-ups by it.
use Rattle.std.proofs.Common.{◌≡◌, ◌+◌, ◌<◌, ◌++◌, ℕ, zero, suc, Bool, true, false, cond, List, [], ◌∷◌, length, Option, Some, None, ap, refl, sym, option_and_then, option_map, ◌∙◌, position, slice_get, get_or, nat_lt, unwrap_or, add-one, arith, tests}
use Rattle.std.specs.List.{IsDistinct}
use Rattle.std.specs.Map.{lookup}
use Rattle.std.specs.Option.{is_some, option_map_or, option_or}
use Rattle.std.proofs.lemmas.List.{length-map}
use Rattle.std.proofs.lemmas.List.Elements.{All-from_recursion, All-get_or}
use Rattle.std.proofs.lemmas.List.Quantifiers.{position-Some}
use Rattle.std.proofs.lemmas.Map.Keys.{IsDistinct-head, IsDistinct-tail}
use Rattle.std.proofs.lemmas.Option.{get_or_from_slice_get, slice_get-get_or, slice_get-map, slice_get_within}
use Rattle.ld_line.specs.Moved.{moved_line}
use Rattle.ld_line.specs.Part.{is_part_text}
use Rattle.ld_names.specs.declared.file.FileId.{FileId}
use Rattle.ld_names.specs.Finding.{IsFileEquality}
use Rattle.ld_names.specs.Standing.{Known, Text, known_map, same_file}
use Rattle.ld_texts.specs.Known.{AreDistinct, file_at, files_of, id_of, is_part_at, is_part_file, lines_at, moved_at, moved_line_in, numbered}
use Rattle.ld_texts.specs.Laws.{LinesAgree, NumbersAgree}

pub position-cons : {X : Type 0} (test : X → Bool) (x : X) (xs : List X) → position test (x ∷ xs) ≡ cond (test x) (Some 0) (option_map suc (position test xs))
position-cons test x xs = grind (arith, tests)

module _ {X : Type 0} (test : X → Bool) where
  push-step : (now : Option ℕ) (place : ℕ) (passes : Bool) → option_map suc (option_or now (cond passes (Some place) None)) ≡ option_or (option_map suc now) (cond passes (Some (suc place)) None)
  push-step (Some id) place passes = refl
  push-step None place true = refl
  push-step None place false = refl

  pub position-push : (xs : List X) (x : X) → position test (xs ++ x ∷ []) ≡ option_or (position test xs) (cond (test x) (Some (length xs)) None)
  position-push [] x = position-cons test x []
  position-push (first ∷ xs) x =
      let cases : (b : Bool) → cond b (Some 0) (option_map suc (option_or (position test xs) (cond (test x) (Some (length xs)) None))) ≡ option_or (cond b (Some 0) (option_map suc (position test xs))) (cond (test x) (Some (suc (length xs))) None) = λ b. elim b as (λ b. cond b (Some 0) (option_map suc (option_or (position test xs) (cond (test x) (Some (length xs)) None))) ≡ option_or (cond b (Some 0) (option_map suc (position test xs))) (cond (test x) (Some (suc (length xs))) None)) [ true ↦ refl | false ↦ push-step (position test xs) (length xs) (test x) ] in
      position-cons test first (xs ++ x ∷ [])
      ∙ ap (λ (now : Option ℕ). cond (test first) (Some 0) (option_map suc now)) (position-push xs x)
      ∙ cases (test first)
      ∙ ap (λ (now : Option ℕ). option_or now (cond (test x) (Some (suc (length xs))) None)) (sym (position-cons test first xs))

-- what is known by a test of files is what stands at the first place where it passes
pub the_some : {X : Type 0} (x y : X) → Some x ≡ Some y → x ≡ y
the_some x y same = ap (λ o. unwrap_or o x) same

looked-step : (first : FileId × Text) (known : Known) (now : Option ℕ) → option_map (lines_at known) now ≡ option_map (lines_at (first ∷ known)) (option_map suc now)
unfolding lines_at
looked-step first known None = refl
looked-step first known (Some id) = refl

looked : (test : FileId → Bool) (known : Known) → lookup test known ≡ option_map (lines_at known) (position test (files_of known))
unfolding lines_at
looked test [] = refl
looked test (first ∷ known) =
    let cases : (b : Bool) → cond b (Some first.1) (lookup test known) ≡ option_map (lines_at (first ∷ known)) (cond b (Some 0) (option_map suc (position test (files_of known)))) = λ b. elim b as (λ b. cond b (Some first.1) (lookup test known) ≡ option_map (lines_at (first ∷ known)) (cond b (Some 0) (option_map suc (position test (files_of known))))) [ true ↦ refl | false ↦ looked test known ∙ looked-step first known (position test (files_of known)) ] in
    cases (test first.0) ∙ ap (option_map (lines_at (first ∷ known))) (sym (position-cons test first.0 (files_of known)))

map-is : (known : Known) (file : FileId) → known_map known file ≡ option_map (lines_at known) (id_of known file)
unfolding known_map id_of
map-is known file = looked (same_file file) known

pub file_at-is : (known : Known) (id : ℕ) → file_at known id ≡ slice_get (files_of known) id
unfolding file_at
file_at-is known id = sym (slice_get-map (λ entry. entry.0) known id)

there-is : {X : Type 0} (xs : List X) (id : ℕ) → is_some (slice_get xs id) ≡ nat_lt id (length xs)
there-is [] id = grind (arith, tests)
there-is (x ∷ xs) zero = grind (arith, tests)
there-is (x ∷ xs) (suc id) = there-is xs id ∙ grind (arith, tests)

file_at-there : (known : Known) (id : ℕ) → is_some (file_at known id) ≡ nat_lt id (length known)
unfolding file_at
file_at-there known id = ap is_some (file_at-is known id) ∙ there-is (files_of known) id ∙ ap (nat_lt id) (length-map known (λ entry. entry.0))

present-is : (known : Known) (id : ℕ) (lines : List (List ℕ)) → lines_at known id ≡ Some lines → id < length known
unfolding lines_at
present-is [] id lines is = cc
present-is (first ∷ known) zero lines is = omega arith
present-is (first ∷ known) (suc id) lines is = omega (arith, present-is known id lines is)

part-step : (entry : Option (FileId × Text)) (file : FileId) (lines : List (List ℕ)) → option_map (λ entry. entry.0) entry ≡ Some file → option_and_then (λ entry. entry.1) entry ≡ Some lines → option_map_or is_part_file entry false ≡ is_part_text file.folder lines
part-step None file lines there is = cc
part-step (Some (its, None)) file lines there is = cc
part-step (Some (its, Some these)) file lines there is =
    ap (λ (f : FileId). is_part_text f.folder these) (the_some its file there) ∙ ap (is_part_text file.folder) (the_some these lines is)

part-is : (known : Known) (id : ℕ) (file : FileId) (lines : List (List ℕ)) → file_at known id ≡ Some file → lines_at known id ≡ Some lines → is_part_at known id ≡ is_part_text file.folder lines
unfolding file_at lines_at is_part_at
part-is known id file lines there is = part-step (slice_get known id) file lines there is

no_part-step : (entry : Option (FileId × Text)) → option_and_then (λ entry. entry.1) entry ≡ None → option_map_or is_part_file entry false ≡ false
no_part-step None is = refl
no_part-step (Some (its, None)) is = refl
no_part-step (Some (its, Some these)) is = cc

no_part-is : (known : Known) (id : ℕ) → lines_at known id ≡ None → is_part_at known id ≡ false
unfolding lines_at is_part_at
no_part-is known id is = no_part-step (slice_get known id) is

moved-step : (entry : Option (FileId × Text)) (file : FileId) (lines : List (List ℕ)) → option_map (λ entry. entry.0) entry ≡ Some file → option_and_then (λ entry. entry.1) entry ≡ Some lines → option_and_then moved_line_in entry ≡ moved_line file.folder lines
moved-step None file lines there is = cc
moved-step (Some (its, None)) file lines there is = cc
moved-step (Some (its, Some these)) file lines there is =
    ap (λ (f : FileId). moved_line f.folder these) (the_some its file there) ∙ ap (moved_line file.folder) (the_some these lines is)

pub moved-is : (known : Known) (id : ℕ) (file : FileId) (lines : List (List ℕ)) → file_at known id ≡ Some file → lines_at known id ≡ Some lines → moved_at known id ≡ moved_line file.folder lines
unfolding file_at lines_at moved_at
moved-is known id file lines there is = moved-step (slice_get known id) file lines there is

not_moved-step : (entry : Option (FileId × Text)) → option_and_then (λ entry. entry.1) entry ≡ None → option_and_then moved_line_in entry ≡ None
not_moved-step None is = refl
not_moved-step (Some (its, None)) is = refl
not_moved-step (Some (its, Some these)) is = cc

pub not_moved-is : (known : Known) (id : ℕ) → lines_at known id ≡ None → moved_at known id ≡ None
unfolding lines_at moved_at
not_moved-is known id is = not_moved-step (slice_get known id) is

no_file-step : (entry : Option (FileId × Text)) → option_map (λ entry. entry.0) entry ≡ None → option_and_then moved_line_in entry ≡ None
no_file-step None is = refl
no_file-step (Some entry) is = cc

pub no_file-is : (known : Known) (id : ℕ) → file_at known id ≡ None → moved_at known id ≡ None
unfolding file_at moved_at
no_file-is known id is = no_file-step (slice_get known id) is

module _ (equality : IsFileEquality) where
  file-is : (known : Known) (file : FileId) (id : ℕ) → id_of known file ≡ Some id → file_at known id ≡ Some file
  unfolding id_of
  file-is known file id is =
      let found = position-Some (same_file file) (files_of known) id file is in
      file_at-is known id ∙ slice_get-get_or (files_of known) id file found.0 ∙ ap Some (sym ((equality.same file (get_or (files_of known) id file)).0 found.1))

  distinct-place : (files : List FileId) (file : FileId) (id : ℕ) → IsDistinct same_file files → slice_get files id ≡ Some file → position (same_file file) files ≡ Some id
  distinct-place [] file id distinct there = cc
  distinct-place (first ∷ files) file zero distinct there =
      position-cons (same_file file) first files ∙ ap (λ b. cond b (Some 0) (option_map suc (position (same_file file) files))) ((equality.same file first).1 (sym (get_or_from_slice_get (first ∷ files) zero file first there)))
  distinct-place (first ∷ files) file (suc id) distinct there =
      let others = All-from_recursion (λ (other : FileId). same_file first other ≡ false) files (IsDistinct-head same_file first files distinct) in
      let other : same_file first file ≡ false =
      ap (same_file first) (sym (get_or_from_slice_get files id file first there)) ∙ All-get_or (λ (other : FileId). same_file first other ≡ false) files id first (slice_get_within files id file there) others in
      position-cons (same_file file) first files
      ∙ ap (λ b. cond b (Some 0) (option_map suc (position (same_file file) files))) (equality.equivalence.symm file first ∙ other)
      ∙ ap (option_map suc) (distinct-place files file id (IsDistinct-tail same_file first files distinct) there)

  number-is : (known : Known) (file : FileId) (id : ℕ) → AreDistinct known → file_at known id ≡ Some file → id_of known file ≡ Some id
  unfolding id_of
  number-is known file id distinct there = distinct-place (files_of known) file id distinct (sym (file_at-is known id) ∙ there)

  pub numbers_agree : NumbersAgree
  numbers_agree = record { map = map-is; file = file-is; number = number-is; there = file_at-there; present = present-is; part = part-is; no_part = no_part-is; moved = moved-is; not_moved = not_moved-is }

numbered-next : (lines : List (List ℕ)) (k : ℕ) → numbered lines (k + 1) ≡ slice_get lines k
numbered-next lines k = ap (numbered lines) (add-one k)

none-step : (lines : Option (List (List ℕ))) → option_and_then (λ lines. numbered lines 0) lines ≡ None
none-step None = refl
none-step (Some lines) = refl

item-step : (lines : Option (List (List ℕ))) (k : ℕ) → option_and_then (λ lines. numbered lines (k + 1)) lines ≡ option_and_then (λ lines. slice_get lines k) lines
item-step None k = refl
item-step (Some lines) k = numbered-next lines k

pub lines_agree : LinesAgree
lines_agree = record {
  none = λ known id. none-step (lines_at known id);
  item = λ known id k. item-step (lines_at known id) k;
  line = λ known id lines k other is within. item-step (lines_at known id) k ∙ ap (option_and_then (λ lines. slice_get lines k)) is ∙ slice_get-get_or lines k other within;
}
