-- What learning a file changes of the known files.
use Rattle.std.proofs.Common.{◌≡◌, ◌≤◌, ◌<◌, ◌++◌, ◌||◌, ℕ, zero, suc, Bool, false, cond, List, [], ◌∷◌, length, Option, Some, None, ap, refl, subst, sym, option_map, option_and_then, ◌∙◌, position, slice_get, inl, inr, arith, tests}
use Rattle.std.specs.List.{list_any}
use Rattle.std.specs.Option.{option_map_or, option_or}
use Rattle.std.proofs.lemmas.Bool.{cases_Bool}
use Rattle.std.proofs.lemmas.List.Sums.{sum_by_push}
use Rattle.std.proofs.lemmas.List.{length-map, length_push, map-append}
use Rattle.std.proofs.lemmas.Map.Keys.{IsDistinct-push}
use Rattle.ld_names.specs.declared.file.FileId.{FileId}
use Rattle.ld_names.specs.Finding.{IsFileEquality}
use Rattle.ld_names.specs.Standing.{Known, Text, same_file}
use Rattle.ld_texts.specs.Editing.{AreKnown, files_in, lines_needed, refusal_of, text_of}
use Rattle.ld_texts.specs.Known.{AreDistinct, file_at, files_of, id_of, is_part_at, is_part_file, lines_at, moved_at, moved_line_in, weight_of_text}
use Rattle.ld_texts.specs.Laws.{Learns, ReadyStays}
use Rattle.ld_texts.specs.Learning.{Apply, IsLearnt, Learn, change_of}
use Rattle.ld_texts.specs.declared.change.Turned.TheVariants.{Learnt}
use Rattle.ld_texts.proofs.Places.{position-push}

get-old : {X : Type 0} (xs : List X) (x : X) (id : ℕ) → id < length xs → slice_get (xs ++ x ∷ []) id ≡ slice_get xs id
get-old [] x id within = absurd (omega arith)
get-old (first ∷ xs) x zero within = refl
get-old (first ∷ xs) x (suc id) within = get-old xs x id (omega arith)

get-new : {X : Type 0} (xs : List X) (x : X) → slice_get (xs ++ x ∷ []) (length xs) ≡ Some x
get-new [] x = refl
get-new (first ∷ xs) x = get-new xs x

any-none : (test : FileId → Bool) (files : List FileId) → position test files ≡ None → list_any test files ≡ false
any-none test [] none = refl
any-none test (file ∷ files) none =
    elim (cases_Bool (test file)) [
      | inl passes ↦ grind (arith, tests, passes)
      | inr fails ↦ let rest = any-none test files (grind (arith, tests, fails)) in ap (λ b. b || list_any test files) fails ∙ rest
    ]

module _ (equality : IsFileEquality) (known : Known) (file : FileId) (text : Text) where
  files-is : files_of (known ++ (file, text) ∷ []) ≡ files_of known ++ file ∷ []
  files-is = map-append (λ entry. entry.0) known ((file, text) ∷ [])

  pub id-is : (other : FileId) → id_of (known ++ (file, text) ∷ []) other ≡ option_or (id_of known other) (cond (same_file other file) (Some (length known)) None)
  unfolding id_of
  id-is other =
      ap (position (same_file other)) files-is ∙ position-push (same_file other) (files_of known) file
      ∙ ap (λ count. option_or (position (same_file other) (files_of known)) (cond (same_file other file) (Some count) None)) (length-map known (λ entry. entry.0))

  pub distinct-is : AreDistinct known → id_of known file ≡ None → AreDistinct (known ++ (file, text) ∷ [])
  unfolding id_of
  distinct-is distinct none = rw files-is (IsDistinct-push equality.equivalence (files_of known) file distinct (any-none (same_file file) (files_of known) none))

  old_id-is : (other : FileId) (id : ℕ) → id_of known other ≡ Some id → id_of (known ++ (file, text) ∷ []) other ≡ Some id
  old_id-is other id is = id-is other ∙ ap (λ (now : Option ℕ). option_or now (cond (same_file other file) (Some (length known)) None)) is

  pub new_id-is : id_of known file ≡ None → id_of (known ++ (file, text) ∷ []) file ≡ Some (length known)
  new_id-is none =
      id-is file ∙ ap (λ (now : Option ℕ). option_or now (cond (same_file file file) (Some (length known)) None)) none
      ∙ ap (λ b. cond b (Some (length known)) None) (equality.equivalence.refl file)

  change-is : id_of known file ≡ None → change_of (known ++ (file, text) ∷ []) (Learn file text) ≡ Some (record { first = (record { 0 = length known }, Learnt); second = None })
  change-is none = ap (option_map (λ id. record { first = (record { 0 = id }, Learnt); second = None })) (new_id-is none)

  old_file-is : (id : ℕ) → id < length known → file_at (known ++ (file, text) ∷ []) id ≡ file_at known id
  unfolding file_at
  old_file-is id within = ap (option_map (λ entry. entry.0)) (get-old known (file, text) id within)

  new_file-is : file_at (known ++ (file, text) ∷ []) (length known) ≡ Some file
  unfolding file_at
  new_file-is = ap (option_map (λ entry. entry.0)) (get-new known (file, text))

  old_lines-is : (id : ℕ) → id < length known → lines_at (known ++ (file, text) ∷ []) id ≡ lines_at known id
  unfolding lines_at
  old_lines-is id within = ap (option_and_then (λ entry. entry.1)) (get-old known (file, text) id within)

  new_lines-is : lines_at (known ++ (file, text) ∷ []) (length known) ≡ text
  unfolding lines_at
  new_lines-is = ap (option_and_then (λ entry. entry.1)) (get-new known (file, text))

  old_moved-is : (id : ℕ) → id < length known → moved_at (known ++ (file, text) ∷ []) id ≡ moved_at known id
  unfolding moved_at
  old_moved-is id within = ap (λ (entry : Option (FileId × Text)). option_and_then moved_line_in entry) (get-old known (file, text) id within)

  old_part-is : (id : ℕ) → id < length known → is_part_at (known ++ (file, text) ∷ []) id ≡ is_part_at known id
  unfolding is_part_at
  old_part-is id within = ap (λ (entry : Option (FileId × Text)). option_map_or is_part_file entry false) (get-old known (file, text) id within)

  pub is_learnt : id_of known file ≡ None → IsLearnt known (known ++ (file, text) ∷ []) file text (length known)
  is_learnt none = record { next = refl; number = new_id-is none; file_there = new_file-is; text_there = new_lines-is }

  pub learns : Learns known file text (known ++ (file, text) ∷ [])
  learns = record {
    files = files-is;
    count = length_push known (file, text);
    weight = sum_by_push (λ entry. weight_of_text entry.1) known (file, text);
    distinct = distinct-is;
    id = id-is;
    old_id = old_id-is;
    new_id = new_id-is;
    change = change-is;
    old_file = old_file-is;
    new_file = new_file-is;
    old_lines = old_lines-is;
    new_lines = new_lines-is;
    old_part = old_part-is;
    old_moved = old_moved-is;
  }

pub ready_stays : ReadyStays
ready_stays old new (Learn file text) keeps can = record {
  room = (omega (arith, can.room.0, keeps.room), keeps.places file.name can.room.1);
  apt = rw keeps.known can.apt;
  fits = rw (keeps.max_files, keeps.max_weight, keeps.known) can.fits;
}
ready_stays old new (Apply edit room) keeps can = record {
  room = subst (λ known. lines_needed (text_of known) edit ≤ room) (sym keeps.known) can.room;
  apt = subst (λ known. AreKnown known (files_in edit)) (sym keeps.known) can.apt;
  fits = ap (λ known. refusal_of new.max_weight known edit) keeps.known ∙ ap (λ max_weight. refusal_of max_weight old.known edit) keeps.max_weight ∙ can.fits;
}
