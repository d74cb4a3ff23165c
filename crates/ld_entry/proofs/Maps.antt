-- Texts of two maps that say the same of the files inside a set that no reference leaves.
use Rattle.std.proofs.Common.{◌≡◌, ℕ, zero, suc, Bool, true, false, cond, List, [], ◌∷◌, ◌++◌, map, Option, Some, None, refl, ap, sym, ◌∙◌, subst}
use Rattle.std.specs.Prelude.{option_and_then, slice_get, unwrap_or, ⊤}
use Rattle.std.specs.List.{list_any}
use Rattle.ld_names.specs.Finding.{IsFileEquality}
use Rattle.ld_names.specs.Standing.{Absent, find, Found, Map, Present, same_file, Text, Unknown}
use Rattle.ld_names.specs.declared.file.FileId.{FileId}
use Rattle.ld_names.specs.declared.file.Folder.{Folder}
use Rattle.ld_names.specs.declared.file.TextId.{TextId}
use Rattle.ld_line.specs.Moved.{is_part, last_moved, moved_line, moved_name, moved_to, name_in, name_on, other_than, part_found, target, text_of}
use Rattle.ld_line.specs.Reading.{line_of}
use Rattle.ld_line.specs.declared.line.Line.{Line}
use Rattle.ld_line.specs.declared.line.Line.TheVariants.{Ref}
use Rattle.ld_entry.proofs.Found.{numbered}
use Rattle.ld_entry.specs.Agreement.{Agree, FindsSame, FindsSameFiles, FoundInside, MapsAgree}
use Rattle.ld_entry.specs.Laws.{MapsLaw}
use Rattle.ld_entry.specs.Learnt.{FindsInside}
use Rattle.ld_entry.specs.NumberedTexts.{file_is_part, found_from, is_part_in, lines_of_file, standing_lines, target_from, text_id_of, texts_over}

pub some-same : {A : Type 0} {a b : A} → Some a ≡ Some b → a ≡ b
some-same is = cc

module _ (equality : IsFileEquality) (inside : TextId → Bool) (texts other : Map) (files others : List FileId) (agree : MapsAgree inside texts other files others) where
  -- ---- What names find.

  -- a name in a file of this folder finds the same file, which is inside
  abbrev pub Finds : Folder → List ℕ → Type 0
  Finds folder name = (find other folder name ≡ find texts folder name) × FoundInside inside files (find texts folder name)

  -- a file inside, which has the same number and is the same, and whose references find the same files
  pub record IsInside (file : FileId) : Type 0 where
    pub number : text_id_of others (Present file) ≡ text_id_of files (Present file)
    pub lines : other file ≡ texts file
    pub finds : FindsSameFiles inside texts other files file.folder (lines_of_file texts (Some file))

  -- by a number inside
  inside-at : (text : TextId) (file : FileId) → inside text ≡ true → slice_get files text.0 ≡ Some file → IsInside file
  inside-at text file within at =
      let same = agree text within in
      let is : same.file ≡ file = some-same (sym same.at ∙ at) in
      subst IsInside is (record { number = same.number; lines = same.lines; finds = same.finds })

  found-inside : (file : FileId) → FoundInside inside files (Present file) → IsInside file
  found-inside file found = inside-at found.0 file found.2 (numbered equality files file found.0 found.1)

  number-same : (found : Found) → FoundInside inside files found → text_id_of others found ≡ text_id_of files found
  number-same (Present file) within = (found-inside file within).number
  number-same Absent within = refl
  number-same (Unknown folder) within = refl

  number-inside : (found : Found) → FoundInside inside files found → FindsInside inside (text_id_of files found)
  number-inside (Present file) within = subst (FindsInside inside) (sym within.1) within.2
  number-inside Absent within = tt
  number-inside (Unknown folder) within = tt

  finds-same : (text : TextId) (file : FileId) → slice_get files text.0 ≡ Some file → slice_get others text.0 ≡ Some file → (lines : List Line) → FindsSameFiles inside texts other files file.folder lines → FindsSame inside (texts_over texts files) (texts_over other others) text lines
  finds-same text file at at_other [] same = tt
  finds-same text file at at_other (Ref word placement (Some name) ∷ lines) same =
      let found = find texts file.folder name in
      let here : found_from texts files name (slice_get files text.0) ≡ text_id_of files found = ap (found_from texts files name) at in
      (ap (found_from other others name) at_other ∙ ap (text_id_of others) same.0 ∙ number-same found same.1 ∙ sym here, subst (FindsInside inside) (sym here) (number-inside found same.1), finds-same text file at at_other lines same.2)
  finds-same text file at at_other (line ∷ lines) same = finds-same text file at at_other lines same

  -- ---- Where moves end.

  name-in : (folder : Folder) (line : Line) (lines : List Line) (name : List ℕ) → FindsSameFiles inside texts other files folder (line ∷ lines) → name_in line ≡ Some name → Finds folder name
  name-in folder (Ref word placement (Some own)) lines name same is = let one : own ≡ name = some-same is in subst (Finds folder) one (same.0, same.1)
  name-in folder (Ref word placement None) lines name same is = cc
  name-in folder line lines name same is = cc

  others-find : (folder : Folder) (line : Line) (lines : List Line) → FindsSameFiles inside texts other files folder (line ∷ lines) → FindsSameFiles inside texts other files folder lines
  others-find folder (Ref word placement (Some own)) lines same = same.2
  others-find folder line lines same = same

  name-at : (folder : Folder) (lines : List (List ℕ)) (index : ℕ) (name : List ℕ) → FindsSameFiles inside texts other files folder (map line_of lines) → option_and_then (λ line. name_in (line_of line)) (slice_get lines index) ≡ Some name → Finds folder name
  name-at folder [] index name same is = cc
  name-at folder (line ∷ lines) zero name same is = name-in folder (line_of line) (map line_of lines) name same is
  name-at folder (line ∷ lines) (suc index) name same is = name-at folder lines index name (others-find folder (line_of line) (map line_of lines) same) is

  name-on : (folder : Folder) (lines : List (List ℕ)) (number : ℕ) (name : List ℕ) → FindsSameFiles inside texts other files folder (map line_of lines) → name_on lines number ≡ Some name → Finds folder name
  name-on folder lines zero name same is = cc
  name-on folder lines (suc index) name same is = name-at folder lines index name same is

  name-moved : (file : FileId) (name : List ℕ) → IsInside file → moved_name file.folder (text_of texts file) ≡ Some name → Finds file.folder name
  name-moved file name same is = by (texts file) same.finds is
    where
      by_line : (lines : List (List ℕ)) (number : Option ℕ) → FindsSameFiles inside texts other files file.folder (map line_of lines) → option_and_then (name_on lines) number ≡ Some name → Finds file.folder name
      by_line lines None finds is = cc
      by_line lines (Some number) finds is = name-on file.folder lines number name finds is

      by : (text : Option Text) → FindsSameFiles inside texts other files file.folder (map line_of (standing_lines text)) → moved_name file.folder (unwrap_or text None) ≡ Some name → Finds file.folder name
      by None finds is = cc
      by (Some None) finds is = cc
      by (Some (Some lines)) finds is = by_line lines (moved_line file.folder lines) finds is

  -- what is next, if anything, is inside
  abbrev pub NextInside : Option FileId → Type 0
  NextInside None = ⊤
  NextInside (Some file) = IsInside file

  part-same : (found : Found) → FoundInside inside files found → (part_found other found ≡ part_found texts found) × NextInside (part_found texts found)
  part-same (Present file) within =
      let here = found-inside file within in
      (ap (λ text. part_found_by file (unwrap_or text None)) here.lines, by (is_part file.folder (text_of texts file)) here)
    where
      part_found_by : FileId → Text → Option FileId
      part_found_by file text = cond (is_part file.folder text) (Some file) None

      by : (part : Bool) → IsInside file → NextInside (cond part (Some file) None)
      by true here = here
      by false here = tt
  part-same Absent within = (refl, tt)
  part-same (Unknown folder) within = (refl, tt)

  moves-same : (file : FileId) → IsInside file → (moved_to other file ≡ moved_to texts file) × NextInside (moved_to texts file)
  unfolding moved_to
  moves-same file here =
      let rest = by (moved_name file.folder (text_of texts file)) refl in
      (ap (λ text. option_and_then (λ name. part_found other (find other file.folder name)) (moved_name file.folder (unwrap_or text None))) here.lines ∙ rest.0, rest.1)
    where
      by : (name : Option (List ℕ)) → moved_name file.folder (text_of texts file) ≡ name → (option_and_then (λ name. part_found other (find other file.folder name)) name ≡ option_and_then (λ name. part_found texts (find texts file.folder name)) name) × NextInside (option_and_then (λ name. part_found texts (find texts file.folder name)) name)
      by None is = (refl, tt)
      by (Some name) is =
          let finds = name-moved file name here is in
          let part = part-same (find texts file.folder name) finds.1 in
          (ap (part_found other) finds.0 ∙ part.0, part.1)

  abbrev onward : ℕ → Map → List FileId → FileId → Option FileId → FileId
  onward more said passed last next = elim next [ None ↦ last | Some file ↦ last_moved more said (passed ++ file ∷ []) file ]

  -- the same file, which is inside
  abbrev IsLast : FileId → FileId → Type 0
  IsLast file last = (file ≡ last) × IsInside last

  new-same : (more : ℕ) (passed : List FileId) (last next : FileId) → IsInside last → IsLast (last_moved more other (passed ++ next ∷ []) next) (last_moved more texts (passed ++ next ∷ []) next) → (has : Bool) → IsLast (onward more other passed last (cond has None (Some next))) (onward more texts passed last (cond has None (Some next)))
  new-same more passed last next here further true = (refl, here)
  new-same more passed last next here further false = further

  last-same : (more : ℕ) (passed : List FileId) (last : FileId) → IsInside last → IsLast (last_moved more other passed last) (last_moved more texts passed last)
  last-same zero passed last here = (refl, here)
  last-same (suc more) passed last here =
      let moves = moves-same last here in
      let rest = by (moved_to texts last) moves.1 (λ next within. last-same more (passed ++ next ∷ []) next within) in
      (ap (λ next. onward more other passed last (option_and_then (other_than passed) next)) moves.0 ∙ rest.0, rest.1)
    where
      by : (next : Option FileId) → NextInside next → ((file : FileId) → IsInside file → IsLast (last_moved more other (passed ++ file ∷ []) file) (last_moved more texts (passed ++ file ∷ []) file)) → IsLast (onward more other passed last (option_and_then (other_than passed) next)) (onward more texts passed last (option_and_then (other_than passed) next))
      by None within further = (refl, here)
      by (Some next) within further = new-same more passed last next here (further next within) (list_any (same_file next) passed)

  target-same : (text : TextId) (file : FileId) → IsInside file → target_from other others text (Some file) ≡ target_from texts files text (Some file)
  unfolding target
  target-same text file here =
      let same = last-same 63 (file ∷ []) file here in
      ap (λ last. unwrap_or (text_id_of others (Present last)) text) same.0 ∙ ap (λ id. unwrap_or id text) same.1.number

  -- ---- So the texts agree.

  pub texts-agree : Agree inside (texts_over texts files) (texts_over other others)
  texts-agree = record {
    lines = λ text within. let same = agree text within in ap (lines_of_file other) same.at_other ∙ ap (λ said. map line_of (standing_lines said)) same.lines ∙ sym (ap (lines_of_file texts) same.at);
    is_part = λ text within. let same = agree text within in ap (file_is_part other) same.at_other ∙ ap (is_part_in same.file.folder) same.lines ∙ sym (ap (file_is_part texts) same.at);
    target = λ text within. let same = agree text within in ap (target_from other others text) same.at_other ∙ target-same text same.file (inside-at text same.file within same.at) ∙ sym (ap (target_from texts files text) same.at);
    finds = λ text within. let same = agree text within in finds-same text same.file same.at same.at_other ((texts_over texts files).lines text) (subst (FindsSameFiles inside texts other files same.file.folder) (sym (ap (lines_of_file texts) same.at)) same.finds);
  }

pub maps-agree : IsFileEquality → MapsLaw
maps-agree equality = texts-agree equality
