-- What look-ups by file, by number and by line say of each other, and what learning a file changes of them.
use Rattle.std.specs.Prelude.{◌≡◌, ◌+◌, ◌<◌, ◌++◌, ℕ, false, [], ◌∷◌, List, length, Some, None, get_or, option_and_then, option_map, slice_get, nat_lt, if◌then◌else◌}
use Rattle.std.specs.Option.{is_some, option_or}
use Rattle.ld_line.specs.Moved.{moved_line}
use Rattle.ld_line.specs.Part.{is_part_text}
use Rattle.ld_names.specs.declared.file.FileId.{FileId}
use Rattle.ld_names.specs.Standing.{Known, Text, known_map, same_file}
use Rattle.ld_texts.specs.Known.{AreDistinct, file_at, files_of, id_of, is_part_at, line_at, lines_at, moved_at, weight_of, weight_of_text}
use Rattle.ld_texts.specs.Learning.{CanCommit, KeepsTexts, Learn, Ready, Texts, change_of}
use Rattle.ld_texts.specs.declared.change.Turned.TheVariants.{Learnt}

-- the map says of a file what stands at its number, and nothing where it has none; and a number is that of its file
pub record NumbersAgree : Type 0 where
  pub map : (known : Known) (file : FileId) → known_map known file ≡ option_map (lines_at known) (id_of known file)
  pub file : (known : Known) (file : FileId) (id : ℕ) → id_of known file ≡ Some id → file_at known id ≡ Some file
  pub number : (known : Known) (file : FileId) (id : ℕ) → AreDistinct known → file_at known id ≡ Some file → id_of known file ≡ Some id
  pub there : (known : Known) (id : ℕ) → is_some (file_at known id) ≡ nat_lt id (length known)
  pub present : (known : Known) (id : ℕ) (lines : List (List ℕ)) → lines_at known id ≡ Some lines → id < length known
  pub part : (known : Known) (id : ℕ) (file : FileId) (lines : List (List ℕ)) → file_at known id ≡ Some file → lines_at known id ≡ Some lines → is_part_at known id ≡ is_part_text file.folder lines
  pub no_part : (known : Known) (id : ℕ) → lines_at known id ≡ None → is_part_at known id ≡ false
  pub moved : (known : Known) (id : ℕ) (file : FileId) (lines : List (List ℕ)) → file_at known id ≡ Some file → lines_at known id ≡ Some lines → moved_at known id ≡ moved_line file.folder lines
  pub not_moved : (known : Known) (id : ℕ) → lines_at known id ≡ None → moved_at known id ≡ None

-- line k + 1 of a text is item k of its lines
pub record LinesAgree : Type 0 where
  pub none : (known : Known) (id : ℕ) → line_at known id 0 ≡ None
  pub item : (known : Known) (id k : ℕ) → line_at known id (k + 1) ≡ option_and_then (λ lines. slice_get lines k) (lines_at known id)
  pub line : (known : Known) (id : ℕ) (lines : List (List ℕ)) (k : ℕ) (other : List ℕ) → lines_at known id ≡ Some lines → k < length lines → line_at known id (k + 1) ≡ Some (get_or lines k other)

-- once a file is learnt, every old number, file and text stays, and the file's number is the count of files before
pub record Learns (known : Known) (file : FileId) (text : Text) (learnt : Known) : Type 0 where
  pub files : files_of learnt ≡ files_of known ++ file ∷ []
  pub count : length learnt ≡ length known + 1
  pub weight : weight_of learnt ≡ weight_of known + weight_of_text text
  pub distinct : AreDistinct known → id_of known file ≡ None → AreDistinct learnt
  pub id : (other : FileId) → id_of learnt other ≡ option_or (id_of known other) (if same_file other file then Some (length known) else None)
  pub old_id : (other : FileId) (id : ℕ) → id_of known other ≡ Some id → id_of learnt other ≡ Some id
  pub new_id : id_of known file ≡ None → id_of learnt file ≡ Some (length known)
  pub change : id_of known file ≡ None → change_of learnt (Learn file text) ≡ Some (record { first = (record { 0 = length known }, Learnt); second = None })
  pub old_file : (id : ℕ) → id < length known → file_at learnt id ≡ file_at known id
  pub new_file : file_at learnt (length known) ≡ Some file
  pub old_lines : (id : ℕ) → id < length known → lines_at learnt id ≡ lines_at known id
  pub new_lines : lines_at learnt (length known) ≡ text
  pub old_part : (id : ℕ) → id < length known → is_part_at learnt id ≡ is_part_at known id
  pub old_moved : (id : ℕ) → id < length known → moved_at learnt id ≡ moved_at known id

abbrev pub LearningNumbers : Type 0
LearningNumbers = (known : Known) (file : FileId) (text : Text) → Learns known file text (known ++ (file, text) ∷ [])

-- what can be made stays so while the texts stay
abbrev pub ReadyStays : Type 0
ReadyStays = (old new : Texts) (ready : Ready) → KeepsTexts old new → CanCommit old ready → CanCommit new ready
