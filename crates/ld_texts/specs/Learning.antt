-- Changes of the known files: a file is learnt or an edit is made. When learning is refused, what a change changes, and
-- when it can be made. The limits are this project's own.
use Rattle.std.specs.Prelude.{◌≡◌, ◌≤◌, ◌+◌, ◌++◌, ◌==◌, ℕ, Bool, true, [], ◌∷◌, List, length, Option, Some, None, Result, Ok, Err, if◌then◌else◌, bytes_eq, nat_lt, ⊤}
use Rattle.std.specs.List.{list_any}
use Rattle.std.specs.Option.{option_or}
use Rattle.ld_names.specs.declared.file.FileId.{FileId}
use Rattle.ld_names.specs.Standing.{Known, Text}
use Rattle.ld_texts.specs.Editing.{AreKnown, edit_change, edited, files_in, lines_needed, refusal_of, text_of, turned}
use Rattle.ld_texts.specs.Known.{file_at, id_of, lines_at, weight_of, weight_of_text}
use Rattle.ld_texts.specs.declared.change.Change.{Change}
use Rattle.ld_texts.specs.declared.change.LearnError.{LearnError}
use Rattle.ld_texts.specs.declared.change.LearnError.TheVariants.{Full, Memory}
use Rattle.ld_texts.specs.declared.change.Over.{Over}
use Rattle.ld_texts.specs.declared.change.Over.TheVariants.{Files, Weight}
use Rattle.ld_texts.specs.declared.change.Turned.TheVariants.{Learnt}
use Rattle.ld_texts.specs.declared.edit.Edit.{Edit}
use Rattle.ld_texts.specs.declared.edit.EditRefusal.{EditRefusal}
use Rattle.ld_texts.specs.declared.edit.PrepareError.{PrepareError}
use Rattle.ld_texts.specs.declared.edit.PrepareError.TheVariants.{Refused, Memory as NoMemory}

-- the known files, how many there may be and how much their texts may weigh; and the memory that is taken: how many
-- more files there is room for, and which names have a place for the number of one more file
pub record Texts : Type 0 where
  pub known : Known
  pub max_files : ℕ
  pub max_weight : ℕ
  pub room : ℕ
  pub places : List (List ℕ)

-- the name has a place
abbrev pub has_place : Texts → List ℕ → Bool
has_place texts name = list_any (bytes_eq name) texts.places

-- a change that is ready to be made: a file is learnt with its lines, or with None where it is absent; or an edit is
-- made, which brings memory for so many lines
pub data Ready : Type 0 where
  Learn : FileId → Text → Ready
  Apply : Edit → ℕ → Ready

-- the edit that a change makes
abbrev pub edit_in : Ready → Option Edit
edit_in (Learn file text) = None
edit_in (Apply edit room) = Some edit

-- the limit on the number of files, where one more would pass it
abbrev pub files_passed : ℕ → Known → Option Over
files_passed max_files known = if length known == max_files then Some (Files max_files) else None

-- the limit on the weight, where a further text would pass it, with the weight that is kept
abbrev pub weight_passed : ℕ → Known → Text → Option Over
weight_passed max_weight known text = if nat_lt max_weight (weight_of known + weight_of_text text) then Some (Weight (weight_of known)) else None

-- the limit that a further file would pass: on the number of files before that on the weight
abbrev pub limit_passed : ℕ → ℕ → Known → Text → Option Over
limit_passed max_files max_weight known text = option_or (files_passed max_files known) (weight_passed max_weight known text)

-- what is wanted, or the limit that is passed; memory is lacking only where none is
abbrev pub GivesUnless : {A : Type 0} → Option Over → A → Result A LearnError → Type 0
GivesUnless passed wanted (Ok given) = (given ≡ wanted) × (passed ≡ None)
GivesUnless passed wanted (Err (Full over)) = passed ≡ Some over
GivesUnless passed wanted (Err Memory) = passed ≡ None

-- the edit is ready, or the refusal; memory is lacking only where none is
abbrev pub PreparesUnless : Option EditRefusal → Edit → Result Ready PrepareError → Type 0
PreparesUnless refusal edit (Ok ready) = (edit_in ready ≡ Some edit) × (refusal ≡ None)
PreparesUnless refusal edit (Err (Refused why)) = refusal ≡ Some why
PreparesUnless refusal edit (Err NoMemory) = refusal ≡ None

-- what the edit turned, or the refusal; memory is lacking only where none is
abbrev pub AppliesUnless : Option EditRefusal → Option Change → Result Change PrepareError → Type 0
AppliesUnless refusal wanted (Ok change) = (wanted ≡ Some change) × (refusal ≡ None)
AppliesUnless refusal wanted (Err (Refused why)) = refusal ≡ Some why
AppliesUnless refusal wanted (Err NoMemory) = refusal ≡ None

-- the files and the limits stay; no room is lost
pub record KeepsTexts (old new : Texts) : Type 0 where
  pub known : new.known ≡ old.known
  pub max_files : new.max_files ≡ old.max_files
  pub max_weight : new.max_weight ≡ old.max_weight
  pub room : old.room ≤ new.room
  pub places : (name : List ℕ) → has_place old name ≡ true → has_place new name ≡ true

-- the memory for the change is taken
abbrev pub HasRoomFor : Texts → Ready → Type 0
HasRoomFor texts (Learn file text) = (1 ≤ texts.room) × (has_place texts file.name ≡ true)
HasRoomFor texts (Apply edit room) = lines_needed (text_of texts.known) edit ≤ room

-- the file to be learnt is not known; those of an edit are
abbrev pub IsApt : Known → Ready → Type 0
IsApt known (Learn file text) = id_of known file ≡ None
IsApt known (Apply edit room) = AreKnown known (files_in edit)

-- the change is not refused
abbrev pub IsWithinLimits : Texts → Ready → Type 0
IsWithinLimits texts (Learn file text) = limit_passed texts.max_files texts.max_weight texts.known text ≡ None
IsWithinLimits texts (Apply edit room) = refusal_of texts.max_weight texts.known edit ≡ None

-- the change can be made, without memory
pub record CanCommit (texts : Texts) (ready : Ready) : Type 0 where
  pub room : HasRoomFor texts ready
  pub apt : IsApt texts.known ready
  pub fits : IsWithinLimits texts ready

-- what is known after a change
abbrev pub known_after : Known → Ready → Known
known_after known (Learn file text) = known ++ (file, text) ∷ []
known_after known (Apply edit room) = edited known edit

-- what a change turned, by the numbers of the files that are known after it
abbrev pub change_of : Known → Ready → Option Change
change_of known (Learn file text) = turned known file Learnt
change_of known (Apply edit room) = edit_change known edit

-- a learnt file has the next number, and stands there with its text
pub record IsLearnt (old new : Known) (file : FileId) (text : Text) (id : ℕ) : Type 0 where
  pub next : id ≡ length old
  pub number : id_of new file ≡ Some id
  pub file_there : file_at new id ≡ Some file
  pub text_there : lines_at new id ≡ text

-- where a change learns a file, it is learnt with this number
abbrev pub LearnsAt : Known → Known → Ready → ℕ → Type 0
LearnsAt old new (Learn file text) id = IsLearnt old new file text id
LearnsAt old new (Apply edit room) id = ⊤

-- the file that a change learns
abbrev pub learnt_file : Ready → Option FileId
learnt_file (Learn file text) = Some file
learnt_file (Apply edit room) = None

-- the lines of the file that a change learns, where it is present
abbrev pub learnt_lines : Ready → Text
learnt_lines (Learn file text) = text
learnt_lines (Apply edit room) = None
