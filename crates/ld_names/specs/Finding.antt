-- What a look-up finds, what learning a file changes of that, and when two files are the same.
use Rattle.std.specs.Prelude.{◌≡◌, ◌≢◌, ℕ, List, [], ◌∷◌, ◌++◌, All, Some, None, if◌then◌else◌}
use Rattle.std.specs.Bool.{Decides}
use Rattle.std.specs.Cmp.{IsEquivalence}
use Rattle.std.specs.Option.{option_or}
use Rattle.ld_names.specs.declared.file.FileId.{FileId}
use Rattle.ld_names.specs.declared.file.Folder.{Folder}
use Rattle.ld_names.specs.declared.file.Folder.TheVariants.{Model}
use Rattle.ld_names.specs.Standing.{Known, Map, Text, Present, Absent, Unknown, file_in, find, folders_of, known_map, same_file, standing}

-- the two hold together
abbrev pub Exactly : Type 0 → Type 0 → Type 0
Exactly A B = (A → B) × (B → A)

-- the test holds exactly of equal files, so it is one for keys
pub record IsFileEquality : Type 0 where
  pub same : (file other : FileId) → Decides (same_file file other) (file ≡ other)
  pub equivalence : IsEquivalence same_file

-- the folder is known to lack the name
abbrev pub Lacks : Map → List ℕ → Folder → Type 0
Lacks known name folder = known (file_in folder name) ≡ Some None

-- the file is known to be there
abbrev pub IsThere : Map → FileId → Type 0
IsThere known file = (lines : List (List ℕ)) × (known file ≡ Some (Some lines))

-- the folder is one of these, and each one before it is known to lack the name
pub record IsReached (known : Map) (name : List ℕ) (folders : List Folder) (folder : Folder) : Type 0 where
  pub before : List Folder
  pub behind : List Folder
  pub order : folders ≡ before ++ folder ∷ behind
  pub lacked : All (Lacks known name) before

-- a file of this name is found where its folder is reached and it is there; a folder is unknown where it is reached
-- and its file was never asked for; and the name is absent where every folder lacks it
pub record FindsExactly : Type 0 where
  pub present : (known : Map) (from : Folder) (name : List ℕ) (file : FileId) → Exactly (find known from name ≡ Present file) ((file.name ≡ name) × IsReached known name (folders_of from) file.folder × IsThere known file)
  pub unknown : (known : Map) (from : Folder) (name : List ℕ) (folder : Folder) → Exactly (find known from name ≡ Unknown folder) (IsReached known name (folders_of from) folder × (known (file_in folder name) ≡ None))
  pub absent : (known : Map) (from : Folder) (name : List ℕ) → Exactly (find known from name ≡ Absent) (All (Lacks known name) (folders_of from))

-- a map says all that another says
abbrev pub SaysMore : Map → Map → Type 0
SaysMore known more = (file : FileId) (text : Text) → known file ≡ Some text → more file ≡ Some text

-- two maps say the same of the file of a name in a folder
abbrev pub SaySame : Map → Map → List ℕ → Folder → Type 0
SaySame known other name folder = other (file_in folder name) ≡ known (file_in folder name)

-- what was found, or found absent, stays where more is known; and a look-up asks of the files of its name in its own
-- folders alone
pub record FindStays : Type 0 where
  pub more : (known more : Map) (from : Folder) (name : List ℕ) → SaysMore known more → ((folder : Folder) → find known from name ≢ Unknown folder) → find more from name ≡ find known from name
  pub others : (known other : Map) (from : Folder) (name : List ℕ) → All (SaySame known other name) (folders_of from) → find other from name ≡ find known from name

-- a look-up goes through the folder of a document for that document's own files alone
pub record DocumentsApart : Type 0 where
  pub present : (known : Map) (from : Folder) (name found : List ℕ) (document : ℕ) → find known from name ≡ Present (file_in (Model document) found) → from ≡ Model document
  pub unknown : (known : Map) (from : Folder) (name : List ℕ) (document : ℕ) → find known from name ≡ Unknown (Model document) → from ≡ Model document

-- over the standing texts nothing is unknown
abbrev pub NothingUnknown : Type 0
NothingUnknown = (known : Map) (shelf : FileId → Text) (from : Folder) (name : List ℕ) (folder : Folder) → find (standing known shelf) from name ≢ Unknown folder

-- what is known once a file is learnt: what was known, and the file's text where nothing was known of it
abbrev pub LearningAdds : Type 0
LearningAdds = (known : Known) (learnt : FileId) (text : Text) (file : FileId) → known_map (known ++ (learnt, text) ∷ []) file ≡ option_or (known_map known file) (if same_file file learnt then Some text else None)

-- and so every old entry
abbrev pub LearningKeeps : Type 0
LearningKeeps = (known : Known) (learnt : FileId) (text : Text) → SaysMore (known_map known) (known_map (known ++ (learnt, text) ∷ []))

-- learning a file, with what the shelf has of it, leaves the texts as they stand
abbrev pub LearningStays : Type 0
LearningStays = (known : Known) (shelf : FileId → Text) (learnt file : FileId) → known_map known learnt ≡ None → standing (known_map (known ++ (learnt, shelf learnt) ∷ [])) shelf file ≡ standing (known_map known) shelf file
