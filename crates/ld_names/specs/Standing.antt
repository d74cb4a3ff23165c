-- Which texts stand, and which file a reference finds. File Format 1.0.2 ("Line Type 1") names the library's
-- folders; their order is this project's own.
use Rattle.std.specs.Prelude.{◌==◌, ◌&&◌, ℕ, Bool, List, [], ◌∷◌, Option, Some, None, bytes_eq, unwrap_or}
use Rattle.std.specs.Map.{lookup}
use Rattle.std.specs.Ordering.{nat_cmp, on, then_cmp}
use Rattle.std.specs.declared.cmp.Ordering.{Ordering}
use Rattle.std.specs.Cmp.Lexicographic.{slice_cmp}
use Rattle.ld_names.specs.declared.file.FileId.{FileId}
use Rattle.ld_names.specs.declared.file.Folder.{Folder}
use Rattle.ld_names.specs.declared.file.Folder.TheVariants.{Model, Parts, P}

-- the folders in which a file that a file of this folder refers to is looked for, in order
unfoldable pub folders_of : Folder → List Folder
folders_of (Model document) = Model document ∷ Parts ∷ P ∷ []
folders_of Parts = Parts ∷ P ∷ []
folders_of P = Parts ∷ P ∷ []

-- the place of a folder: the documents, then the two of the library
abbrev pub folder_place : Folder → ℕ
folder_place (Model document) = 0
folder_place Parts = 1
folder_place P = 2

-- the number of a folder's document, which tells the folders of the first place apart
abbrev pub document_of : Folder → ℕ
document_of (Model document) = document
document_of Parts = 0
document_of P = 0

-- a folder is the other where its place and its document are
abbrev pub same_folder : Folder → Folder → Bool
same_folder folder other = folder_place folder == folder_place other && document_of folder == document_of other

-- folders by place, and then by document
abbrev pub folder_cmp : Folder → Folder → Ordering
folder_cmp = then_cmp (on folder_place nat_cmp) (on document_of nat_cmp)

-- a file is the other where its folder and the bytes of its name are
unfoldable pub same_file : FileId → FileId → Bool
same_file file other = same_folder file.folder other.folder && bytes_eq file.name other.name

-- files by folder, and then by the bytes of their names
unfoldable pub file_cmp : FileId → FileId → Ordering
file_cmp = then_cmp (on (λ file. file.folder) folder_cmp) (on (λ file. file.name) (slice_cmp nat_cmp))

-- the file of a name in a folder
abbrev pub file_in : Folder → List ℕ → FileId
file_in folder name = record { folder = folder; name = name }

-- the lines of a file that is there, or none of one that is known to be absent
abbrev pub Text : Type 0
Text = Option (List (List ℕ))

-- what is known of each file: None of one that was never asked for
abbrev pub Map : Type 0
Map = FileId → Option Text

-- the known files in the order in which they became known, each with its text
abbrev pub Known : Type 0
Known = List (FileId × Text)

-- what the known files say of each file
unfoldable pub known_map : Known → Map
known_map known file = lookup (same_file file) known

-- the texts as they stand: what is known, and for every other file what the shelf has
unfoldable pub standing : Map → (FileId → Text) → Map
standing known shelf file = Some (unwrap_or (known file) (shelf file))

-- what looking up a name gives
pub data Found : Type 0 where
  Present : FileId → Found
  Absent : Found
  Unknown : Folder → Found

-- what a look-up gives by what is known of the file in hand, and by what the folders behind give
abbrev pub found_or : FileId → Found → Option Text → Found
found_or file behind None = Unknown file.folder
found_or file behind (Some None) = behind
found_or file behind (Some (Some lines)) = Present file

-- the first of the folders that has the file, where each one before it is known to lack it
abbrev pub find_among : Map → List ℕ → List Folder → Found
find_among known name [] = Absent
find_among known name (folder ∷ folders) = found_or (file_in folder name) (find_among known name folders) (known (file_in folder name))

-- the file that a reference by this name finds, from a file of the folder
unfoldable pub find : Map → Folder → List ℕ → Found
find known from name = find_among known name (folders_of from)
