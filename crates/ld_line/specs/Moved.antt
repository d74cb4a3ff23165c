-- Moved texts, which only say where a part moved to, and the file at which such moves end. All of it is this project's
-- own; `~Moved to` begins the title of such a part in the library.
use Rattle.std.specs.Prelude.{ℕ, zero, suc, ◌+◌, Bool, true, false, List, [], ◌∷◌, ◌++◌, map, take, slice_get, Option, Some, None, option_and_then, unwrap_or, if◌then◌else◌, codes}
use Rattle.std.specs.List.{list_any}
use Rattle.ld_names.specs.Standing.{Map, Text, Found, Present, Absent, Unknown, find, same_file}
use Rattle.ld_names.specs.declared.file.FileId.{FileId}
use Rattle.ld_names.specs.declared.file.Folder.{Folder}
use Rattle.ld_line.specs.declared.line.Line.{Line}
use Rattle.ld_line.specs.declared.line.Line.TheVariants.{Draw, Ref}
use Rattle.ld_line.specs.Field.{fields}
use Rattle.ld_line.specs.Meta.{words_eq}
use Rattle.ld_line.specs.Part.{is_part_text}
use Rattle.ld_line.specs.Reading.{line_of}

-- ---- what a moved text is

-- the first line begins with the fields `0`, `~Moved` and `to`
abbrev pub has_moved_title : List (List ℕ) → Bool
has_moved_title [] = false
has_moved_title (title ∷ lines) = words_eq (take 3 (fields title)) (codes "0" ∷ codes "~Moved" ∷ codes "to" ∷ [])

abbrev pub is_reference : Line → Bool
is_reference (Ref colour placement name) = true
is_reference line = false

abbrev pub is_drawn : Line → Bool
is_drawn (Draw kind colour points) = true
is_drawn line = false

-- the numbers of the references, by the number of the first line
abbrev pub references_from : ℕ → List Line → List ℕ
references_from number [] = []
references_from number (line ∷ lines) = if is_reference line then number ∷ references_from (number + 1) lines else references_from (number + 1) lines

-- the number in a list of one
abbrev pub only : List ℕ → Option ℕ
only (number ∷ []) = Some number
only numbers = None

-- the number of the one reference; None of lines with none or more, and of lines that draw
abbrev pub only_reference : List Line → Option ℕ
only_reference lines = if list_any is_drawn lines then None else only (references_from 1 lines)

-- the number of the one reference of lines with such a title
unfoldable pub moved_reference : List (List ℕ) → Option ℕ
moved_reference lines = if has_moved_title lines then only_reference (map line_of lines) else None

-- the number of the one reference of a moved text, which is a part text; None of every other text
unfoldable pub moved_line : Folder → List (List ℕ) → Option ℕ
moved_line folder lines = if is_part_text folder lines then moved_reference lines else None

-- ---- where moves lead

-- the name of a reference's file, if it has a normal form
abbrev pub name_in : Line → Option (List ℕ)
name_in (Ref colour placement name) = name
name_in line = None

-- the name on a line of a text, by the number of the line
abbrev pub name_on : List (List ℕ) → ℕ → Option (List ℕ)
name_on lines zero = None
name_on lines (suc before) = option_and_then (λ line. name_in (line_of line)) (slice_get lines before)

-- the name to which a text of a folder moved
abbrev pub moved_name : Folder → Text → Option (List ℕ)
moved_name folder None = None
moved_name folder (Some lines) = option_and_then (name_on lines) (moved_line folder lines)

-- a part text that stands
abbrev pub is_part : Folder → Text → Bool
is_part folder None = false
is_part folder (Some lines) = is_part_text folder lines

-- the text that a map has of a file; one that is not known counts as absent
abbrev pub text_of : Map → FileId → Text
text_of texts file = unwrap_or (texts file) None

-- the part text that is found
abbrev pub part_found : Map → Found → Option FileId
part_found texts (Present file) = if is_part file.folder (text_of texts file) then Some file else None
part_found texts Absent = None
part_found texts (Unknown folder) = None

-- the part text to which a file moved
unfoldable pub moved_to : Map → FileId → Option FileId
moved_to texts file = option_and_then (λ name. part_found texts (find texts file.folder name)) (moved_name file.folder (text_of texts file))

-- a file that is not among these
abbrev pub other_than : List FileId → FileId → Option FileId
other_than files file = if list_any (same_file file) files then None else Some file

-- the last of the files that moves lead to, by those so far, the last of them, and how many more there may be
abbrev pub last_moved : ℕ → Map → List FileId → FileId → FileId
last_moved zero texts files last = last
last_moved (suc more) texts files last = elim (option_and_then (other_than files) (moved_to texts last)) [ None ↦ last | Some next ↦ last_moved more texts (files ++ next ∷ []) next ]

-- the file at which the moves of a file end: the last of a list of at most 64, which begins with the file and goes on
-- where its last file moved to a part text that is not in it yet
unfoldable pub target : Map → FileId → FileId
target texts file = last_moved 63 texts (file ∷ []) file
