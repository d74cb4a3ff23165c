-- Texts as an expansion sees them: by the numbers of their files.
use Rattle.std.specs.Prelude.{ℕ, Bool, false, List, [], map, Option, Some, None, option_map, position, slice_get, unwrap_or}
use Rattle.ld_names.specs.Standing.{Absent, find, Found, Known, known_map, Map, Present, same_file, standing, Text, Unknown}
use Rattle.ld_names.specs.declared.file.FileId.{FileId}
use Rattle.ld_names.specs.declared.file.Folder.{Folder}
use Rattle.ld_names.specs.declared.file.TextId.{TextId}
use Rattle.ld_line.specs.Moved.{target}
use Rattle.ld_line.specs.Part.{is_part_text}
use Rattle.ld_line.specs.Reading.{line_of}
use Rattle.ld_line.specs.declared.line.Line.{Line}

-- the lines of each text, whether it is a part text, which text a name in it finds, and at which text its moves end
pub record NumberedTexts : Type 0 where
  pub lines : TextId → List Line
  pub is_part : TextId → Bool
  pub found : TextId → List ℕ → Option TextId
  pub target : TextId → TextId

-- a file that is absent has no lines, and is no part text
abbrev pub standing_lines : Option Text → List (List ℕ)
standing_lines (Some (Some lines)) = lines
standing_lines text = []

abbrev pub is_part_in : Folder → Option Text → Bool
is_part_in folder (Some (Some lines)) = is_part_text folder lines
is_part_in folder text = false

abbrev pub lines_of_file : Map → Option FileId → List Line
lines_of_file texts (Some file) = map line_of (standing_lines (texts file))
lines_of_file texts None = []

abbrev pub file_is_part : Map → Option FileId → Bool
file_is_part texts (Some file) = is_part_in file.folder (texts file)
file_is_part texts None = false

-- The number of a file that was found, which is its place among the files. A file that has none is not found: where
-- nothing is wanted there is no such file, and nothing is unknown.
abbrev pub text_id_of : List FileId → Found → Option TextId
text_id_of files (Present file) = option_map (λ place. record { 0 = place }) (position (same_file file) files)
text_id_of files Absent = None
text_id_of files (Unknown folder) = None

abbrev pub found_from : Map → List FileId → List ℕ → Option FileId → Option TextId
found_from texts files name (Some file) = text_id_of files (find texts file.folder name)
found_from texts files name None = None

-- The text at which the moves of a file end, by the number of the text itself. A file that has no number is not the
-- target of another: where nothing is wanted there is no such file.
abbrev pub target_from : Map → List FileId → TextId → Option FileId → TextId
target_from texts files text (Some file) = unwrap_or (text_id_of files (Present (target texts file))) text
target_from texts files text None = text

-- the texts of a map, numbered by a list of files
abbrev pub texts_over : Map → List FileId → NumberedTexts
texts_over texts files =
    record { lines = λ text. lines_of_file texts (slice_get files text.0); is_part = λ text. file_is_part texts (slice_get files text.0); found = λ text name. found_from texts files name (slice_get files text.0); target = λ text. target_from texts files text (slice_get files text.0) }

-- the known files by their numbers
abbrev pub known_files : Known → List FileId
known_files known = map (λ entry. entry.0) known

-- the known texts
abbrev pub known_texts : Known → NumberedTexts
known_texts known = texts_over (known_map known) (known_files known)

-- the texts as they stand, by the numbers of the known files
abbrev pub standing_texts : Known → (FileId → Text) → NumberedTexts
standing_texts known shelf = texts_over (standing (known_map known) shelf) (known_files known)
