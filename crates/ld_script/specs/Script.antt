-- Scripts: the commands that their lines say. They are this project's own; a colour word is File Format 1.0.2's.
use Rattle.std.specs.Prelude.{◌==◌, ◌+◌, ℕ, Bool, true, List, [], ◌∷◌, ◌++◌, Option, Some, None, option_and_then, option_map, if◌then◌else◌, bytes_eq, codes}
use Rattle.std.specs.List.{list_any}
use Rattle.std.specs.Result.{result_ok}
use Rattle.ld_line.specs.Colour.{colour_word}
use Rattle.ld_line.specs.Cut.{lines_of}
use Rattle.ld_line.specs.Digits.{decimal_number}
use Rattle.ld_names.specs.Normal.{normal_of}
use Rattle.ld_names.specs.Standing.{file_in}
use Rattle.ld_names.specs.declared.file.FileId.{FileId}
use Rattle.ld_names.specs.declared.file.Folder.{Folder}
use Rattle.ld_names.specs.declared.file.Folder.TheVariants.{Model, Parts, P}
use Rattle.ld_texts.specs.declared.edit.Edit.TheVariants.{Set, Insert, Delete, New, Drop, Move}
use Rattle.ld_script.specs.Fields.{is_tab, tabbed}
use Rattle.ld_script.specs.declared.command.Command.{Command}
use Rattle.ld_script.specs.declared.command.Command.TheVariants.{Edit, Ask, Bad}
use Rattle.ld_script.specs.declared.command.Query.{Query}
use Rattle.ld_script.specs.declared.command.Query.TheVariants.{Faces, Steps, Parts as PartList}

-- ---- words

abbrev pub folder_by : List ℕ → Option Folder
folder_by word = if bytes_eq word (codes "model") then Some (Model 1) else if bytes_eq word (codes "parts") then Some Parts else if bytes_eq word (codes "p") then Some P else None

abbrev pub query_by : List ℕ → Option Query
query_by word = if bytes_eq word (codes "faces") then Some Faces else if bytes_eq word (codes "steps") then Some Steps else if bytes_eq word (codes "parts") then Some PartList else None

-- a file by the word of its folder and by a name, which is taken in its normal form
abbrev pub file_by : List ℕ → List ℕ → Option FileId
file_by folder name = option_and_then (λ place. option_map (λ normal. file_in place normal) (result_ok (normal_of name))) (folder_by folder)

-- ---- commands, by their fields

-- a query of the main model
abbrev pub main_query : List ℕ → Option Command
main_query word = option_map (λ query. Ask query None) (query_by word)

-- `new` and `drop` of a file
abbrev pub file_command : List ℕ → FileId → Option Command
file_command word file = if bytes_eq word (codes "new") then Some (Edit (New file)) else if bytes_eq word (codes "drop") then Some (Edit (Drop file)) else None

-- `del` of a line of a file, or a query of the file with a colour
abbrev pub number_command : List ℕ → FileId → List ℕ → Option Command
number_command word file number = if bytes_eq word (codes "del") then option_map (λ line. Edit (Delete file line)) (decimal_number number) else option_and_then (λ query. option_map (λ colour. Ask query (Some (record { file = file; colour = colour }))) (colour_word number)) (query_by word)

-- `set` and `ins` of a line with a text, which may hold TABs, or `move` to another file, whose name is one field
abbrev pub text_command : List ℕ → FileId → List ℕ → List ℕ → Option Command
text_command word file field text = if bytes_eq word (codes "set") then option_map (λ line. Edit (Set file line text)) (decimal_number field) else if bytes_eq word (codes "ins") then option_map (λ line. Edit (Insert file line text)) (decimal_number field) else if bytes_eq word (codes "move") then (if list_any is_tab text then None else option_map (λ to. Edit (Move file to)) (file_by field text)) else None

abbrev pub command_in : List (List ℕ) → Option Command
command_in (word ∷ []) = main_query word
command_in (word ∷ folder ∷ name ∷ []) = option_and_then (file_command word) (file_by folder name)
command_in (word ∷ folder ∷ name ∷ number ∷ []) = option_and_then (λ file. number_command word file number) (file_by folder name)
command_in (word ∷ folder ∷ name ∷ field ∷ text ∷ []) = option_and_then (λ file. text_command word file field text) (file_by folder name)
command_in fields = None

-- the file that a line's fields name, if they name one
abbrev pub named_file : List (List ℕ) → Option FileId
named_file (word ∷ folder ∷ name ∷ fields) = file_by folder name
named_file fields = None

-- ---- scripts

-- the command that a line says, if it says one
unfoldable pub command_of : List ℕ → Option Command
command_of line = command_in (tabbed line)

-- an empty line, or one that begins with `#`
abbrev pub is_ignored : List ℕ → Bool
is_ignored [] = true
is_ignored (byte ∷ bytes) = byte == 35

abbrev pub command_or_bad : ℕ → Option Command → Command
command_or_bad number None = Bad number
command_or_bad number (Some command) = command

-- what the line with a number gives
abbrev pub commands_at : ℕ → List ℕ → List Command
commands_at number line = if is_ignored line then [] else command_or_bad number (command_of line) ∷ []

-- what lines give, of which the first has a number
abbrev pub commands_from : ℕ → List (List ℕ) → List Command
commands_from number [] = []
commands_from number (line ∷ lines) = commands_at number line ++ commands_from (number + 1) lines

-- the commands of a script
unfoldable pub commands_of : List ℕ → List Command
commands_of bytes = commands_from 1 (lines_of bytes)
