-- What a graph knows of the texts, by number: the file, and the names of its references or None of an absent one. Which
-- text a name finds: File Format 1.0.2 ("Line Type 1") names the library's folders; the order is this project's own.
use Rattle.std.specs.Prelude.{ℕ, Bool, true, false, List, [], ◌∷◌, Option, Some, None, map, option_map, option_and_then, position, slice_get, slice_set}
use Rattle.std.specs.List.{filter_map}
use Rattle.std.specs.Option.{is_some, option_map_or}
use Rattle.ld_names.specs.Standing.{file_in, folders_of, same_file}
use Rattle.ld_names.specs.declared.file.FileId.{FileId}
use Rattle.ld_names.specs.declared.file.Folder.{Folder}
use Rattle.ld_graph.specs.Web.{Web}

-- the names of a present text's references, in order
abbrev pub Names : Type 0
Names = Option (List (List ℕ))

abbrev pub Item : Type 0
Item = FileId × Names

abbrev pub Items : Type 0
Items = List Item

abbrev pub files_of : Items → List FileId
files_of items = map (λ item. item.0) items

-- the number of a file
abbrev pub number_of : Items → FileId → Option ℕ
number_of items file = position (same_file file) (files_of items)

-- the file with a number
abbrev pub file_at : Items → ℕ → Option FileId
file_at items text = slice_get (files_of items) text

-- whether a text is known, and then whether it is present
abbrev pub presence : Items → ℕ → Option Bool
presence items text = option_map (λ item. is_some item.1) (slice_get items text)

-- the names of the references of a known and present text
abbrev pub names_at : Items → ℕ → Names
names_at items text = option_and_then (λ item. item.1) (slice_get items text)

-- the items, where one text has other names
abbrev pub with_names_at : Items → ℕ → Names → Items
with_names_at items text names = option_map_or (λ item. slice_set items text (item.0, names)) (slice_get items text) items

-- ---- what a name finds

-- a text where it is present, what comes later where it is absent, and nothing where it is not known
abbrev pub present_or : ℕ → Option Bool → Option ℕ → Option ℕ
present_or text None later = None
present_or text (Some false) later = later
present_or text (Some true) later = Some text

abbrev pub here_or : Option ℕ → (ℕ → Option Bool) → Option ℕ → Option ℕ
here_or None present later = None
here_or (Some text) present later = present_or text (present text) later

-- of the numbers of one name's files by folder, the first that is present, where all before it are absent
abbrev pub first_present : (Folder → Option ℕ) → (ℕ → Option Bool) → List Folder → Option ℕ
first_present numbers present [] = None
first_present numbers present (folder ∷ folders) = here_or (numbers folder) present (first_present numbers present folders)

-- the numbers of the files of one name
abbrev pub numbers_of : Items → List ℕ → Folder → Option ℕ
numbers_of items name folder = number_of items (file_in folder name)

-- the present text that a name finds from a folder
abbrev pub found : Items → Folder → List ℕ → Option ℕ
found items from name = first_present (numbers_of items name) (presence items) (folders_of from)

-- the present texts that an item's names find
abbrev pub found_by : Items → Item → Option (List ℕ)
found_by items item = option_map (filter_map (found items item.0.folder)) item.1

-- the references of the texts
abbrev pub web_of : Items → Web
web_of items = map (found_by items) items
