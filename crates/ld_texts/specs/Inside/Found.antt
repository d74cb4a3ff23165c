-- How the number of a file is found by its name.
use Rattle.std.specs.Prelude.{◌≡◌, ℕ, Bool, false, List, Option, filter, length, map, nat_lt, option_and_then}
use Rattle.std.specs.BTreeMap.{is_at}
use Rattle.std.specs.Cmp.Lexicographic.{slice_cmp}
use Rattle.std.specs.Map.{lookup}
use Rattle.std.specs.Option.{option_map_or}
use Rattle.std.specs.Ordering.{nat_cmp}
use Rattle.std.specs.Vec.{vec_capacity}
use Rattle.ld_names.specs.declared.file.FileId.{FileId}
use Rattle.ld_names.specs.declared.file.Folder.{Folder}
use Rattle.ld_names.specs.Standing.{Known, same_folder}
use Rattle.ld_texts.specs.Known.{AreDistinct, id_of}
use Rattle.ld_texts.specs.declared.ids.Ids.{Ids}

-- of the files of one name, the number of the one in a folder
abbrev pub id_in : Folder → Ids → Option ℕ
id_in folder ids = lookup (same_folder folder) ids.numbers.items

-- there is room for the number of one more file
abbrev pub has_room : Ids → Bool
has_room ids = nat_lt (length ids.numbers.items) (vec_capacity ids.numbers)

-- the numbers of the files of a name
abbrev pub ids_of : List (List ℕ × Ids) → List ℕ → Option Ids
ids_of ids name = lookup (is_at (slice_cmp nat_cmp name)) ids

-- the name has its numbers in the map, with room for one more
abbrev pub has_room_for : List (List ℕ × Ids) → List ℕ → Bool
has_room_for ids name = option_map_or has_room (ids_of ids name) false

-- the names in the map that have such room
abbrev pub places_of : List (List ℕ × Ids) → List (List ℕ)
places_of ids = filter (has_room_for ids) (map (λ entry. entry.0) ids)

-- the number of a file is found by its name and then by its folder, and no file is known twice
pub record IsIndex (known : Known) (ids : List (List ℕ × Ids)) : Type 0 where
  pub found : (file : FileId) → option_and_then (id_in file.folder) (ids_of ids file.name) ≡ id_of known file
  pub distinct : AreDistinct known
