-- What a reference comes to among the known texts, by their numbers.
use Rattle.std.specs.Prelude.{ℕ, List, [], ◌∷◌, Option, Some, None}
use Rattle.std.specs.Option.{unwrap_or}
use Rattle.ld_names.specs.Standing.{Known, folders_of}
use Rattle.ld_names.specs.declared.file.Folder.{Folder}
use Rattle.ld_names.specs.declared.file.TextId.{TextId}
use Rattle.ld_texts.specs.Known.{id_of, lines_at}
use Rattle.ld_engine.specs.declared.find.Sought.{Sought}
use Rattle.ld_engine.specs.declared.find.Sought.TheVariants.{Text, Absent, Unknown}

-- by the text of a number
abbrev pub sought_text : ℕ → Option (List (List ℕ)) → Option Sought
sought_text id None = None
sought_text id (Some lines) = Some (Text (record { 0 = id }))

-- by the number of the file in a folder
abbrev pub sought_by : Known → Folder → Option ℕ → Option Sought
sought_by known folder None = Some (Unknown folder)
sought_by known folder (Some id) = sought_text id (lines_at known id)

-- in one folder; nothing where the file is known to be absent there
abbrev pub sought_in : Known → Folder → List ℕ → Option Sought
sought_in known folder name = sought_by known folder (id_of known (record { folder = folder; name = name }))

abbrev pub sought_among : Known → List ℕ → List Folder → Sought
sought_among known name [] = Absent
sought_among known name (folder ∷ folders) = unwrap_or (sought_in known folder name) (sought_among known name folders)

abbrev pub sought : Known → Folder → List ℕ → Sought
sought known from name = sought_among known name (folders_of from)

-- the text that is sought, where it is there
abbrev pub sought_number : Sought → Option TextId
sought_number (Text id) = Some id
sought_number Absent = None
sought_number (Unknown folder) = None
