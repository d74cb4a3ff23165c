-- What a reference comes to among the known texts, by their numbers.
use Rattle.std.specs.Prelude.{ℕ, List, Option, Some, None, unwrap_or}
use Rattle.ld_names.specs.Standing.{Found, Present, Absent as NoText, Unknown as NotKnown, Known, find, known_map}
use Rattle.ld_names.specs.declared.file.FileId.{FileId}
use Rattle.ld_texts.specs.Known.{id_of}
use Rattle.ld_graph.specs.declared.resolving.Resolved.{Resolved}
use Rattle.ld_graph.specs.declared.resolving.Resolved.TheVariants.{Text, Absent, Unknown}

-- by what the look-up finds; a file that is there has a number
abbrev pub resolved : Known → Found → Resolved
resolved known (Present file) = Text (record { 0 = unwrap_or (id_of known file) 0 })
resolved known NoText = Absent
resolved known (NotKnown folder) = Unknown folder

-- a name in a file; one in a file that is not known finds nothing
abbrev pub resolved_from : Known → List ℕ → Option FileId → Resolved
resolved_from known name None = Absent
resolved_from known name (Some file) = resolved known (find (known_map known) file.folder name)
