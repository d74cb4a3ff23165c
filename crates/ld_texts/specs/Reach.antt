-- What a text reaches by its references, and which file is wanted next: File Format 1.0.2 ("Line Type 1"); the order
-- is this project's own.
use Rattle.std.specs.Prelude.{◌==◌, ◌++◌, ℕ, zero, suc, List, [], ◌∷◌, length, slice_get, Option, Some, None, if◌then◌else◌}
use Rattle.std.specs.List.{list_any}
use Rattle.ld_names.specs.Standing.{Found, Present, Absent, Unknown, Known, Text, find, known_map}
use Rattle.ld_names.specs.declared.file.FileId.{FileId}
use Rattle.ld_names.specs.declared.file.Folder.{Folder}
use Rattle.ld_line.specs.Reading.{line_of}
use Rattle.ld_line.specs.declared.line.Line.{Line}
use Rattle.ld_line.specs.declared.line.Line.TheVariants.{Ref}
use Rattle.ld_texts.specs.Known.{file_at, id_of, lines_at}

-- what going through references comes to: a file that is not known yet, or the numbers of the texts reached, in order
pub data Reached : Type 0 where
  Wants : FileId → Reached
  Reaches : List ℕ → Reached

-- goes on from the texts reached, unless a file is wanted
abbrev pub going_on : (List ℕ → Reached) → Reached → Reached
going_on further (Wants file) = Wants file
going_on further (Reaches texts) = further texts

-- a text behind those reached before, where it is not among them
abbrev pub with_reached : List ℕ → ℕ → List ℕ
with_reached texts id = if list_any (λ reached. id == reached) texts then texts else texts ++ id ∷ []

abbrev pub with_found : List ℕ → Option ℕ → Reached
with_found texts None = Reaches texts
with_found texts (Some id) = Reaches (with_reached texts id)

-- a reference by what its name finds
abbrev pub reached_by : Known → List ℕ → List ℕ → Found → Reached
reached_by known texts name (Present file) = with_found texts (id_of known file)
reached_by known texts name Absent = Reaches texts
reached_by known texts name (Unknown folder) = Wants (record { folder = folder; name = name })

-- the texts reached with a line of a file of this folder
abbrev pub line_reaches : Known → Folder → List ℕ → Line → Reached
line_reaches known folder texts (Ref colour placement (Some name)) = reached_by known texts name (find (known_map known) folder name)
line_reaches known folder texts line = Reaches texts

-- with its lines in order
abbrev pub lines_reach : Known → Folder → List ℕ → List (List ℕ) → Reached
lines_reach known folder texts [] = Reaches texts
lines_reach known folder texts (line ∷ lines) =
    going_on (λ more. lines_reach known folder more lines) (line_reaches known folder texts (line_of line))

-- the lines of a text that stands; an absent one has none
abbrev pub lines_in : Text → List (List ℕ)
lines_in None = []
lines_in (Some lines) = lines

-- with the lines of a known file
abbrev pub file_reaches : Known → List ℕ → Option FileId → Text → Reached
file_reaches known texts None text = Reaches texts
file_reaches known texts (Some file) text = lines_reach known file.folder texts (lines_in text)

-- with the texts reached, from a place in their order on; each known text is gone through at most once
abbrev pub texts_reach : ℕ → Known → ℕ → List ℕ → Reached
texts_reach zero known place texts = Reaches texts
texts_reach (suc left) known place texts =
    elim (slice_get texts place) [ None ↦ Reaches texts | Some id ↦ going_on (texts_reach left known (suc place)) (file_reaches known texts (file_at known id) (lines_at known id)) ]

-- the texts that a root reaches, itself first, or the first file on the way that is not known
unfoldable pub reach : Known → FileId → Reached
reach known root =
    elim (id_of known root) [ None ↦ Wants root | Some id ↦ texts_reach (length known) known 0 (id ∷ []) ]

-- the file that is wanted next
abbrev pub wanted_in : Reached → Option FileId
wanted_in (Wants file) = Some file
wanted_in (Reaches texts) = None

abbrev pub wanted : Known → FileId → Option FileId
wanted known root = wanted_in (reach known root)
