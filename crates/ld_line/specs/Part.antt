-- Part texts: Official Library Header Specification, "!LDRAW_ORG"; what counts as a part is this project's own.
use Rattle.std.specs.Prelude.{ℕ, Bool, true, false, List, [], ◌∷◌, map, Option, Some, None, unwrap_or}
use Rattle.ld_names.specs.declared.file.Folder.{Folder}
use Rattle.ld_names.specs.declared.file.Folder.TheVariants.{Model, Parts, P}
use Rattle.ld_line.specs.declared.line.Line.{Line}
use Rattle.ld_line.specs.declared.line.Line.TheVariants.{Org}
use Rattle.ld_line.specs.Reading.{line_of}

-- whether an !LDRAW_ORG line names the type of a part; None of every other line
abbrev pub header_of : Line → Option Bool
header_of (Org part) = Some part
header_of line = None

-- whether the first !LDRAW_ORG line names the type of a part
abbrev pub is_part_by_header : List Line → Bool
is_part_by_header [] = false
is_part_by_header (line ∷ lines) = unwrap_or (header_of line) (is_part_by_header lines)

-- whether a text in a folder is a part text
unfoldable pub is_part_text : Folder → List (List ℕ) → Bool
is_part_text Parts lines = true
is_part_text P lines = true
is_part_text (Model document) lines = is_part_by_header (map line_of lines)
