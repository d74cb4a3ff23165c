-- Printed entries and faults, a line each, which are this project's own.
use Rattle.std.specs.Prelude.{ℕ, List, [], ◌∷◌, ◌++◌, Option, Some, None, codes, map, take}
use Rattle.std.specs.List.{flat_map}
use Rattle.ld_names.specs.Standing.{Known}
use Rattle.ld_line.specs.Kind.{points_in}
use Rattle.ld_line.specs.Reading.{line_of}
use Rattle.ld_line.specs.declared.line.Line.{Line}
use Rattle.ld_line.specs.declared.line.Line.TheVariants.{Ref}
use Rattle.ld_colour.specs.Table.{Counting, rgb_in}
use Rattle.ld_texts.specs.Known.{file_at, line_at}
use Rattle.ld_entry.specs.declared.entry.Entry.{Entry}
use Rattle.ld_entry.specs.declared.entry.Entry.TheVariants.{Drawn, Part}
use Rattle.ld_entry.specs.declared.entry.Fault.{Fault}
use Rattle.ld_entry.specs.declared.entry.What.{What}
use Rattle.ld_entry.specs.declared.entry.What.TheVariants.{Missing, Unnamed, Cycle, TooDeep, Range, Malformed, TooMany}
use Rattle.ld_report.specs.Pieces.{certified_text, clip_text, colour_text, kind_text, line_text, numbered_text, point_text, rgb_text, source_text, winding_text}

-- the words of an entry, over the known files and the colours that are defined
abbrev pub entry_words : Known → Counting → Entry → List (List ℕ)
entry_words known table (Drawn kind certified clip winding colour source points) =
    kind_text kind ∷ colour_text colour ∷ rgb_text (rgb_in table colour) ∷ certified_text certified ∷ clip_text clip ∷ winding_text winding ∷ (map point_text (take (points_in kind) points) ++ source_text known source ∷ [])
entry_words known table (Part file colour source) =
    codes "part" ∷ colour_text colour ∷ rgb_text (rgb_in table colour) ∷ numbered_text (file_at known file.0) ∷ codes "at" ∷ source_text known source ∷ []

unfoldable pub entry_text : Known → Counting → Entry → List ℕ
entry_text known table entry = line_text (entry_words known table entry)

abbrev pub entries_text : Known → Counting → List Entry → List ℕ
entries_text known table entries = flat_map (entry_text known table) entries

abbrev pub what_text : What → List ℕ
what_text Missing = codes "missing"
what_text Unnamed = codes "unnamed"
what_text Cycle = codes "cycle"
what_text TooDeep = codes "toodeep"
what_text Range = codes "range"
what_text Malformed = codes "malformed"
what_text TooMany = codes "toomany"

-- the name that a line refers to; nothing for a line that is no reference, and for a name without a normal form
abbrev pub reference_words : Line → List (List ℕ)
reference_words (Ref colour placement (Some name)) = name ∷ []
reference_words line = []

-- the name that stands at a source
abbrev pub words_at : Option (List ℕ) → List (List ℕ)
words_at (Some bytes) = reference_words (line_of bytes)
words_at None = []

-- a missing file and a cycle are told with the reference's name
abbrev pub named_words : What → Option (List ℕ) → List (List ℕ)
named_words Missing line = words_at line
named_words Cycle line = words_at line
named_words what line = []

abbrev pub fault_words : Known → Fault → List (List ℕ)
fault_words known fault =
    codes "fault" ∷ what_text fault.what ∷ source_text known fault.source ∷ named_words fault.what (line_at known fault.source.text.0 fault.source.line)

unfoldable pub fault_text : Known → Fault → List ℕ
fault_text known fault = line_text (fault_words known fault)
