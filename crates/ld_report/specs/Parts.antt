-- The parts list: how often each part is used in each colour. It is this project's own.
use Rattle.std.specs.Prelude.{ℕ, ◌+◌, ◌==◌, ◌&&◌, not, Bool, List, [], ◌∷◌, Option, Some, None, count_by, decimal, filter, map}
use Rattle.std.specs.List.{filter_map, flat_map}
use Rattle.ld_names.specs.Standing.{Known}
use Rattle.ld_names.specs.declared.file.TextId.{TextId}
use Rattle.ld_colour.specs.declared.colour.Colour.{Colour}
use Rattle.ld_colour.specs.declared.colour.Colour.TheVariants.{Main, Edge, Code, EdgeOf, Direct}
use Rattle.ld_texts.specs.Known.{file_at}
use Rattle.ld_entry.specs.declared.entry.Entry.{Entry}
use Rattle.ld_entry.specs.declared.entry.Entry.TheVariants.{Drawn, Part}
use Rattle.ld_report.specs.Pieces.{colour_text, line_text, numbered_text}
use Rattle.ld_report.specs.declared.parts.PartCount.{PartCount}

-- a file and the colour in which it is used
abbrev pub Use : Type 0
Use = TextId × Colour

-- the kind of a colour and its number
abbrev pub colour_kind : Colour → ℕ
colour_kind Main = 0
colour_kind Edge = 1
colour_kind (Code code) = 2
colour_kind (EdgeOf code) = 3
colour_kind (Direct value) = 4

abbrev pub colour_number : Colour → ℕ
colour_number Main = 0
colour_number Edge = 0
colour_number (Code code) = code
colour_number (EdgeOf code) = code
colour_number (Direct value) = value

abbrev pub same_use : Use → Use → Bool
same_use used other = used.0.0 == other.0.0 && (colour_kind used.1 == colour_kind other.1 && colour_number used.1 == colour_number other.1)

-- what a part entry uses; a drawn entry uses no part
abbrev pub use_of : Entry → Option Use
use_of (Drawn kind certified clip winding colour source points) = None
use_of (Part file colour source) = Some (file, colour)

abbrev pub uses_in : List Entry → List Use
uses_in entries = filter_map use_of entries

-- counts but for those of a use
abbrev pub but_for : Use → List (Use × ℕ) → List (Use × ℕ)
but_for used counts = filter (λ count. not (same_use used count.0)) counts

-- each use in the order in which it comes first, and how often it comes
abbrev pub tallied : List Use → List (Use × ℕ)
tallied [] = []
tallied (used ∷ uses) = (used, 1 + count_by (same_use used) uses) ∷ but_for used (tallied uses)

abbrev pub part_of : Use × ℕ → PartCount
part_of count = record { file = count.0.0; colour = count.0.1; count = count.1 }

-- the parts list of entries
unfoldable pub parts_of : List Entry → List PartCount
parts_of entries = map part_of (tallied (uses_in entries))

-- how often, the colour and the file
abbrev pub part_words : Known → PartCount → List (List ℕ)
part_words known part = decimal part.count ∷ colour_text part.colour ∷ numbered_text (file_at known part.file.0) ∷ []

unfoldable pub parts_text : Known → List PartCount → List ℕ
parts_text known parts = flat_map (λ part. line_text (part_words known part)) parts
