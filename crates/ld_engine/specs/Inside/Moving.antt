-- Where parts moved to among the known texts, by their numbers.
use Rattle.std.specs.Prelude.{◌==◌, ◌++◌, ℕ, zero, suc, List, [], ◌∷◌, Option, Some, None, option_and_then, if◌then◌else◌}
use Rattle.std.specs.List.{list_any}
use Rattle.ld_names.specs.Standing.{Known}
use Rattle.ld_names.specs.declared.file.TextId.{TextId}
use Rattle.ld_line.specs.Moved.{name_in}
use Rattle.ld_line.specs.Reading.{line_of}
use Rattle.ld_texts.specs.Known.{is_part_at, line_at, moved_at}
use Rattle.ld_entry.specs.NumberedTexts.{known_texts}

-- the name on a line of a text, by the number of the line
abbrev pub name_at : Known → ℕ → ℕ → Option (List ℕ)
name_at known id number = option_and_then (λ line. name_in (line_of line)) (line_at known id number)

-- the name to which a text moved
abbrev pub moved_name_at : Known → ℕ → Option (List ℕ)
moved_name_at known id = option_and_then (name_at known id) (moved_at known id)

-- what is found, where it is a part text
abbrev pub part_only : Known → Option TextId → Option TextId
part_only known None = None
part_only known (Some file) = if is_part_at known file.0 then Some file else None

abbrev pub part_named : Known → TextId → List ℕ → Option TextId
part_named known from name = part_only known ((known_texts known).found from name)

-- the part text to which a text moved
abbrev pub part_behind : Known → TextId → Option TextId
part_behind known text = option_and_then (part_named known text) (moved_name_at known text.0)

-- a text that is not among these
abbrev pub unless_among : List TextId → TextId → Option TextId
unless_among texts next = if list_any (λ on. on.0 == next.0) texts then None else Some next

-- the last of the texts that moves lead to, by those before the last, the last so far, and how many more there may be
abbrev pub last_of : ℕ → Known → List TextId → TextId → TextId
last_of zero known before last = last
last_of (suc more) known before last =
    elim (option_and_then (unless_among (before ++ last ∷ [])) (part_behind known last)) [ None ↦ last | Some next ↦ last_of more known (before ++ last ∷ []) next ]
