-- Moves by the numbers of texts, with the names that a graph has of them.
use Rattle.std.specs.Prelude.{◌==◌, ◌++◌, ℕ, zero, suc, List, [], ◌∷◌, Option, Some, None, option_and_then, slice_get, if◌then◌else◌}
use Rattle.std.specs.List.{list_any}
use Rattle.ld_names.specs.Standing.{Known}
use Rattle.ld_names.specs.declared.file.TextId.{TextId}
use Rattle.ld_texts.specs.Known.{file_at, is_part_at, moved_at}
use Rattle.ld_graph.specs.Agreeing.{items_of_known}
use Rattle.ld_graph.specs.Items.{Names, names_at}
use Rattle.ld_graph.specs.Resolving.{resolved_from}
use Rattle.ld_graph.specs.declared.resolving.Resolved.{Resolved}
use Rattle.ld_graph.specs.declared.resolving.Resolved.TheVariants.{Text, Absent, Unknown}

-- the first of a text's names
abbrev pub first_name : Names → Option (List ℕ)
first_name names = option_and_then (λ all. slice_get all 0) names

-- the name to which a text moved; a moved text has one reference
abbrev pub moved_name_of : Names → Option ℕ → Option (List ℕ)
moved_name_of names line = option_and_then (λ number. first_name names) line

-- a text that a name comes to, where it is a part text
abbrev pub part_only : Known → Resolved → Option TextId
part_only known (Text id) = if is_part_at known id.0 then Some id else None
part_only known Absent = None
part_only known (Unknown folder) = None

abbrev pub part_named : Known → TextId → List ℕ → Option TextId
part_named known from name = part_only known (resolved_from known name (file_at known from.0))

-- the part text to which a text moved
abbrev pub part_behind : Known → TextId → Option TextId
part_behind known text = option_and_then (part_named known text) (moved_name_of (names_at (items_of_known known) text.0) (moved_at known text.0))

-- a text that is not among these
abbrev pub unless_among : List TextId → TextId → Option TextId
unless_among texts next = if list_any (λ on. on.0 == next.0) texts then None else Some next

-- the last of the texts that moves lead to, by those before the last, the last so far, and how many more there may be
abbrev pub last_of : ℕ → Known → List TextId → TextId → TextId
last_of zero known before last = last
last_of (suc more) known before last =
    elim (option_and_then (unless_among (before ++ last ∷ [])) (part_behind known last)) [ None ↦ last | Some next ↦ last_of more known (before ++ last ∷ []) next ]
