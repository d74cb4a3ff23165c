-- What a root reaches, by the names that the graph lists.
use Rattle.std.specs.Prelude.{ℕ, List, [], ◌∷◌, IsSome, Option, Some, None, ⊤}
use Rattle.ld_names.specs.Standing.{Known}
use Rattle.ld_names.specs.declared.file.TextId.{TextId}
use Rattle.ld_texts.specs.Known.{lines_at}
use Rattle.ld_texts.specs.Reach.{with_reached}
use Rattle.ld_entry.specs.NumberedTexts.{NumberedTexts}
use Rattle.ld_graph.specs.Agreeing.{names_among}

abbrev pub names_in : Option (List (List ℕ)) → List (List ℕ)
names_in None = []
names_in (Some lines) = names_among lines

-- the names in the references of a text
abbrev pub names_listed : Known → TextId → List (List ℕ)
names_listed known text = names_in (lines_at known text.0)

abbrev pub with_text : List ℕ → Option TextId → List ℕ
with_text reached None = reached
with_text reached (Some text) = with_reached reached text.0

-- the texts reached with names in a text, in order
abbrev pub names_reach : NumberedTexts → TextId → List ℕ → List (List ℕ) → List ℕ
names_reach texts text reached [] = reached
names_reach texts text reached (name ∷ names) = names_reach texts text (with_text reached (texts.found text name)) names

-- each is there
abbrev pub ArePresent : Known → List ℕ → Type 0
ArePresent known [] = ⊤
ArePresent known (text ∷ texts) = IsSome (lines_at known text) × ArePresent known texts
