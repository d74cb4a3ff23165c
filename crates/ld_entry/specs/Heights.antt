-- How deep the references below a text go, and when a text is low under a way.
use Rattle.std.specs.Prelude.{◌≡◌, ◌≤◌, ◌+◌, ◌++◌, ℕ, zero, suc, max, List, [], ◌∷◌, length, Some, option_to_list, ⊤}
use Rattle.std.specs.List.{Contains}
use Rattle.ld_names.specs.declared.file.TextId.{TextId}
use Rattle.ld_line.specs.declared.line.Line.{Line}
use Rattle.ld_line.specs.declared.line.Line.TheVariants.{Ref}
use Rattle.ld_entry.specs.NumberedTexts.{NumberedTexts}

-- what the names in the references among lines of a text find
abbrev pub found_among : NumberedTexts → TextId → List Line → List TextId
found_among texts text [] = []
found_among texts text (Ref word placement (Some name) ∷ lines) = option_to_list (texts.found text name) ++ found_among texts text lines
found_among texts text (line ∷ lines) = found_among texts text lines

abbrev pub found_by : NumberedTexts → TextId → List TextId
found_by texts text = found_among texts text (texts.lines text)

abbrev pub Refers : NumberedTexts → TextId → TextId → Type 0
Refers texts text other = Contains (found_by texts text) other

abbrev pub tallest : (TextId → ℕ) → List TextId → ℕ
tallest heights [] = 0
tallest heights (text ∷ texts) = max (heights text) (tallest heights texts)

-- How many texts the longest walk from a text has, itself among them, where no more than a bound are counted. A text
-- that is absent finds nothing, and no reference finds it; so it has 1 here, and whoever knows which texts are present
-- may say 0.
unfoldable pub height : ℕ → NumberedTexts → TextId → ℕ
height zero texts text = 0
height (suc bound) texts text = suc (tallest (height bound texts) (found_by texts text))

-- texts of which each refers to the next
abbrev pub IsWalk : NumberedTexts → List TextId → Type 0
IsWalk texts [] = ⊤
IsWalk texts (text ∷ []) = ⊤
IsWalk texts (text ∷ next ∷ rest) = Refers texts text next × IsWalk texts (next ∷ rest)

-- references lead from a text, over these texts, to another, which is the last of them, or the text itself where there
-- are none
abbrev pub LeadsBy : NumberedTexts → List TextId → TextId → TextId → Type 0
LeadsBy texts [] text other = text ≡ other
LeadsBy texts (next ∷ rest) text other = Refers texts text next × LeadsBy texts rest next other

-- a text is low under a way, which ends before it
abbrev pub IsLow : NumberedTexts → ℕ → List TextId → TextId → Type 0
IsLow texts depth way text = length way + height (suc depth) texts text ≤ depth
