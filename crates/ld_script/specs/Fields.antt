-- Fields of a script's line, which are this project's own: one TAB stands between each two.
use Rattle.std.specs.Prelude.{◌==◌, ◌+◌, ℕ, zero, suc, Bool, List, [], ◌∷◌, Option, Some, None, option_map, position, take, drop}

abbrev pub is_tab : ℕ → Bool
is_tab byte = byte == 9

-- what stands before the first TAB of a line, and what stands behind it; None where there is none
unfoldable pub cut_at_tab : List ℕ → Option (List ℕ × List ℕ)
cut_at_tab line = option_map (λ place. (take place line, drop (place + 1) line)) (position is_tab line)

-- the fields of a line by how it is cut at its first TAB, and how what stands behind is
abbrev pub fields_by : List ℕ → (List ℕ → List (List ℕ)) → Option (List ℕ × List ℕ) → List (List ℕ)
fields_by line further None = line ∷ []
fields_by line further (Some cut) = cut.0 ∷ further cut.1

-- the fields before the first so many TABs, and the rest of the line
abbrev pub first_fields : ℕ → List ℕ → List (List ℕ)
first_fields zero line = line ∷ []
first_fields (suc more) line = fields_by line (first_fields more) (cut_at_tab line)

-- at most five fields: the fifth is all that stands behind the fourth TAB, further TABs included
abbrev pub tabbed : List ℕ → List (List ℕ)
tabbed line = first_fields 4 line
