-- Uses as they are counted.
use Rattle.std.specs.Prelude.{ℕ, ◌+◌, List, [], ◌∷◌, Option, Some, None, if◌then◌else◌}
use Rattle.ld_report.specs.Parts.{Use, same_use}

-- counts with one use more
abbrev pub added : List (Use × ℕ) → Use → List (Use × ℕ)
added [] used = (used, 1) ∷ []
added (count ∷ counts) used = if same_use used count.0 then (count.0, count.1 + 1) ∷ counts else count ∷ added counts used

abbrev pub added_if : List (Use × ℕ) → Option Use → List (Use × ℕ)
added_if counts None = counts
added_if counts (Some used) = added counts used

-- how many uses are counted
abbrev pub total : List (Use × ℕ) → ℕ
total [] = 0
total (count ∷ counts) = count.1 + total counts
