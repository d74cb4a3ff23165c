-- What is answered where there is room for so many entries: this project's own.
use Rattle.std.specs.Prelude.{◌≡◌, ◌≤◌, ◌<◌, ℕ, length, Option, Some, None}
use Rattle.ld_entry.specs.declared.entry.Expansion.{Expansion}

-- the expansion, which has no more entries, or nothing, where it has more
abbrev pub FitsIn : ℕ → Expansion → Option Expansion → Type 0
FitsIn room wanted None = room < length wanted.entries
FitsIn room wanted (Some given) = (given ≡ wanted) × (length wanted.entries ≤ room)
