-- The limits of a workspace and their bounds, which are this project's own.
use Rattle.std.specs.Prelude.{ℕ, Bool, ◌&&◌, nat_le, List, [], ◌∷◌, ◌+◌, Option, Some, None, if◌then◌else◌}
use Rattle.ld_engine.specs.declared.limits.Limits.{Limits}

-- a limit within its bounds
abbrev pub is_between : ℕ → ℕ → ℕ → Bool
is_between low high limit = nat_le low limit && nat_le limit high

-- the number of the first limit that is out of its bounds
abbrev pub first_out : ℕ → List Bool → Option ℕ
first_out number [] = None
first_out number (within ∷ more) = if within then first_out (number + 1) more else Some number

abbrev pub bad_limit : Limits → Option ℕ
bad_limit limits =
    first_out 1 (is_between 1 4000000 limits.entries ∷ is_between 1 64 limits.depth ∷ is_between 0 8000000 limits.cache ∷ is_between 1 65535 limits.texts ∷ is_between 1 33554432 limits.file_bytes ∷ is_between 1 268435456 limits.total_weight ∷ [])
