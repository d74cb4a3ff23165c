-- The kept expansions fit into the blocks.
use Rattle.std.proofs.Common.{◌*◌, ◌≤◌, List, [], ◌∷◌, Option, Some, None, arith}
use Rattle.std.specs.List.{sum_by}
use Rattle.std.proofs.lemmas.List.Sums.{sum_by-cons}
use Rattle.ld_entry.specs.declared.entry.Expansion.{Expansion}
use Rattle.ld_cache.specs.Kept.{blocks_in, entries_in}

-- an expansion has at most 256 entries for each of its blocks
entries_fit : (kept : Option Expansion) → entries_in kept ≤ 256 * blocks_in kept
entries_fit None = omega arith
entries_fit (Some expansion) = omega arith

pub together : (kept : List (Option Expansion)) → sum_by entries_in kept ≤ 256 * sum_by blocks_in kept
together [] = omega arith
together (one ∷ kept) = omega (arith, sum_by-cons entries_in one kept, sum_by-cons blocks_in one kept, entries_fit one, together kept)
