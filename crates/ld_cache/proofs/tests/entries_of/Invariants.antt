use Rattle.std.proofs.Common.{◌≡◌, length}
use Rattle.ld_cache.proofs.tests.entries_of.Given as goal

abbrev pub invariant-loop-place : goal.invariant-loop-place
invariant-loop-place l = length l.entries.items ≡ l.place
