use Rattle.std.proofs.Common.{◌≡◌, length}
use Rattle.ld_pool.proofs.tests.list_of.Given as goal

abbrev pub invariant-loop-place : goal.invariant-loop-place
invariant-loop-place l = length l.list.items ≡ l.place
