use Rattle.std.proofs.Common.{◌≡◌, length}
use Rattle.ld_cache.proofs.tests.steps.Given as goal

abbrev pub invariant-loop-text : goal.invariant-loop-text
invariant-loop-text l = length l.cache.kept ≡ 3
