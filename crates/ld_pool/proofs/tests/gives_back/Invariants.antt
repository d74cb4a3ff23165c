use Rattle.std.proofs.Common.{length}
use Rattle.ld_pool.specs.Runs.{AreLive}
use Rattle.ld_pool.proofs.tests.gives_back.Given as goal

abbrev pub invariant-loop-at : goal.invariant-loop-at
invariant-loop-at l = AreLive l.pool l.runs.items

abbrev pub invariant-loop-runs : goal.invariant-loop-runs
invariant-loop-runs l = AreLive l.pool l.runs.items

abbrev pub decreases-loop-runs : goal.decreases-loop-runs
decreases-loop-runs l = length l.runs.items
