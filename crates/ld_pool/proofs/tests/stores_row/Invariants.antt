use Rattle.ld_pool.specs.Runs.{AreLive}
use Rattle.ld_pool.proofs.tests.stores_row.Given as goal

abbrev pub invariant-loop-at : goal.invariant-loop-at
invariant-loop-at l = AreLive l.pool l.runs.items
