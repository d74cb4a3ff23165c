use Rattle.std.proofs.Common.{arith, ◌*◌, length}
use Rattle.ld_pool.specs.Inside.Blocks.{whole}
use Rattle.ld_pool.proofs.Runs.{length-runs_in, sum-runs}
use Rattle.ld_pool.proofs.pool.Pool.free.Goals as goal

pub returns-clause-sum : goal.returns-clause-sum
returns-clause-sum g c =
    let s = c.self.inside in
    let items = whole s.items.items s.blank (256 * length s.next.items) in
    let sums = sum-runs items s.next.items s.lens.items s.head s.free c.self.invariant.runs in
    let size = length-runs_in items s.next.items s.lens.items in
    rw (← c.self.view_is) (omega (arith, sums, size, c.self.invariant.runs.sum, c.self.invariant.runs.table))
