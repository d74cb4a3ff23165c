use Rattle.std.proofs.Common.{◌≡◌, ◌<◌, ◌-◌, length}
use Rattle.ld_pool.specs.Inside.Blocks.{behind}
use Rattle.ld_pool.proofs.blocks.behind.Given as goal

abbrev pub invariant-loop : goal.invariant-loop
invariant-loop l = (behind l.next (l.count - l.counter) l.at ≡ behind l.next l.count l.block) × (l.at < length l.next)
