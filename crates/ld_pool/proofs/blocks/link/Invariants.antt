use Rattle.std.proofs.Common.{◌≡◌, ◌+◌, ◌-◌, map, min}
use Rattle.std.specs.List.{range_with_len}
use Rattle.ld_pool.proofs.blocks.link.Given as goal

abbrev pub invariant-loop-block : goal.invariant-loop-block
invariant-loop-block l = l.next.items ≡ map (λ block. min (block + 1) (l.blocks - 1)) (range_with_len 0 l.block)
