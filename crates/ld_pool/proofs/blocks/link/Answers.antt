use Rattle.std.proofs.Common.{◌+◌, ◌-◌, min, sym, arith}
use Rattle.std.proofs.lemmas.List.FromFn.{map-range_with_len_more}
use Rattle.ld_pool.proofs.blocks.link.Goals as goal

pub loop-block-preserved : goal.loop-block-preserved
loop-block-preserved c =
    rw (c.in_ok-push.ensures.items, c.loop-block.invariant, c.min.ensures)
    (sym (map-range_with_len_more (λ b. min (b + 1) (c.args.blocks - 1)) 0 c.loop-block.block c.loop-block.block (omega arith)))
