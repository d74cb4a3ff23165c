use Rattle.std.proofs.Common.{ap, ◌∙◌, arith}
use Rattle.ld_pool.specs.Inside.Blocks.{whole}
use Rattle.ld_pool.proofs.Blank.{whole-more}
use Rattle.ld_pool.proofs.blocks.lengthen.Goals as goal

pub loop-blank-preserved : goal.loop-blank-preserved
loop-blank-preserved g c =
    let items = c.loop-blank.items in
    record {
      items = ap (λ xs. whole xs c.args.blank c.args.len) c.push_reserved.ensures.items ∙ (whole-more items.items c.args.blank c.args.len (omega (arith, items.ok, c.loop-blank-test.true, c.len.ensures)) ∙ c.loop-blank.invariant.items);
      room = omega (arith, c.push_reserved.ensures.capacity, c.loop-blank.invariant.room);
    }
