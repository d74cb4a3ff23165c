use Rattle.std.proofs.Common.{◌*◌, length, refl, arith}
use Rattle.ld_pool.specs.Inside.Blocks.{whole}
use Rattle.ld_pool.proofs.Runs.{fresh, fresh-runs}
use Rattle.ld_pool.proofs.pool.Pool.new.Goals as goal

pub invariant_of-result : goal.invariant_of-result
invariant_of-result g c =
    let lens = c.in_ok-lens.ensures.items_if_clones_equal (λ y e. e) in
    fresh c.in_ok-items.items.items c.args.blank _ c.in_ok-next.next.items c.in_ok-lens.lens.items c.args.blocks (omega arith) c.in_ok-items.ensures.items (omega (arith, c.in_ok-items.ensures.exact)) c.in_ok-next.ensures lens

pub returns : goal.returns
returns g c =
    let lens = c.in_ok-lens.ensures.items_if_clones_equal (λ y e. e) in
    rw (fresh-runs (whole c.in_ok-items.items.items c.args.blank (256 * length c.in_ok-next.next.items)) c.in_ok-next.next.items c.in_ok-lens.lens.items c.args.blocks lens) refl
