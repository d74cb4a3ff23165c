use Rattle.std.proofs.Common.{◌≡◌, ◌-◌, ◌+◌, suc, sym, ap, ◌∙◌, arith}
use Rattle.ld_pool.specs.Inside.Blocks.{behind}
use Rattle.ld_pool.proofs.Chains.{behind-more, behind-none}
use Rattle.ld_pool.proofs.blocks.behind.Goals as goal

pub loop-preserved : goal.loop-preserved
loop-preserved c =
    let next = c.args.next.now in
    let left : c.args.count - c.loop.counter ≡ suc (c.args.count - (c.loop.counter + 1)) = omega (arith, c.loop-test.true) in
    (sym (behind-more next (c.args.count - (c.loop.counter + 1)) c.loop.at) ∙ (ap (λ n. behind next n c.loop.at) (sym left) ∙ c.loop.invariant.0), c.requires.links.within c.loop.at c.loop.invariant.1)

pub returns-clause-behind : goal.returns-clause-behind
returns-clause-behind c =
    let next = c.args.next.now in
    let none : c.args.count - c.loop.counter ≡ 0 = omega (arith, c.loop-test.false) in
    sym (behind-none next c.loop.at) ∙ (ap (λ n. behind next n c.loop.at) (sym none) ∙ c.loop.invariant.0)
