use Rattle.std.proofs.Common.{arith}
use Rattle.ld_cache.proofs.Forgetting.{all-forgotten}
use Rattle.ld_cache.proofs.Tables.{none-behind}
use Rattle.ld_cache.proofs.cache.Cache.forget.Goals as goal

pub returns : goal.returns
returns c =
    let s = c.self.inside in
    all-forgotten c.args.dirty.now c.args.self.now c.loop-text.self c.loop-text.text (λ text h. rw (← c.self.view_is) (none-behind s.pool s.slots.items s.slots.cap text (omega (arith, h, c.loop-text-test.false, s.slots.ok)))) c.loop-text.invariant
