use Rattle.std.proofs.Common.{rules}
use Rattle.ld_cache.proofs.Tables.{count-shown}
use Rattle.ld_cache.proofs.Whole.{count-whole}
use Rattle.ld_cache.proofs.cache.Cache.kept.Goals as goal

pub returns : goal.returns
returns c =
    let s = c.self.inside in
    rw (← c.self.view_is, count-shown s.pool _, count-whole s.slots.items _) (search rules)
