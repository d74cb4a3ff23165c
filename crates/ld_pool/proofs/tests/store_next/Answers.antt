use Rattle.ld_pool.proofs.Live.{live-stored}
use Rattle.ld_pool.proofs.tests.store_next.Goals as goal

pub returns : goal.returns
returns c =
    rw c.in_ok-push.ensures.items (live-stored c.args.pool.now c.store.new.self c.in-Some.run' c.as_slice.result.now c.args.runs.now.items c.in-Some.ensures.some c.requires)
