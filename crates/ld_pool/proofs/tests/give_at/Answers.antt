use Rattle.std.proofs.Common.{length, sym, ap, subst, ◌∙◌}
use Rattle.std.specs.List.{remove}
use Rattle.ld_pool.specs.Runs.{AreOthers}
use Rattle.ld_pool.proofs.Live.{length-without, live-after, live_at, live-left, others-of}
use Rattle.ld_pool.proofs.tests.give_at.Goals as goal

pub len-len-requires : goal.len-len-requires
len-len-requires c =
    let run = c.remove-run.result in
    rw c.remove-run.ensures.value (live_at c.args.pool.now c.args.runs.now.items c.args.at run c.requires.within c.requires.live)

pub give_back-requires : goal.give_back-requires
give_back-requires c =
    let run = c.remove-run.result in
    rw c.remove-run.ensures.value (live_at c.args.pool.now c.args.runs.now.items c.args.at run c.requires.within c.requires.live)

pub returns-clause-live : goal.returns-clause-live
returns-clause-live c =
    let old = c.args.pool.now in
    let runs = c.args.runs.now.items in
    let run = c.remove-run.result in
    let beside : AreOthers old run (remove runs c.args.at) = subst (λ n. AreOthers old n (remove runs c.args.at)) (sym c.remove-run.ensures.value) (others-of old runs c.args.at run c.requires.within c.requires.live) in
    let left = live-left old runs c.args.at c.requires.live in
    rw c.remove-run.ensures.items (live-after old _ run (remove runs c.args.at) (ap (λ pool. length pool.runs) c.give_back.ensures.without ∙ length-without old run) c.give_back.ensures.others beside left)
