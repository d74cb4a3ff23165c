use Rattle.std.proofs.Common.{◌≡◌, ◌≤◌, ◌+◌, ◌++◌, max, take, drop, get_or, ap, sym, ◌∙◌, subst}
use Rattle.ld_entry.specs.NumberedTexts.{known_texts}
use Rattle.ld_work.specs.Filling.{filled, reads_all}
use Rattle.ld_work.specs.Inside.Agreeing.{height_in}
use Rattle.ld_work.specs.Inside.Lent.{basis_at, CanFill}
use Rattle.ld_work.specs.Inside.Rounds.{AreAt, known_at, readers_of}
use Rattle.ld_work.specs.Inside.Staleness.{AreStale, height_of}
use Rattle.ld_work.specs.Readers.{AreOver, reads_together}
use Rattle.ld_work.proofs.Agreed.{one-level}
use Rattle.ld_work.proofs.Crewed.{keep-part, known-front, known-kept, over-front, over-kept, reads-part}
use Rattle.ld_work.proofs.Levels.{drop-behind, filled-on, filled-parts, round-step, stale-front}
use Rattle.ld_work.proofs.crew.Crew.fill.Goals as goal

pub round-requires-clause-over : goal.round-requires-clause-over
round-requires-clause-over g c κs within =
    let known : known_at (take c.round_size-count.result c.loop-rest.desks) ≡ known_at c.args.desks.now = known-front c.loop-rest.desks c.round_size-count.result c.round_size-count.ensures.some ∙ known-kept (readers_of c.args.desks.now) (readers_of c.loop-rest.desks) c.loop-rest.invariant.texts in
    subst (λ k. AreOver k (readers_of (take c.round_size-count.result c.loop-rest.desks))) (sym known) (over-front (known_at c.args.desks.now) c.loop-rest.desks c.round_size-count.result (over-kept (known_at c.args.desks.now) (readers_of c.args.desks.now) (readers_of c.loop-rest.desks) c.loop-rest.invariant.texts c.requires.over))

pub round-requires-clause-can : goal.round-requires-clause-can
round-requires-clause-can g c κs within =
    let known : known_at (take c.round_size-count.result c.loop-rest.desks) ≡ known_at c.args.desks.now = known-front c.loop-rest.desks c.round_size-count.result c.round_size-count.ensures.some ∙ known-kept (readers_of c.args.desks.now) (readers_of c.loop-rest.desks) c.loop-rest.invariant.texts in
    let can : CanFill (known_at c.args.desks.now) c.args.self.now.graph.now c.args.self.now.bounds c.loop-rest.cache = record { items = c.requires.can.items; depth = c.requires.can.depth; within = c.requires.can.within; right = c.loop-rest.invariant.right; distinct = c.requires.can.distinct } in
    subst (λ k. CanFill k c.args.self.now.graph.now c.args.self.now.bounds c.loop-rest.cache) (sym known) can

pub round-requires-clause-stale : goal.round-requires-clause-stale
round-requires-clause-stale g c κs within =
    let known : known_at (take c.round_size-count.result c.loop-rest.desks) ≡ known_at c.args.desks.now = known-front c.loop-rest.desks c.round_size-count.result c.round_size-count.ensures.some ∙ known-kept (readers_of c.args.desks.now) (readers_of c.loop-rest.desks) c.loop-rest.invariant.texts in
    let front = stale-front (known_at c.args.desks.now) c.args.self.now.bounds.depth c.loop-rest.cache c.split_at.result.0.now c.split_at.result.1.now (subst (AreStale (known_at c.args.desks.now) c.args.self.now.bounds.depth c.loop-rest.cache) c.split_at.ensures.by_index.0 c.loop-rest.invariant.stale) in
    subst (λ k. AreStale k c.args.self.now.bounds.depth c.loop-rest.cache c.split_at.result.0.now) (sym known) front

pub returns-in_err-round-clause-texts : goal.returns-in_err-round-clause-texts
returns-in_err-round-clause-texts g c =
    keep-part c.loop-rest.desks c.round.new.desks c.round_size-count.result c.in_err-round.ensures.texts ∙ c.loop-rest.invariant.texts

pub returns-in_err-round-clause-partly : goal.returns-in_err-round-clause-partly
returns-in_err-round-clause-partly g c =
    let known : known_at (take c.round_size-count.result c.loop-rest.desks) ≡ known_at c.args.desks.now = known-front c.loop-rest.desks c.round_size-count.result c.round_size-count.ensures.some ∙ known-kept (readers_of c.args.desks.now) (readers_of c.loop-rest.desks) c.loop-rest.invariant.texts in
    let some = c.in_err-round.ensures.partly.0 in
    let fills : c.round.new.cache ≡ filled (known_texts (known_at c.args.desks.now)) c.args.self.now.bounds c.loop-rest.cache (take some c.split_at.result.0.now) = subst (λ k. c.round.new.cache ≡ filled (known_texts k) c.args.self.now.bounds c.loop-rest.cache (take some c.split_at.result.0.now)) known c.in_err-round.ensures.partly.1 in
    filled-parts c.lower_law.ensures (known_at c.args.desks.now) c.args.self.now.bounds c.args.cache.now c.loop-rest.cache c.round.new.cache c.args.stale.now c.loop-rest.rest.now c.split_at.result.0.now c.split_at.result.1.now c.loop-rest.invariant.partly.0 some c.loop-rest.invariant.partly.1 c.loop-rest.invariant.partly.2 c.split_at.ensures.by_index.0 fills

pub loop-rest-preserved : goal.loop-rest-preserved
loop-rest-preserved g c =
    let all = known_at c.args.desks.now in
    let bounds = c.args.self.now.bounds in
    let cache = c.loop-rest.cache in
    let front = c.split_at.result.0.now in
    let more = c.split_at.result.1.now in
    let count = c.round_size-count.result in
    let known : known_at (take count c.loop-rest.desks) ≡ all = known-front c.loop-rest.desks count c.round_size-count.ensures.some ∙ known-kept (readers_of c.args.desks.now) (readers_of c.loop-rest.desks) c.loop-rest.invariant.texts in
    let keeps : c.round.new.cache ≡ filled (known_texts all) bounds cache front = subst (λ k. c.round.new.cache ≡ filled (known_texts k) bounds cache front) known c.in_ok-round.ensures.exactly in
    let level = height_in c.args.self.now.graph.now (get_or c.loop-rest.rest.now 0 (record { 0 = 0 })) in
    let at' : AreAt (height_in c.args.self.now.graph.now) level front = subst (AreAt (height_in c.args.self.now.graph.now) level) (sym c.split_at.ensures.front) c.round_size-count.ensures.level in
    let at : AreAt (height_of all bounds.depth) (max 1 level) front = one-level c.graph_law.ensures c.number_law.ensures all c.requires.can.distinct c.args.self.now.graph.now bounds.depth c.requires.can.items c.requires.can.depth level front at' in
    let few : reads_together (readers_of c.round.new.desks) ≤ reads_together (readers_of (take count c.loop-rest.desks)) + reads_all (basis_at all bounds cache) front = subst (λ k. reads_together (readers_of c.round.new.desks) ≤ reads_together (readers_of (take count c.loop-rest.desks)) + reads_all (basis_at k bounds cache) front) known c.in_ok-round.ensures.reads in
    let reads = reads-part c.loop-rest.desks c.round.new.desks count (reads_all (basis_at all bounds cache) front) few in
    let step = round-step c.lower_law.ensures all bounds (max 1 level) cache c.round.new.cache (filled (known_texts all) bounds c.args.cache.now c.args.stale.now) c.loop-rest.rest.now front more (reads_together (readers_of c.loop-rest.desks)) (reads_together (readers_of (c.round.new.desks ++ drop count c.loop-rest.desks))) _ c.split_at.ensures.by_index.0 at keeps c.loop-rest.invariant.right c.loop-rest.invariant.stale c.loop-rest.invariant.exactly reads c.loop-rest.invariant.reads in
    let done = c.loop-rest.invariant.partly.0 in
    let left : more ≡ drop (done + count) c.args.stale.now = c.split_at.ensures.back ∙ ap (drop count) c.loop-rest.invariant.partly.2 ∙ drop-behind c.args.stale.now done count in
    let front' : front ≡ take count (drop done c.args.stale.now) = c.split_at.ensures.front ∙ ap (take count) c.loop-rest.invariant.partly.2 in
    record {
      texts = keep-part c.loop-rest.desks c.round.new.desks count c.in_ok-round.ensures.texts ∙ c.loop-rest.invariant.texts;
      right = step.right;
      stale = step.stale;
      exactly = step.exactly;
      partly = (done + count, filled-on c.lower_law.ensures all bounds c.args.cache.now cache c.round.new.cache c.args.stale.now front done count c.loop-rest.invariant.partly.1 front' keeps, left);
      reads = step.few;
    }
