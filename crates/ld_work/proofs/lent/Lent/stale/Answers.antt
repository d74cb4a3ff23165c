use Rattle.std.proofs.Common.{ap, sym, ◌∙◌, subst}
use Rattle.std.specs.Ordering.{nat_cmp, ordering_then}
use Rattle.ld_work.specs.Filling.{Rank}
use Rattle.ld_work.specs.Inside.Staleness.{AreStale}
use Rattle.ld_work.proofs.Ordered.{are-stale}
use Rattle.ld_work.proofs.Ranks.{if-ok, stale-is}
use Rattle.ld_work.proofs.lent.Lent.stale.Goals as goal

pub returns-clause-exactly : goal.returns-clause-exactly
returns-clause-exactly c =
    let is = stale-is c.args.reader.now.texts.known c.args.self.now.bounds.depth c.args.self.now.cache.now c.args.root c.in_ok-reached.reached.keys c.in_ok-ranks.ranks.keys c.in_ok-reached.ensures.exactly c.in_ok-ranks.ensures.exactly in
    if-ok c.texts_in_order.result (λ texts given. given ∙ is) c.texts_in_order.ensures

pub returns-clause-stale : goal.returns-clause-stale
returns-clause-stale c =
    let are = are-stale c.args.reader.now.texts.known c.args.self.now.bounds.depth c.args.self.now.cache.now _ (λ (x y : Rank). ap (λ o. ordering_then (ordering_then (nat_cmp x.0 y.0) o) (nat_cmp x.2 y.2)) (c.file_laws.ensures.order x.1 y.1)) c.number_law.ensures c.requires.room c.in_ok-ranks.ranks.keys c.in_ok-ranks.ensures.ranked c.len.ensures.ordered in
    if-ok c.texts_in_order.result (λ texts given. subst (AreStale c.args.reader.now.texts.known c.args.self.now.bounds.depth c.args.self.now.cache.now) (sym given) are) c.texts_in_order.ensures
