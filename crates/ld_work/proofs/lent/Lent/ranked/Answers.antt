use Rattle.std.proofs.Common.{◌+◌, sym, ◌∙◌, arith}
use Rattle.ld_work.proofs.Ranks.{present-at, ranked-next}
use Rattle.ld_work.proofs.lent.Lent.ranked.Goals as goal

pub rank-requires-clause-present : goal.rank-requires-clause-present
rank-requires-clause-present c =
    present-at c.args.reader.now.texts.known c.args.texts.now.keys c.loop-place.place c.in-Some.text c.requires.present (sym c.get_index.ensures.key ∙ sym c.copied.ensures ∙ c.in-Some.is)

pub loop-place-preserved : goal.loop-place-preserved
loop-place-preserved c =
    record {
      goes = ranked-next c.args.reader.now.texts.known c.args.self.now.bounds.depth c.args.self.now.cache.now c.loop-place.ranks.keys c.rank.new.ranks.keys _ c.args.texts.now.keys c.loop-place.place (c.loop-place.place + 1) c.in-Some.text (omega arith) (sym c.get_index.ensures.key ∙ sym c.copied.ensures ∙ c.in-Some.is) c.in_ok-rank.ensures.exactly c.loop-place.invariant.goes;
      ranked = c.in_ok-rank.ensures.ranked;
    }
