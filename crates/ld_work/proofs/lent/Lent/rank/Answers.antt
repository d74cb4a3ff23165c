use Rattle.std.proofs.Common.{◌≡◌, ◌≤◌, false, Some, sym, ◌∙◌, subst, arith, rules}
use Rattle.std.specs.Option.{is_some}
use Rattle.ld_texts.specs.Known.{file_at}
use Rattle.ld_cache.specs.Kept.{kept_of}
use Rattle.ld_work.specs.Inside.Staleness.{AreRanked, height_of, IsRanked}
use Rattle.ld_work.proofs.Agreed.{there-height}
use Rattle.ld_work.proofs.Ranks.{none-of, ranked-more}
use Rattle.ld_work.proofs.lent.Lent.rank.Goals as goal

pub returns-in_ok-insert-clause-ranked : goal.returns-in_ok-insert-clause-ranked
returns-in_ok-insert-clause-ranked c =
    let known = c.args.reader.now.texts.known in
    let depth = c.args.self.now.bounds.depth in
    let height : c.height-height.result ≡ height_of known depth c.args.text = c.height-height.ensures ∙ there-height c.graph_law.ensures known c.requires.may.distinct c.args.self.now.graph.now depth c.requires.may.items c.requires.may.depth c.args.text c.requires.present in
    let file : file_at known c.args.text.0 ≡ Some c.in_ok-copy.field-0 = search rules in
    let low : c.height-height.result ≤ depth = omega arith in
    let vacant : is_some (kept_of c.args.self.now.cache.now c.args.text) ≡ false = search rules in
    let rank : IsRanked known depth c.args.self.now.cache.now (c.height-height.result, c.in_ok-copy.field-0, c.args.text.0) = record { height = height; file = file; low = low; vacant = none-of (kept_of c.args.self.now.cache.now c.args.text) vacant } in
    subst (AreRanked known depth c.args.self.now.cache.now) (sym c.in_ok-insert.ensures.keys) (ranked-more _ known depth c.args.self.now.cache.now c.args.ranks.now.keys _ c.requires.ranked rank)
