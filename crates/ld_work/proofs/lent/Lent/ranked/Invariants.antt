use Rattle.std.proofs.Common.{◌≡◌, [], drop}
use Rattle.ld_work.specs.Filling.{ranked}
use Rattle.ld_work.specs.Inside.Staleness.{AreRanked}
use Rattle.ld_work.proofs.lent.Lent.ranked.Given as goal

abbrev pub invariant-loop-place : goal.invariant-loop-place
invariant-loop-place l = record {
  goes : ranked l.fn.reader.texts.known l.fn.self.bounds.depth l.fn.self.cache.now l.ranks.keys (drop l.place l.fn.texts.keys) ≡ ranked l.fn.reader.texts.known l.fn.self.bounds.depth l.fn.self.cache.now [] l.fn.texts.keys;
  ranked : AreRanked l.fn.reader.texts.known l.fn.self.bounds.depth l.fn.self.cache.now l.ranks.keys;
}
