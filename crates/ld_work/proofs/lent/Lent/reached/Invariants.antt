use Rattle.std.proofs.Common.{◌≡◌, ◌-◌, length}
use Rattle.ld_texts.specs.Reach.{Reaches, texts_reach}
use Rattle.ld_work.specs.Filling.{reached}
use Rattle.ld_work.specs.Inside.Reaching.{ArePresent}
use Rattle.ld_work.proofs.lent.Lent.reached.Given as goal

abbrev pub invariant-loop-place : goal.invariant-loop-place
invariant-loop-place l = record {
  goes : texts_reach (length l.fn.reader.texts.known - l.place) l.fn.reader.texts.known l.place l.texts.keys ≡ Reaches (reached l.fn.reader.texts.known l.fn.root);
  present : ArePresent l.fn.reader.texts.known l.texts.keys;
}
