use Rattle.std.proofs.Common.{◌≡◌, drop}
use Rattle.ld_entry.specs.NumberedTexts.{known_texts}
use Rattle.ld_work.specs.Inside.Reaching.{ArePresent, names_listed, names_reach}
use Rattle.ld_work.proofs.lent.Lent.reach_names.Given as goal

abbrev pub invariant-loop-index : goal.invariant-loop-index
invariant-loop-index l = record {
  goes : names_reach (known_texts l.fn.reader.texts.known) l.fn.text l.texts.keys (drop l.index (names_listed l.fn.reader.texts.known l.fn.text)) ≡ names_reach (known_texts l.fn.reader.texts.known) l.fn.text l.fn.texts.keys (names_listed l.fn.reader.texts.known l.fn.text);
  present : ArePresent l.fn.reader.texts.known l.texts.keys;
}
