use Rattle.std.proofs.Common.{◌≡◌, ◌≤◌, ◌-◌, [], length}
use Rattle.ld_entry.specs.Answers.{left_below}
use Rattle.ld_entry.specs.NumberedTexts.{known_texts}
use Rattle.ld_work.specs.Inside.Parsing.{AreParsed, IsAt}
use Rattle.ld_work.proofs.Counted.{IsCounted}
use Rattle.ld_work.proofs.Rooted.{IsRooted}
use Rattle.ld_work.proofs.expanding.Expander.expand.Given as goal

abbrev pub invariant-loop-work : goal.invariant-loop-work
invariant-loop-work l = record {
  way : l.work.way.items ≡ [];
  parsed : AreParsed (known_texts l.fn.reader.texts.known) l.work.parsed;
  at : IsAt (known_texts l.fn.reader.texts.known) l.cursor;
  text : l.cursor.text ≡ l.text;
  lines : l.lines ≡ length ((known_texts l.fn.reader.texts.known).lines l.text);
  within : l.cursor.before ≤ l.lines;
  texts : l.reader.texts ≡ l.fn.reader.texts;
  rooted : IsRooted l.self.most l.self.bounds.depth (known_texts l.fn.reader.texts.known) l.text l.work.entries.items l.ends.items l.cursor.before;
  reads : IsCounted (record { texts = known_texts l.fn.reader.texts.known; bounds = l.self.bounds; cache = l.self.cache.now }) (left_below l.self.bounds.depth []) [] l.text l.fn.reader.reads l.reader.reads l.cursor.before;
}

abbrev pub decreases-loop-work : goal.decreases-loop-work
decreases-loop-work l = l.lines - l.cursor.before
