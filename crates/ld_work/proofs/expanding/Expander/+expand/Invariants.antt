use Rattle.std.proofs.Common.{◌≡◌, ◌≤◌, ◌+◌, ◌-◌, ◌*◌, length, None}
use Rattle.ld_entry.specs.Answers.{left_below}
use Rattle.ld_entry.specs.NumberedTexts.{known_texts}
use Rattle.ld_work.specs.Inside.Gathering.{Extends, Gathers, IsWithin}
use Rattle.ld_work.specs.Inside.Parsing.{AreParsed, IsParsedText, parsed_lines}
use Rattle.ld_work.proofs.Counted.{IsCounted}
use Rattle.ld_work.proofs.Passed.{gave}
use Rattle.ld_work.proofs.expanding.Expander.+expand.Given as goal

abbrev pub decreases-enter_file : goal.decreases-enter_file
decreases-enter_file l = 6 * left_below l.self.now.bounds.depth l.work.now.way.items

abbrev pub decreases-pass_reference : goal.decreases-pass_reference
decreases-pass_reference l = 6 * left_below l.self.now.bounds.depth l.work.now.way.items + 1

abbrev pub decreases-pass_line : goal.decreases-pass_line
decreases-pass_line l = 6 * left_below l.self.now.bounds.depth l.work.now.way.items + 2

abbrev pub decreases-pass_lines : goal.decreases-pass_lines
decreases-pass_lines l = 6 * left_below l.self.now.bounds.depth l.work.now.way.items + 3

abbrev pub decreases-pass_text : goal.decreases-pass_text
decreases-pass_text l = 6 * left_below l.self.now.bounds.depth l.work.now.way.items + 4

abbrev pub decreases-pass_file : goal.decreases-pass_file
decreases-pass_file l = 6 * left_below l.self.now.bounds.depth l.work.now.way.items + 5

abbrev pub invariant-pass_lines-loop-text : goal.invariant-pass_lines-loop-text
invariant-pass_lines-loop-text l = record {
  way : l.work.way.items ≡ l.fn.work.way.items;
  extends : Extends l.fn.work.entries.items l.work.entries.items;
  fits : IsWithin l.self.most l.work.entries.items None;
  gathers : Gathers l.self.most l.fn.work.entries.items l.work.entries.items None (gave (known_texts l.fn.reader.texts.known) (left_below l.self.bounds.depth l.fn.work.way.items) l.fn.work.way.items l.text l.before);
  all : AreParsed (known_texts l.fn.reader.texts.known) l.work.parsed;
  parsed : IsParsedText (known_texts l.fn.reader.texts.known) l.parsed;
  text : l.parsed.cursor.text ≡ l.text;
  within : l.before ≤ length l.parsed.lines.items;
  texts : l.reader.texts ≡ l.fn.reader.texts;
  reads : IsCounted (record { texts = known_texts l.fn.reader.texts.known; bounds = l.self.bounds; cache = l.self.cache.now }) (left_below l.self.bounds.depth l.fn.work.way.items) l.fn.work.way.items l.text l.fn.reader.reads l.reader.reads l.before;
}

abbrev pub decreases-pass_lines-loop-text : goal.decreases-pass_lines-loop-text
decreases-pass_lines-loop-text l = length (parsed_lines (known_texts l.fn.reader.texts.known) l.text) - l.before
