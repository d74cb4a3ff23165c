use Rattle.std.proofs.Common.{◌≡◌, ◌++◌, length}
use Rattle.std.specs.List.{fold}
use Rattle.ld_colour.specs.Table.{counting}
use Rattle.ld_inline.specs.Text.{entries_lines, lines_text, stands_behind}
use Rattle.ld_inline.proofs.inlining.append_entries.Given as goal

abbrev pub invariant-loop-entry : goal.invariant-loop-entry
invariant-loop-entry l = record {
  text : l.into.items ++ lines_text (entries_lines (counting l.table) l.stands l.rest) ≡ l.initial.into.items ++ lines_text (entries_lines (counting l.table) l.clip l.entries);
  stands : fold stands_behind l.stands l.rest ≡ fold stands_behind l.clip l.entries;
}

abbrev pub decreases-loop-entry : goal.decreases-loop-entry
decreases-loop-entry l = length l.rest
