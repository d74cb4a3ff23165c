use Rattle.std.proofs.Common.{◌≡◌, ◌++◌, take}
use Rattle.ld_colour.specs.Table.{counting}
use Rattle.ld_report.specs.Entries.{entries_text}
use Rattle.ld_report.proofs.entry.append_entries.Given as goal

abbrev pub invariant-loop-entry : goal.invariant-loop-entry
invariant-loop-entry l = l.into.items ≡ l.initial.into.items ++ entries_text l.texts.known (counting l.table) (take l.entry-index l.entries)
