use Rattle.std.proofs.Common.{◌≡◌, ◌≤◌, take}
use Rattle.ld_report.specs.Counting.{total}
use Rattle.ld_report.specs.Parts.{tallied, uses_in}
use Rattle.ld_report.proofs.parts.parts_list.Given as goal

abbrev pub invariant-loop-entry : goal.invariant-loop-entry
invariant-loop-entry l = record {
  counts : l.counts.entries ≡ tallied (uses_in (take l.entry-index l.entries));
  small : total l.counts.entries ≤ l.entry-index;
}
