use Rattle.std.proofs.Common.{◌≡◌, ◌+◌, ◌++◌, drop}
use Rattle.ld_colour.specs.Table.{counting}
use Rattle.ld_report.specs.Extending.{Extends}
use Rattle.ld_report.specs.Steps.{steps_from}
use Rattle.ld_report.proofs.steps.append_steps.Given as goal

-- what is printed so far, and the steps that are left, is all
abbrev pub invariant-loop-before : goal.invariant-loop-before
invariant-loop-before l = record {
  printed : l.into.items ++ steps_from l.texts.known (counting l.table) l.answer_entries (l.before + 1) (drop l.before l.steps)
      ≡ l.initial.into.items ++ steps_from l.texts.known (counting l.table) l.answer_entries 1 l.steps;
  kept : Extends l.initial.into.items l.into.items;
}
