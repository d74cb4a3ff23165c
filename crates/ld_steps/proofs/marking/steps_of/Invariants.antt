use Rattle.std.proofs.Common.{◌≡◌, ◌≤◌}
use Rattle.ld_steps.specs.Inside.Marking.{IsMarked}
use Rattle.ld_steps.proofs.marking.steps_of.Given as goal

abbrev pub invariant-loop-line : goal.invariant-loop-line
invariant-loop-line l = record {
  passed : l.marking.passed ≡ l.line-index;
  ended : l.marking.ended ≤ l.marking.passed;
  marked : IsMarked l.lines l.marking;
}
