use Rattle.std.proofs.Common.{◌≡◌, ◌≤◌, ◌++◌, length, [], true}
use Rattle.std.specs.Prelude.{All}
use Rattle.ld_colour.specs.Table.{counting}
use Rattle.ld_inline.specs.Inside.Shown.{AreShownSteps}
use Rattle.ld_inline.specs.Text.{lines_text, steps_lines}
use Rattle.ld_inline.proofs.inlining.append_steps.Given as goal

abbrev pub invariant-loop-step : goal.invariant-loop-step
invariant-loop-step l = record {
  within : All (λ step. (step.first ≤ step.end) × (step.end ≤ length l.entries)) l.rest;
  text : l.into.items ++ lines_text (steps_lines (counting l.table) l.entries l.before l.clip l.rest) ≡ l.initial.into.items ++ lines_text (steps_lines (counting l.table) l.entries [] true l.steps);
  shown : AreShownSteps l.before l.rest → AreShownSteps [] l.steps;
}

abbrev pub decreases-loop-step : goal.decreases-loop-step
decreases-loop-step l = length l.rest
