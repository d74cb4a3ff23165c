use Rattle.std.proofs.Common.{arith}
use Rattle.std.proofs.lemmas.Grind.{common_steps}
use Rattle.ld_report.proofs.Extending.{through}
use Rattle.ld_report.proofs.steps.append_steps.Goals as goal

pub returns-in_err-append_step-clause-keeps : goal.returns-in_err-append_step-clause-keeps
returns-in_err-append_step-clause-keeps c = through _ _ _ c.loop-before.invariant.kept c.in_err-append_step.ensures.keeps

pub loop-before-preserved : goal.loop-before-preserved
loop-before-preserved c = record {
  printed = grind (arith, common_steps);
  kept = through _ _ _ c.loop-before.invariant.kept c.in_ok-append_step.ensures.keeps;
}
