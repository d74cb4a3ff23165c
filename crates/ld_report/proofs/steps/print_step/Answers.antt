use Rattle.std.proofs.Common.{◌-◌, decimal, rules}
use Rattle.ld_report.specs.Steps.{view_words}
use Rattle.ld_report.proofs.Extending.{after, appended, same, through}
use Rattle.ld_report.proofs.Lines.{step_line}
use Rattle.ld_report.proofs.steps.print_step.Goals as goal

pub returns-clause-ok : goal.returns-clause-ok
returns-clause-ok c =
    let line = step_line c.args.into.now.items (decimal c.args.number) (decimal (c.args.step.now.end - c.args.step.now.first)) (view_words c.args.step.now.view) in rw (← line) (search rules)

pub returns-clause-keeps : goal.returns-clause-keeps
returns-clause-keeps c = appended _ _ _ (returns-clause-ok c)

pub returns-in_err-print_number-2-clause-keeps : goal.returns-in_err-print_number-2-clause-keeps
returns-in_err-print_number-2-clause-keeps c =
    after _ _ _ _ c.in_ok-extend_from_slice.ensures.items (through _ _ _ c.in_ok-print_number.ensures.keeps (after _ _ _ _ c.in_ok-extend_from_slice-2.ensures.items c.in_err-print_number-2.ensures.keeps))

pub returns-in_err-extend_from_slice-3-clause-keeps : goal.returns-in_err-extend_from_slice-3-clause-keeps
returns-in_err-extend_from_slice-3-clause-keeps c =
    after _ _ _ _ c.in_ok-extend_from_slice.ensures.items (through _ _ _ c.in_ok-print_number.ensures.keeps (after _ _ _ _ c.in_ok-extend_from_slice-2.ensures.items (through _ _ _ c.in_ok-print_number-2.ensures.keeps (same _ _ c.in_err-extend_from_slice-3.ensures.items))))

pub returns-in_err-print_view-clause-keeps : goal.returns-in_err-print_view-clause-keeps
returns-in_err-print_view-clause-keeps c =
    after _ _ _ _ c.in_ok-extend_from_slice.ensures.items (through _ _ _ c.in_ok-print_number.ensures.keeps (after _ _ _ _ c.in_ok-extend_from_slice-2.ensures.items (through _ _ _ c.in_ok-print_number-2.ensures.keeps (after _ _ _ _ c.in_ok-extend_from_slice-3.ensures.items c.in_err-print_view.ensures.keeps))))

pub returns-in_err-push-clause-keeps : goal.returns-in_err-push-clause-keeps
returns-in_err-push-clause-keeps c =
    after _ _ _ _ c.in_ok-extend_from_slice.ensures.items (through _ _ _ c.in_ok-print_number.ensures.keeps (after _ _ _ _ c.in_ok-extend_from_slice-2.ensures.items (through _ _ _ c.in_ok-print_number-2.ensures.keeps (after _ _ _ _ c.in_ok-extend_from_slice-3.ensures.items (through _ _ _ c.in_ok-print_view.ensures.keeps (same _ _ c.in_err-push.ensures.items))))))

pub returns-in_err-extend_from_slice-clause-keeps : goal.returns-in_err-extend_from_slice-clause-keeps
returns-in_err-extend_from_slice-clause-keeps c = same _ _ c.in_err-extend_from_slice.ensures.items

pub returns-in_err-print_number-clause-keeps : goal.returns-in_err-print_number-clause-keeps
returns-in_err-print_number-clause-keeps c = after _ _ _ _ c.in_ok-extend_from_slice.ensures.items c.in_err-print_number.ensures.keeps

pub returns-in_err-extend_from_slice-2-clause-keeps : goal.returns-in_err-extend_from_slice-2-clause-keeps
returns-in_err-extend_from_slice-2-clause-keeps c = after _ _ _ _ c.in_ok-extend_from_slice.ensures.items (through _ _ _ c.in_ok-print_number.ensures.keeps (same _ _ c.in_err-extend_from_slice-2.ensures.items))
