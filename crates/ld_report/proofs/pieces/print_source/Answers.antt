use Rattle.ld_report.proofs.Extending.{after, same, through}
use Rattle.ld_report.proofs.pieces.print_source.Goals as goal

pub returns-in_err-print_file-clause-keeps : goal.returns-in_err-print_file-clause-keeps
returns-in_err-print_file-clause-keeps c = c.in_err-print_file.ensures.keeps

pub returns-in_err-push-clause-keeps : goal.returns-in_err-push-clause-keeps
returns-in_err-push-clause-keeps c = through _ _ _ c.in_ok-print_file.ensures.keeps (same _ _ c.in_err-push.ensures.items)

pub returns-clause-keeps : goal.returns-clause-keeps
returns-clause-keeps c = through _ _ _ c.in_ok-print_file.ensures.keeps (after _ _ _ _ c.in_ok-push.ensures.items c.print_number.ensures.keeps)
