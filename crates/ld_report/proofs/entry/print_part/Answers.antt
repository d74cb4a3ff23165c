use Rattle.ld_report.proofs.Extending.{after, same}
use Rattle.ld_report.proofs.entry.print_part.Goals as goal

pub returns-in_err-push-clause-keeps : goal.returns-in_err-push-clause-keeps
returns-in_err-push-clause-keeps c = same _ _ c.in_err-push.ensures.items

pub returns-in_err-print_file-clause-keeps : goal.returns-in_err-print_file-clause-keeps
returns-in_err-print_file-clause-keeps c = after _ _ _ _ c.in_ok-push.ensures.items c.in_err-print_file.ensures.keeps
