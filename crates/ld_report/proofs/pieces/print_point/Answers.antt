use Rattle.ld_report.proofs.Extending.{after, same}
use Rattle.ld_report.proofs.pieces.print_point.Goals as goal

pub returns-in_err-print_dec-clause-keeps : goal.returns-in_err-print_dec-clause-keeps
returns-in_err-print_dec-clause-keeps c = same _ _ c.in_err-print_dec.ensures.err

pub returns-in_err-push-clause-keeps : goal.returns-in_err-push-clause-keeps
returns-in_err-push-clause-keeps c = after _ _ _ _ c.in_ok-print_dec.ensures.ok (same _ _ c.in_err-push.ensures.items)

pub returns-in_err-print_dec-2-clause-keeps : goal.returns-in_err-print_dec-2-clause-keeps
returns-in_err-print_dec-2-clause-keeps c = after _ _ _ _ c.in_ok-print_dec.ensures.ok (after _ _ _ _ c.in_ok-push.ensures.items (same _ _ c.in_err-print_dec-2.ensures.err))

pub returns-in_err-push-2-clause-keeps : goal.returns-in_err-push-2-clause-keeps
returns-in_err-push-2-clause-keeps c = after _ _ _ _ c.in_ok-print_dec.ensures.ok (after _ _ _ _ c.in_ok-push.ensures.items (after _ _ _ _ c.in_ok-print_dec-2.ensures.ok (same _ _ c.in_err-push-2.ensures.items)))
