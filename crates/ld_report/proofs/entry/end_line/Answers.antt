use Rattle.std.proofs.Common.{append_assoc, codes, ◌∙◌}
use Rattle.ld_report.specs.Pieces.{source_text}
use Rattle.ld_report.proofs.Extending.{appended, put, same, through}
use Rattle.ld_report.proofs.entry.end_line.Goals as goal

pub returns-in_err-print_source-clause-keeps : goal.returns-in_err-print_source-clause-keeps
returns-in_err-print_source-clause-keeps c = c.in_err-print_source.ensures.keeps

pub returns-in_err-push-clause-keeps : goal.returns-in_err-push-clause-keeps
returns-in_err-push-clause-keeps c = through _ _ _ c.in_ok-print_source.ensures.keeps (same _ _ c.in_err-push.ensures.items)

pub returns-clause-ok : goal.returns-clause-ok
returns-clause-ok c =
    put (codes "\n") c.in_ok-push.ensures.items c.in_ok-print_source.ensures.ok ∙ append_assoc c.args.into.now.items (source_text c.args.texts.now.known c.args.source) (codes "\n")

pub returns-clause-keeps : goal.returns-clause-keeps
returns-clause-keeps c = appended _ _ _ (returns-clause-ok c)
