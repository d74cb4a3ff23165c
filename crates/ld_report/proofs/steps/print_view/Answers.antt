use Rattle.std.proofs.Common.{◌++◌, ap, ◌∙◌, sym}
use Rattle.ld_report.proofs.Lines.{words_of_view}
use Rattle.ld_report.proofs.steps.print_view.Goals as goal

pub returns-clause-ok : goal.returns-clause-ok
returns-clause-ok c = c.in_ok-print_turns.ensures.ok ∙ ap (λ words. c.args.into.now.items ++ words) (words_of_view c.args.view.now (sym c.is_empty.ensures ∙ c.if-is_empty.false))
