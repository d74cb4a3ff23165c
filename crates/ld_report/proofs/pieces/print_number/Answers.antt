use Rattle.std.proofs.Common.{ap, ◌∙◌, sym, ◌++◌}
use Rattle.std.proofs.lemmas.Fmt.{decimal_digit}
use Rattle.ld_report.proofs.pieces.print_number.Goals as goal

pub returns-then-number-lt10-clause-ok : goal.returns-then-number-lt10-clause-ok
returns-then-number-lt10-clause-ok c =
    c.in_ok-push.ensures.items ∙ ap (λ digits. c.args.into.now.items ++ digits) (sym (decimal_digit c.args.number c.if-number-lt10.true))
