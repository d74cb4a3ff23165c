use Rattle.std.proofs.Common.{◌++◌, ap, codes, decimal, ◌∙◌}
use Rattle.ld_texts.specs.Known.{file_at}
use Rattle.ld_report.specs.Pieces.{colour_text, numbered_text}
use Rattle.ld_report.proofs.Extending.{after, appended, put, same, through}
use Rattle.ld_report.proofs.Lines.{count_line}
use Rattle.ld_report.proofs.parts.print_part.Goals as goal

pub returns-clause-ok : goal.returns-clause-ok
returns-clause-ok c =
    let part = c.args.part.now in
    let old = c.args.into.now.items in
    let colour = colour_text part.colour in
    let file = numbered_text (file_at c.args.texts.now.known part.file.0) in
    let counted = c.in_ok-print_number.ensures.ok ∙ ap (λ count. old ++ decimal count) c.from.ensures in
    put (codes "\n") c.in_ok-push-3.ensures.items (put file c.in_ok-print_file.ensures.ok (put (codes " ") c.in_ok-push-2.ensures.items (put colour c.in_ok-print_colour.ensures.ok (put (codes " ") c.in_ok-push.ensures.items counted)))) ∙ count_line old (decimal part.count) colour file

pub returns-clause-keeps : goal.returns-clause-keeps
returns-clause-keeps c = appended _ _ _ (returns-clause-ok c)

pub returns-in_err-print_number-clause-keeps : goal.returns-in_err-print_number-clause-keeps
returns-in_err-print_number-clause-keeps c = c.in_err-print_number.ensures.keeps

pub returns-in_err-push-clause-keeps : goal.returns-in_err-push-clause-keeps
returns-in_err-push-clause-keeps c = through _ _ _ c.in_ok-print_number.ensures.keeps (same _ _ c.in_err-push.ensures.items)

pub returns-in_err-print_colour-clause-keeps : goal.returns-in_err-print_colour-clause-keeps
returns-in_err-print_colour-clause-keeps c = through _ _ _ c.in_ok-print_number.ensures.keeps (after _ _ _ _ c.in_ok-push.ensures.items c.in_err-print_colour.ensures.keeps)

pub returns-in_err-push-2-clause-keeps : goal.returns-in_err-push-2-clause-keeps
returns-in_err-push-2-clause-keeps c = through _ _ _ c.in_ok-print_number.ensures.keeps (after _ _ _ _ c.in_ok-push.ensures.items (through _ _ _ c.in_ok-print_colour.ensures.keeps (same _ _ c.in_err-push-2.ensures.items)))

pub returns-in_err-print_file-clause-keeps : goal.returns-in_err-print_file-clause-keeps
returns-in_err-print_file-clause-keeps c = through _ _ _ c.in_ok-print_number.ensures.keeps (after _ _ _ _ c.in_ok-push.ensures.items (through _ _ _ c.in_ok-print_colour.ensures.keeps (after _ _ _ _ c.in_ok-push-2.ensures.items c.in_err-print_file.ensures.keeps)))

pub returns-in_err-push-3-clause-keeps : goal.returns-in_err-push-3-clause-keeps
returns-in_err-push-3-clause-keeps c = through _ _ _ c.in_ok-print_number.ensures.keeps (after _ _ _ _ c.in_ok-push.ensures.items (through _ _ _ c.in_ok-print_colour.ensures.keeps (after _ _ _ _ c.in_ok-push-2.ensures.items (through _ _ _ c.in_ok-print_file.ensures.keeps (same _ _ c.in_err-push-3.ensures.items)))))
