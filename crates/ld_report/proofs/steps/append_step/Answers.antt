use Rattle.std.proofs.Common.{◌++◌, append_assoc, ap, ◌∙◌}
use Rattle.ld_colour.specs.Table.{counting}
use Rattle.ld_steps.specs.Parts.{entries_in}
use Rattle.ld_report.specs.Entries.{entries_text}
use Rattle.ld_report.specs.Pieces.{line_text}
use Rattle.ld_report.specs.Steps.{step_heading}
use Rattle.ld_report.proofs.Extending.{appended, put, through}
use Rattle.ld_report.proofs.steps.append_step.Goals as goal

pub returns-clause-ok : goal.returns-clause-ok
returns-clause-ok c =
    let step = c.args.step.now in
    let known = c.args.texts.now.known in
    let table = counting c.args.table.now in
    let text = entries_text known table (entries_in c.args.answer_entries.now step) in
    let listed = c.in_ok-append_entries.ensures.ok ∙ ap (λ entries. c.print_step.new.into.items ++ entries_text known table entries) c.entries_in.ensures in
    put text listed c.in_ok-print_step.ensures.ok ∙ append_assoc c.args.into.now.items (line_text (step_heading c.args.number step)) text

pub returns-clause-keeps : goal.returns-clause-keeps
returns-clause-keeps c = appended _ _ _ (returns-clause-ok c)

pub returns-in_err-print_step-clause-keeps : goal.returns-in_err-print_step-clause-keeps
returns-in_err-print_step-clause-keeps c = c.in_err-print_step.ensures.keeps

pub returns-in_err-append_entries-clause-keeps : goal.returns-in_err-append_entries-clause-keeps
returns-in_err-append_entries-clause-keeps c = through _ _ _ c.in_ok-print_step.ensures.keeps c.in_err-append_entries.ensures.keeps
