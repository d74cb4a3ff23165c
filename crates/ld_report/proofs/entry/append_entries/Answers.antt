use Rattle.std.proofs.Common.{◌++◌, ap, ◌∙◌}
use Rattle.ld_colour.specs.Table.{counting}
use Rattle.ld_report.specs.Entries.{entries_text, entry_text}
use Rattle.ld_report.proofs.Extending.{appended, same, through}
use Rattle.ld_report.proofs.Growing.{all, more}
use Rattle.ld_report.proofs.entry.append_entries.Goals as goal

pub loop-entry-preserved : goal.loop-entry-preserved
loop-entry-preserved c =
    more (entry_text c.args.texts.now.known (counting c.args.table.now)) c.args.entries.now c.loop-entry.entry-index c.entry-item.result c.reserve.new.self.items c.loop-entry.into.items c.append_entry.new.into.items c.loop-entry-test.true c.entry-item.is c.loop-entry.invariant c.in_ok-append_entry.ensures.ok

pub returns-in_err-append_entry-clause-keeps : goal.returns-in_err-append_entry-clause-keeps
returns-in_err-append_entry-clause-keeps c =
    through _ _ _ (same _ _ c.in_ok-reserve.ensures.items) (through _ _ _ (appended _ _ _ c.loop-entry.invariant) c.in_err-append_entry.ensures.keeps)

pub returns-clause-ok : goal.returns-clause-ok
returns-clause-ok c =
    let entries = entries_text c.args.texts.now.known (counting c.args.table.now) c.args.entries.now in
    all (entry_text c.args.texts.now.known (counting c.args.table.now)) c.args.entries.now c.loop-entry.entry-index c.reserve.new.self.items c.loop-entry.into.items c.loop-entry-test.false c.loop-entry.invariant ∙ ap (λ list. list ++ entries) c.in_ok-reserve.ensures.items

pub returns-clause-keeps : goal.returns-clause-keeps
returns-clause-keeps c = through _ _ _ (same _ _ c.in_ok-reserve.ensures.items) (appended _ _ _ c.loop-entry.invariant)
