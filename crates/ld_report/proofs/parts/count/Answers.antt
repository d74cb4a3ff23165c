use Rattle.std.proofs.Common.{◌≤◌, ap, ◌∙◌, arith, unwrap_or}
use Rattle.ld_report.specs.Counting.{total}
use Rattle.ld_report.proofs.Counts.{bounded, inserted}
use Rattle.ld_report.proofs.parts.count.Goals as goal

pub overflow_add-before : goal.overflow_add-before
overflow_add-before c =
    let small : c.unwrap_or-before.result ≤ total c.args.counts.now.entries = bounded _ c.use_law.ensures c.args.counts.now.entries c.args.used _ (c.unwrap_or-before.ensures ∙ ap (λ count. unwrap_or count 0) (c.copied.ensures ∙ c.get.ensures.value)) in omega arith

pub returns : goal.returns
returns c = inserted _ c.use_law.ensures c.args.counts.now.entries c.args.used _ (c.unwrap_or-before.ensures ∙ ap (λ count. unwrap_or count 0) (c.copied.ensures ∙ c.get.ensures.value)) _ c.in_ok-insert.ensures.entries
