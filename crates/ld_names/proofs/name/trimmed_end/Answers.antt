use Rattle.std.proofs.Common.{ap, sym, ◌∙◌}
use Rattle.ld_names.specs.Normal.{trim_end}
use Rattle.ld_names.proofs.Trim.{trim_end-blank, trim_end-kept}
use Rattle.ld_names.proofs.name.trimmed_end.Goals as goal

pub loop-last-preserved : goal.loop-last-preserved
loop-last-preserved c =
    sym (trim_end-blank c.in-Some.more.now c.in-Some.last.now (cc)) ∙ ap trim_end (sym c.in-Some.ensures.cases.0) ∙ c.loop-last.invariant

pub returns-then-not-blank : goal.returns-then-not-blank
returns-then-not-blank c =
    let parts = c.in-Some.ensures.cases.0 in
    parts ∙ sym (trim_end-kept c.in-Some.more.now c.in-Some.last.now (cc)) ∙ ap trim_end (sym parts) ∙ c.loop-last.invariant
