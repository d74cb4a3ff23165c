use Rattle.ld_report.specs.Findings.{finding_words, findings_text}
use Rattle.ld_report.specs.Pieces.{line_text}
use Rattle.ld_report.proofs.Extending.{appended, through}
use Rattle.ld_report.proofs.Growing.{all, more_at}
use Rattle.ld_report.proofs.findings.append_findings.Goals as goal

pub loop-finding-preserved : goal.loop-finding-preserved
unfolding findings_text
loop-finding-preserved c =
    more_at (λ finding. line_text (finding_words finding)) c.args.findings.now c.loop-finding.finding-index (record { line = 0; rule = 0 }) c.args.into.now.items c.loop-finding.into.items c.print_finding.new.into.items c.loop-finding-test.true c.loop-finding.invariant c.in_ok-print_finding.ensures.ok

pub returns-in_err-print_finding-clause-keeps : goal.returns-in_err-print_finding-clause-keeps
returns-in_err-print_finding-clause-keeps c = through _ _ _ (appended _ _ _ c.loop-finding.invariant) c.in_err-print_finding.ensures.keeps

pub returns-clause-ok : goal.returns-clause-ok
unfolding findings_text
returns-clause-ok c =
    all (λ finding. line_text (finding_words finding)) c.args.findings.now c.loop-finding.finding-index c.args.into.now.items c.loop-finding.into.items c.loop-finding-test.false c.loop-finding.invariant

pub returns-clause-keeps : goal.returns-clause-keeps
returns-clause-keeps c = appended _ _ _ c.loop-finding.invariant
