use Rattle.std.proofs.Common.{◌≡◌, ◌++◌, take}
use Rattle.ld_report.specs.Findings.{findings_text}
use Rattle.ld_report.proofs.findings.append_findings.Given as goal

abbrev pub invariant-loop-finding : goal.invariant-loop-finding
invariant-loop-finding l = l.into.items ≡ l.initial.into.items ++ findings_text (take l.finding-index l.findings)
