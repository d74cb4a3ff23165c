use Rattle.std.proofs.Common.{◌≡◌, take}
use Rattle.std.specs.List.{flat_map, range_with_len}
use Rattle.ld_check.specs.Findings.{findings_at}
use Rattle.ld_check.specs.Inside.Passing.{IsPassed}
use Rattle.ld_check.proofs.checking.check.Given as goal

abbrev pub invariant-loop-before : goal.invariant-loop-before
invariant-loop-before l = record {
  listed : l.findings.items ≡ flat_map (findings_at l.file l.lines) (range_with_len 1 l.before);
  passed : IsPassed l.passed (take l.before l.lines);
}
