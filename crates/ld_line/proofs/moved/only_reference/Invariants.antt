use Rattle.std.proofs.Common.{◌≡◌, length, map, ◌+◌}
use Rattle.ld_line.specs.Moved.{only_reference}
use Rattle.ld_line.specs.Reading.{line_of}
use Rattle.ld_line.proofs.OneReference.{one_of}
use Rattle.ld_line.proofs.moved.only_reference.Given as goal

abbrev pub invariant-loop-line : goal.invariant-loop-line
invariant-loop-line l = (l.before + length l.rest ≡ length l.lines) × (one_of l.found l.before l.rest ≡ only_reference (map line_of l.lines))

abbrev pub decreases-loop-line : goal.decreases-loop-line
decreases-loop-line l = length l.rest
