use Rattle.std.proofs.Common.{◌≡◌, ◌++◌, length}
use Rattle.ld_line.specs.Cut.{lines_from, lines_of}
use Rattle.ld_line.proofs.cut.lines_of.Given as goal

abbrev pub invariant-loop-line : goal.invariant-loop-line
invariant-loop-line l = l.lines.items ++ lines_from l.rest ≡ lines_of l.bytes

abbrev pub decreases-loop-line : goal.decreases-loop-line
decreases-loop-line l = length l.rest
