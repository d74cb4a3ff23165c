use Rattle.ld_line.proofs.Steps.{Kept}
use Rattle.ld_line.proofs.number.read_numbers.Given as goal

abbrev pub invariant-loop-i : goal.invariant-loop-i
invariant-loop-i l = Kept l.i l.count l.line l.rest l.values l.in_range
