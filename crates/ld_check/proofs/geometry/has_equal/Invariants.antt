use Rattle.std.proofs.Common.{◌≡◌, length}
use Rattle.ld_check.specs.Geometry.{has_equal}
use Rattle.ld_check.proofs.geometry.has_equal.Given as goal

abbrev pub invariant-loop-point : goal.invariant-loop-point
invariant-loop-point l = has_equal l.rest ≡ has_equal l.points

abbrev pub decreases-loop-point : goal.decreases-loop-point
decreases-loop-point l = length l.rest
