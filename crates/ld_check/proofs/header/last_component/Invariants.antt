use Rattle.std.proofs.Common.{◌≡◌, length}
use Rattle.ld_check.specs.Header.{last_component}
use Rattle.ld_check.proofs.header.last_component.Given as goal

abbrev pub invariant-loop-behind : goal.invariant-loop-behind
invariant-loop-behind l = last_component l.rest ≡ last_component l.name

abbrev pub decreases-loop-behind : goal.decreases-loop-behind
decreases-loop-behind l = length l.rest
