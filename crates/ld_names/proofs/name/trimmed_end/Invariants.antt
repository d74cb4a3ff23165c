use Rattle.std.proofs.Common.{◌≡◌, length}
use Rattle.ld_names.specs.Normal.{trim_end}
use Rattle.ld_names.proofs.name.trimmed_end.Given as goal

abbrev pub invariant-loop-last : goal.invariant-loop-last
invariant-loop-last l = trim_end l.rest ≡ trim_end l.text

abbrev pub decreases-loop-last : goal.decreases-loop-last
decreases-loop-last l = length l.rest
