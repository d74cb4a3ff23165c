use Rattle.std.proofs.Common.{◌≡◌, ◌++◌, length}
use Rattle.ld_graph.specs.Agreeing.{names_among}
use Rattle.ld_graph.proofs.names.push_names.Given as goal

abbrev pub invariant-loop-line : goal.invariant-loop-line
invariant-loop-line l = l.into.items ++ names_among l.rest ≡ l.initial.into.items ++ names_among l.lines

abbrev pub decreases-loop-line : goal.decreases-loop-line
decreases-loop-line l = length l.rest
