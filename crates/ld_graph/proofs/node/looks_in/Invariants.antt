use Rattle.std.proofs.Common.{length}
use Rattle.std.specs.List.{Contains}
use Rattle.ld_names.specs.Standing.{folders_of}
use Rattle.ld_graph.proofs.node.looks_in.Given as goal

abbrev pub invariant-loop-other : goal.invariant-loop-other
invariant-loop-other l = (Contains l.rest l.folder → Contains (folders_of l.fn.from) l.folder) × (Contains (folders_of l.fn.from) l.folder → Contains l.rest l.folder)

abbrev pub decreases-loop-other : goal.decreases-loop-other
decreases-loop-other l = length l.rest
