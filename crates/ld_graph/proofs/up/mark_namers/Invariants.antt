use Rattle.std.proofs.Common.{◌<◌, ◌⊎◌, ℕ, get_or}
use Rattle.std.specs.List.{Contains}
use Rattle.ld_graph.specs.Inside.Linking.{LooksAt}
use Rattle.ld_graph.specs.Inside.Marking.{IsMarked, MarksMore}
use Rattle.ld_graph.proofs.up.mark_namers.Given as goal

abbrev pub invariant-loop-user : goal.invariant-loop-user
invariant-loop-user l = record {
  more : MarksMore l.fn.marks l.marks;
  marked : (k : ℕ) → k < l.user-index → LooksAt l.links.items (get_or l.users k 0) l.text → IsMarked l.marks (get_or l.users k 0);
  only : (other : ℕ) → IsMarked l.marks other → IsMarked l.fn.marks other ⊎ Contains l.users other × LooksAt l.links.items other l.text;
}
