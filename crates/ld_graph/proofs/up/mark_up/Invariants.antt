use Rattle.std.proofs.Common.{◌≤◌, ◌-◌, length}
use Rattle.ld_graph.specs.Items.{web_of}
use Rattle.ld_graph.specs.Inside.Marking.{MarksMore}
use Rattle.ld_graph.proofs.Upward.{IsClosedTo, LeadsToFirst}
use Rattle.ld_graph.proofs.up.mark_up.Given as goal

abbrev pub invariant-loop-at : goal.invariant-loop-at
invariant-loop-at l = record {
  more : MarksMore l.fn.marks l.marks;
  at : l.at ≤ length l.marks.list;
  closed : IsClosedTo (web_of l.links.items) l.marks l.at;
  leads : LeadsToFirst (web_of l.links.items) l.fn.marks l.marks;
}

abbrev pub decreases-loop-at : goal.decreases-loop-at
decreases-loop-at l = length l.marks.marks - l.at
