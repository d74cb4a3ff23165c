use Rattle.std.proofs.Common.{◌≡◌, ◌<◌, ℕ, Some, get_or}
use Rattle.ld_graph.specs.Inside.Linking.{found_by_name}
use Rattle.ld_graph.specs.Inside.Rising.{AreBelow, IsSettled, Raises}
use Rattle.ld_graph.specs.Items.{web_of}
use Rattle.ld_graph.proofs.rise.lift_users.Given as goal

abbrev pub invariant-loop-user : goal.invariant-loop-user
invariant-loop-user l = record {
  raises : Raises l.cap l.fn.heights.items l.heights.items l.fn.marks l.marks;
  below : AreBelow (web_of l.links.items) l.cap l.heights.items;
  settled : (k : ℕ) → k < l.user-index → (child : ℕ) → found_by_name l.links.items (get_or l.users k 0) l.text ≡ Some child → IsSettled l.cap l.heights.items l.marks (get_or l.users k 0) child;
}
