use Rattle.std.proofs.Common.{◌≡◌, ◌+◌, ◌*◌, ℕ, suc, min, length}
use Rattle.ld_graph.specs.Inside.Rising.{AreBelow, AreSettled, HasFloor, slack}
use Rattle.ld_graph.specs.Items.{web_of}
use Rattle.ld_graph.proofs.rise.rise.Given as goal

abbrev pub invariant-loop-text : goal.invariant-loop-text
invariant-loop-text l = record {
  size : length l.heights.items ≡ length l.links.items;
  marks : length l.marks.marks ≡ length l.links.items;
  below : AreBelow (web_of l.links.items) l.cap l.heights.items;
  floors : (text : ℕ) → HasFloor (web_of l.links.items) l.cap l.heights.items text;
  settled : AreSettled (web_of l.links.items) l.cap l.heights.items l.marks;
}

abbrev pub decreases-loop-text : goal.decreases-loop-text
decreases-loop-text l = slack l.cap l.heights.items * suc (length l.marks.marks) + min (length l.marks.list) (length l.marks.marks)
