use Rattle.std.proofs.Common.{◌≡◌, ◌<◌, ◌≤◌, ◌⊎◌, ℕ, suc, min, get_or, length}
use Rattle.std.specs.List.{Contains}
use Rattle.ld_graph.specs.Inside.Rising.{AreBelow, HasFloor, height_in}
use Rattle.ld_graph.specs.Items.{web_of}
use Rattle.ld_graph.specs.Web.{Refers}
use Rattle.ld_graph.proofs.rise.lift_each.Given as goal

abbrev pub invariant-loop-text : goal.invariant-loop-text
invariant-loop-text l = record {
  size : length l.heights.items ≡ length l.fn.heights.items;
  below : AreBelow (web_of l.links.items) l.cap l.heights.items;
  others : (text : ℕ) → Contains l.list text ⊎ (height_in l.heights.items text ≡ height_in l.fn.heights.items text);
  floors : (k : ℕ) → k < l.text-index → HasFloor (web_of l.links.items) l.cap l.heights.items (get_or l.list k 0);
  settled : (k : ℕ) → k < l.text-index → (child : ℕ) → Refers (web_of l.links.items) (get_or l.list k 0) child → Contains l.list child ⊎ (min l.cap (suc (height_in l.heights.items child)) ≤ height_in l.heights.items (get_or l.list k 0));
}
