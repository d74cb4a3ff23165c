use Rattle.std.proofs.Common.{◌≡◌, ◌<◌, ◌⊎◌, ℕ, get_or, length}
use Rattle.std.specs.List.{Contains}
use Rattle.ld_graph.proofs.rise.lower_each.Given as goal

abbrev pub invariant-loop-text : goal.invariant-loop-text
invariant-loop-text l = record {
  size : length l.heights.items ≡ length l.fn.heights.items;
  low : (k : ℕ) → k < l.text-index → get_or l.heights.items (get_or l.list k 0) 0 ≡ 0;
  others : (text : ℕ) → Contains l.list text ⊎ (get_or l.heights.items text 0 ≡ get_or l.fn.heights.items text 0);
}
