use Rattle.std.proofs.Common.{◌≡◌, ◌<◌, ◌≤◌, ◌*◌, ℕ, length}
use Rattle.std.specs.Vec.{vec_capacity}
use Rattle.ld_pool.specs.Inside.Blocks.{AreWithin, behind, filled, whole}
use Rattle.ld_pool.specs.Runs.{blocks_for}
use Rattle.ld_pool.proofs.blocks.fill.Given as goal

abbrev pub invariant-loop-rest : goal.invariant-loop-rest
invariant-loop-rest g l = record {
  items : filled (whole l.items.items l.blank (256 * length l.next)) l.next (blocks_for (length l.rest)) l.at l.rest ≡ filled (whole l.initial.items.items l.blank (256 * length l.next)) l.next (blocks_for (length l.list)) l.block l.list;
  behind : behind l.next (blocks_for (length l.rest)) l.at ≡ behind l.next (blocks_for (length l.list)) l.block;
  within : l.at < length l.next;
  size : length l.items.items ≤ 256 * length l.next;
  longer : length l.initial.items.items ≤ length l.items.items;
  room : 256 * length l.next ≤ vec_capacity l.items;
  stand : (size : ℕ) → length l.items.items ≤ size → AreWithin l.next size (blocks_for (length l.rest)) l.at → AreWithin l.next size (blocks_for (length l.list)) l.block;
}

abbrev pub decreases-loop-rest : goal.decreases-loop-rest
decreases-loop-rest g l = length l.rest
