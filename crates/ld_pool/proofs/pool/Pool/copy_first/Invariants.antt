use Rattle.std.proofs.Common.{◌≡◌, ◌<◌, ◌*◌, ◌++◌, length, take}
use Rattle.ld_pool.specs.Inside.Blocks.{AreWithin, list_at, whole}
use Rattle.ld_pool.specs.Runs.{blocks_for, list_of}
use Rattle.ld_pool.proofs.pool.Pool.copy_first.Given as goal

abbrev pub invariant-loop-left : goal.invariant-loop-left
invariant-loop-left g l = record {
  items : l.into.items ++ list_at (whole l.self-inside.items.items l.self-inside.blank (256 * length l.self-inside.next.items)) l.self-inside.next.items l.block l.left ≡ l.initial.into.items ++ take l.count (list_of l.self l.run);
  within : 0 < l.left → l.block < length l.self-inside.next.items;
  stand : AreWithin l.self-inside.next.items (length l.self-inside.items.items) (blocks_for l.left) l.block;
}

abbrev pub decreases-loop-left : goal.decreases-loop-left
decreases-loop-left g l = l.left
