use Rattle.std.proofs.Common.{◌≡◌, ◌+◌, ◌-◌, max, length}
use Rattle.std.specs.Vec.{vec_capacity}
use Rattle.ld_cache.specs.Inside.Table.{whole}
use Rattle.ld_cache.proofs.slot.put.Given as goal

abbrev pub invariant-loop-slots : goal.invariant-loop-slots
invariant-loop-slots l = record {
  slots : whole l.slots.items (l.text + 1) ≡ whole l.initial.slots.items (l.text + 1);
  len : max (length l.slots.items) (l.text + 1) ≡ max (length l.initial.slots.items) (l.text + 1);
  room : vec_capacity l.slots ≡ vec_capacity l.initial.slots;
}

abbrev pub decreases-loop-slots : goal.decreases-loop-slots
decreases-loop-slots l = l.text + 1 - length l.slots.items
