use Rattle.std.proofs.Common.{◌≡◌, ◌≤◌, ◌-◌, length}
use Rattle.std.specs.Vec.{vec_capacity}
use Rattle.ld_pool.specs.Inside.Blocks.{whole}
use Rattle.ld_pool.proofs.blocks.lengthen.Given as goal

abbrev pub invariant-loop-blank : goal.invariant-loop-blank
invariant-loop-blank g l = record {
  items : whole l.items.items l.blank l.len ≡ whole l.initial.items.items l.blank l.len;
  room : vec_capacity l.initial.items ≤ vec_capacity l.items;
}

abbrev pub decreases-loop-blank : goal.decreases-loop-blank
decreases-loop-blank g l = l.len - length l.items.items
