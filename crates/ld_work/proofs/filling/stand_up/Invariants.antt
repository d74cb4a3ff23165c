use Rattle.std.proofs.Common.{◌≡◌, ◌≤◌, ◌+◌, ◌++◌, length, reverse}
use Rattle.std.specs.Vec.{vec_capacity}
use Rattle.ld_work.specs.Inside.Rounds.{readers_of}
use Rattle.ld_work.proofs.filling.stand_up.Given as goal

abbrev pub invariant-loop-desk : goal.invariant-loop-desk
invariant-loop-desk l = record {
  gathered : readers_of l.desks.items ++ reverse l.readers.items ≡ readers_of l.fn.desks.items;
  room : length l.desks.items + length l.readers.items ≤ vec_capacity l.readers;
}

abbrev pub decreases-loop-desk : goal.decreases-loop-desk
decreases-loop-desk l = length l.desks.items
