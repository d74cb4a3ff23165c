use Rattle.std.proofs.Common.{◌≡◌, ◌≤◌, ◌+◌, ◌++◌, length, reverse}
use Rattle.std.specs.Vec.{vec_capacity}
use Rattle.ld_work.specs.Inside.Rounds.{readers_of}
use Rattle.ld_work.proofs.filling.sit_down.Given as goal

abbrev pub invariant-loop-reader : goal.invariant-loop-reader
invariant-loop-reader l = record {
  gathered : l.readers.items ++ reverse (readers_of l.desks.items) ≡ l.fn.readers.items;
  capacity : vec_capacity l.readers ≡ vec_capacity l.fn.readers;
  room : length l.readers.items + length l.desks.items ≤ vec_capacity l.desks;
}

abbrev pub decreases-loop-reader : goal.decreases-loop-reader
decreases-loop-reader l = length l.readers.items
