use Rattle.std.proofs.Common.{◌≡◌, ◌≤◌, ◌+◌, ◌++◌, length, map}
use Rattle.std.specs.Vec.{vec_capacity}
use Rattle.ld_work.specs.Filling.{ranked_text}
use Rattle.ld_work.proofs.stale.texts_in_order.Given as goal

abbrev pub invariant-loop-text : goal.invariant-loop-text
invariant-loop-text l = record {
  gathered : l.texts.items ++ map ranked_text l.ranks.keys ≡ map ranked_text l.fn.ranks.keys;
  room : length l.ranks.keys + length l.texts.items ≤ vec_capacity l.texts;
}

abbrev pub decreases-loop-text : goal.decreases-loop-text
decreases-loop-text l = length l.ranks.keys
