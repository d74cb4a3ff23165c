use Rattle.std.proofs.Common.{◌≡◌, ◌++◌, length, map, take, drop}
use Rattle.ld_entry.specs.Laws.{tinted_entry}
use Rattle.ld_engine.proofs.answering.tint.Given as goal

abbrev pub invariant-loop-index : goal.invariant-loop-index
invariant-loop-index l = record {
  same : length l.entries.items ≡ length l.fn.entries.items;
  tinted : take l.index l.entries.items ++ map (tinted_entry l.colour) (drop l.index l.entries.items) ≡ map (tinted_entry l.colour) l.fn.entries.items;
}
