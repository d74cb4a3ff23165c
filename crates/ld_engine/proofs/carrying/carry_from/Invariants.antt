use Rattle.std.proofs.Common.{◌≡◌, ◌++◌, length, map, take, drop, Ok}
use Rattle.ld_entry.specs.Carrying.{above_of, carried_outcome}
use Rattle.ld_engine.proofs.carrying.carry_from.Given as goal

abbrev pub invariant-loop-index : goal.invariant-loop-index
invariant-loop-index l = record {
  same : length l.entries.items ≡ length l.fn.entries.items;
  carried : map Ok (take l.index l.entries.items) ++ map (carried_outcome (above_of l.outer)) (map Ok (drop l.index l.entries.items)) ≡ map Ok (take l.start l.fn.entries.items) ++ map (carried_outcome (above_of l.outer)) (map Ok (drop l.start l.fn.entries.items));
}
