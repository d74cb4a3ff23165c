use Rattle.std.proofs.Common.{◌≡◌, ◌++◌, length, map}
use Rattle.std.specs.List.{All}
use Rattle.std.specs.Vec.Iter.{into_iter_items}
use Rattle.ld_engine.specs.Inside.Ends.{IsWithin, part_by}
use Rattle.ld_engine.proofs.stepping.step_parts.Given as goal

abbrev pub invariant-loop-mark : goal.invariant-loop-mark
invariant-loop-mark l = record {
  within : All (IsWithin (length l.line_ends)) (into_iter_items l.rest);
  parts : l.parts.items ++ map (part_by l.line_ends) (into_iter_items l.rest) ≡ map (part_by l.line_ends) l.fn.marks.items;
}

abbrev pub decreases-loop-mark : goal.decreases-loop-mark
decreases-loop-mark l = length (into_iter_items l.rest)
