use Rattle.std.proofs.Common.{◌≡◌, ◌++◌, codes, take}
use Rattle.std.specs.List.{flat_map}
use Rattle.ld_report.specs.Pieces.{point_text}
use Rattle.ld_report.proofs.entry.print_points.Given as goal

abbrev pub invariant-loop-point : goal.invariant-loop-point
invariant-loop-point l = l.into.items ≡ l.initial.into.items ++ flat_map (λ point. point_text point ++ codes " ") (take l.point-index l.points)
