use Rattle.std.proofs.Common.{◌≡◌, ◌++◌, map, take}
use Rattle.std.specs.List.{flat_map}
use Rattle.ld_num.specs.Text.{dec_text}
use Rattle.ld_line.specs.Printing.{coordinates}
use Rattle.ld_inline.specs.Inside.Shown.{following}
use Rattle.ld_inline.proofs.words.append_points.Given as goal

abbrev pub invariant-loop-point : goal.invariant-loop-point
invariant-loop-point l = l.into.items ≡ l.initial.into.items ++ following (map dec_text (flat_map coordinates (take l.point-index l.points)))
