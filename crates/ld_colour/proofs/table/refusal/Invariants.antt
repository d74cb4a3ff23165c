use Rattle.std.proofs.Common.{◌≡◌, ◌+◌, ◌<◌, ◌^◌, length, map}
use Rattle.ld_line.specs.Cut.{lines_from}
use Rattle.ld_colour.specs.Definition.{colour_line}
use Rattle.ld_colour.specs.Table.{bad_in, definitions_from}
use Rattle.ld_colour.proofs.table.refusal.Given as goal

abbrev pub invariant-loop-line : goal.invariant-loop-line
invariant-loop-line l =
    (bad_in (definitions_from (l.number + 1) (map colour_line (lines_from l.rest))) ≡ bad_in (definitions_from (l.before + 1) (map colour_line (lines_from l.behind))))
    × (l.number + length l.rest < 2 ^ 32)

abbrev pub decreases-loop-line : goal.decreases-loop-line
decreases-loop-line l = length l.rest
