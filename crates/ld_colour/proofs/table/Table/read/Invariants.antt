use Rattle.std.proofs.Common.{◌≡◌, ◌≤◌, ◌+◌, length, map}
use Rattle.ld_line.specs.Cut.{lines_from}
use Rattle.ld_colour.specs.Definition.{colour_line}
use Rattle.ld_colour.specs.Table.{counting, definitions_from, overruled, table_in}
use Rattle.ld_colour.proofs.table.Table.read.Given as goal

abbrev pub invariant-loop-line : goal.invariant-loop-line
invariant-loop-line l =
    (overruled (counting l.table) (definitions_from (l.number + 1) (map colour_line (lines_from l.rest))) ≡ table_in l.bytes)
    × (l.number + length l.rest ≤ length l.bytes)

abbrev pub decreases-loop-line : goal.decreases-loop-line
decreases-loop-line l = length l.rest
