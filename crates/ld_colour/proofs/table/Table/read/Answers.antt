use Rattle.std.proofs.Common.{arith}
use Rattle.ld_line.specs.Cut.{lines_from}
use Rattle.ld_colour.specs.Table.{counting}
use Rattle.ld_colour.proofs.Tables.{at_start}
use Rattle.ld_colour.proofs.table.Table.read.Goals as goal

pub loop-line-init : goal.loop-line-init
loop-line-init c =
    (at_start (counting c.empty-table.result) c.args.bytes.now (lines_from c.unmarked-rest.result.now) c.empty-table.ensures c.unmarked-rest.ensures.lines, omega (arith, c.unmarked-rest.ensures.shorter))
