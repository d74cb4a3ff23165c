use Rattle.std.proofs.Common.{◌≡◌, ◌≤◌, ◌+◌, ◌++◌, length}
use Rattle.ld_line.specs.Cut.{lines_from}
use Rattle.ld_script.specs.Script.{commands_from, commands_of}
use Rattle.ld_script.proofs.script.read_script.Given as goal

abbrev pub invariant-loop-line : goal.invariant-loop-line
invariant-loop-line l =
    (l.commands.items ++ commands_from (l.number + 1) (lines_from l.rest) ≡ commands_of l.bytes)
    × (l.number + length l.rest ≤ length l.bytes)

abbrev pub decreases-loop-line : goal.decreases-loop-line
decreases-loop-line l = length l.rest
