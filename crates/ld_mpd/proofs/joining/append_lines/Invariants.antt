use Rattle.std.proofs.Common.{◌≡◌, ◌++◌, length}
use Rattle.ld_line.specs.Word.{ended}
use Rattle.ld_mpd.proofs.joining.append_lines.Given as goal

abbrev pub invariant-loop-line : goal.invariant-loop-line
invariant-loop-line l = l.bytes.items ++ ended l.rest ≡ l.fn.bytes.items ++ ended l.lines

abbrev pub decreases-loop-line : goal.decreases-loop-line
decreases-loop-line l = length l.rest
