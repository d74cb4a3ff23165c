use Rattle.std.proofs.Common.{◌≡◌, ◌≤◌, ◌++◌, length}
use Rattle.ld_line.specs.Cut.{lines_from}
use Rattle.ld_mpd.specs.Blocks.{BeginsSame, behind_file, inside}
use Rattle.ld_mpd.proofs.cutting.lines_inside.Given as goal

abbrev pub invariant-loop-line : goal.invariant-loop-line
invariant-loop-line l = record {
  lines : l.lines.items ++ inside (lines_from l.rest) ≡ inside (lines_from l.text);
  left : BeginsSame (lines_from l.rest) (lines_from l.text);
  file : behind_file (lines_from l.rest) ≡ behind_file (lines_from l.text);
  shorter : length l.rest ≤ length l.text;
}

abbrev pub decreases-loop-line : goal.decreases-loop-line
decreases-loop-line l = length l.rest
