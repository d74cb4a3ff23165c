use Rattle.std.proofs.Common.{◌≡◌, length}
use Rattle.ld_line.specs.Cut.{lines_from}
use Rattle.ld_mpd.specs.Blocks.{behind_file}
use Rattle.ld_mpd.proofs.cutting.behind_file.Given as goal

abbrev pub invariant-loop-line : goal.invariant-loop-line
invariant-loop-line l = behind_file (lines_from l.rest) ≡ behind_file (lines_from l.text)

abbrev pub decreases-loop-line : goal.decreases-loop-line
decreases-loop-line l = length l.rest
