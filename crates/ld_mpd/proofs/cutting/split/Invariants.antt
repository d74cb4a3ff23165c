use Rattle.std.proofs.Common.{◌≡◌, ◌++◌, length}
use Rattle.ld_line.specs.Cut.{lines_from}
use Rattle.ld_mpd.specs.Blocks.{begun_blocks, blocks_of, firsts}
use Rattle.ld_mpd.specs.Seen.{HasSeen}
use Rattle.ld_mpd.proofs.cutting.split.Given as goal

abbrev pub invariant-loop-line : goal.invariant-loop-line
invariant-loop-line l = record {
  blocks : l.found.blocks.items ++ firsts l.found.blocks.items (begun_blocks l.own (lines_from l.rest)) ≡ blocks_of l.own l.bytes;
  seen : HasSeen l.found.seen l.found.blocks.items;
}

abbrev pub decreases-loop-line : goal.decreases-loop-line
decreases-loop-line l = length l.rest
