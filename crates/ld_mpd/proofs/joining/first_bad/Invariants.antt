use Rattle.std.proofs.Common.{◌≡◌, ◌+◌, List, [], length}
use Rattle.ld_mpd.specs.declared.block.Block.{Block}
use Rattle.ld_mpd.specs.Joining.{first_bad}
use Rattle.ld_mpd.specs.Seen.{HasSeen}
use Rattle.ld_mpd.proofs.joining.first_bad.Given as goal

-- what was seen are the blocks before the rest, whichever they are
abbrev pub invariant-loop-block : goal.invariant-loop-block
invariant-loop-block l = record {
  bad : (earlier : List Block) × HasSeen l.seen earlier × (first_bad (l.before + 1) earlier l.rest ≡ first_bad 1 [] l.blocks);
  place : l.before + length l.rest ≡ length l.blocks;
}

abbrev pub decreases-loop-block : goal.decreases-loop-block
decreases-loop-block l = length l.rest
