use Rattle.std.proofs.Common.{◌≡◌, ◌++◌, length}
use Rattle.ld_mpd.specs.Joining.{joined}
use Rattle.ld_mpd.specs.Laws.{AreNamed}
use Rattle.ld_mpd.proofs.joining.joined.Given as goal

abbrev pub invariant-loop-block : goal.invariant-loop-block
invariant-loop-block l = record {
  bytes : l.bytes.items ++ joined l.rest ≡ joined l.blocks;
  named : AreNamed l.rest → AreNamed l.blocks;
}

abbrev pub decreases-loop-block : goal.decreases-loop-block
decreases-loop-block l = length l.rest
