use Rattle.std.proofs.Common.{◌≡◌, ◌-◌, ◌≤◌, [], length}
use Rattle.ld_engine.specs.Inside.Moving.{last_of}
use Rattle.ld_engine.proofs.moving.target.Given as goal

-- the moves so far are some of 63, and lead on to where all of them end
abbrev pub invariant-loop-alloc : goal.invariant-loop-alloc
invariant-loop-alloc l =
    (length l.before.items ≤ 63)
    × (last_of (63 - length l.before.items) l.texts.known l.before.items l.last ≡ last_of 63 l.texts.known [] l.fn.text)

abbrev pub decreases-loop-alloc : goal.decreases-loop-alloc
decreases-loop-alloc l = 63 - length l.before.items
