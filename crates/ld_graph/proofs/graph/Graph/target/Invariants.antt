use Rattle.std.proofs.Common.{◌≡◌, ◌-◌, ◌≤◌, [], take}
use Rattle.ld_graph.specs.Inside.Moving.{last_of}
use Rattle.ld_graph.proofs.graph.Graph.target.Given as goal

-- the moves so far are some of 63, and lead on to where all of them end
abbrev pub invariant-loop-count : goal.invariant-loop-count
invariant-loop-count l =
    (l.count ≤ 63)
    × (last_of (63 - l.count) l.reader.texts.known (take l.count l.before) l.last ≡ last_of 63 l.reader.texts.known [] l.fn.id)

abbrev pub decreases-loop-count : goal.decreases-loop-count
decreases-loop-count l = 63 - l.count
