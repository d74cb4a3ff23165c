use Rattle.std.proofs.Common.{◌≡◌, ◌==◌, ◌++◌, [], ◌∷◌, length}
use Rattle.std.specs.List.{list_any}
use Rattle.ld_graph.proofs.moving.is_among.Given as goal

abbrev pub invariant-loop-on : goal.invariant-loop-on
invariant-loop-on l = list_any (λ on. on.0 == l.text.0) (l.rest ++ l.last ∷ []) ≡ list_any (λ on. on.0 == l.text.0) (l.before ++ l.last ∷ [])

abbrev pub decreases-loop-on : goal.decreases-loop-on
decreases-loop-on l = length l.rest
