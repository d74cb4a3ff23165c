use Rattle.std.proofs.Common.{◌≡◌, ◌==◌, ◌++◌, [], ◌∷◌, length}
use Rattle.std.specs.List.{list_any}
use Rattle.ld_engine.proofs.expand.on_way.Given as goal

abbrev pub invariant-loop-on : goal.invariant-loop-on
invariant-loop-on l = list_any (λ on. on.0 == l.file.0) (l.rest ++ l.text ∷ []) ≡ list_any (λ on. on.0 == l.file.0) (l.way ++ l.text ∷ [])

abbrev pub decreases-loop-on : goal.decreases-loop-on
decreases-loop-on l = length l.rest
