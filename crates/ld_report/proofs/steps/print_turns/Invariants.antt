use Rattle.std.proofs.Common.{◌≡◌, ◌++◌, codes, take}
use Rattle.std.specs.List.{flat_map}
use Rattle.ld_report.specs.Steps.{turn_text}
use Rattle.ld_report.proofs.steps.print_turns.Given as goal

abbrev pub invariant-loop-turn : goal.invariant-loop-turn
invariant-loop-turn l = l.into.items ≡ l.initial.into.items ++ flat_map (λ turn. codes " " ++ turn_text turn) (take l.turn-index l.turns)
