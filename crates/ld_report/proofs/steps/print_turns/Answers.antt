use Rattle.std.proofs.Common.{ℕ, List, ◌++◌, append_assoc, codes, ap, ◌∙◌}
use Rattle.ld_steps.specs.declared.step.Turn.{Turn}
use Rattle.ld_report.specs.Steps.{turn_text}
use Rattle.ld_report.proofs.Extending.{after, appended, same, through}
use Rattle.ld_report.proofs.Growing.{all, more}
use Rattle.ld_report.proofs.steps.print_turns.Goals as goal

pub loop-turn-preserved : goal.loop-turn-preserved
loop-turn-preserved c =
    let text : Turn → List ℕ = λ turn. codes " " ++ turn_text turn in
    let turn = c.turn-item.result in
    let start = c.loop-turn.into.items in
    let printed = c.in_ok-print_turn.ensures.ok ∙ ap (λ list. list ++ turn_text turn) c.in_ok-push.ensures.items ∙ append_assoc start (codes " ") (turn_text turn) in
    more text c.args.turns.now c.loop-turn.turn-index turn c.args.into.now.items start c.print_turn.new.into.items c.loop-turn-test.true c.turn-item.is c.loop-turn.invariant printed

pub returns-in_err-push-clause-keeps : goal.returns-in_err-push-clause-keeps
returns-in_err-push-clause-keeps c = through _ _ _ (appended _ _ _ c.loop-turn.invariant) (same _ _ c.in_err-push.ensures.items)

pub returns-in_err-print_turn-clause-keeps : goal.returns-in_err-print_turn-clause-keeps
returns-in_err-print_turn-clause-keeps c =
    through _ _ _ (appended _ _ _ c.loop-turn.invariant) (after _ _ _ _ c.in_ok-push.ensures.items c.in_err-print_turn.ensures.keeps)

pub returns-clause-ok : goal.returns-clause-ok
returns-clause-ok c =
    all (λ turn. codes " " ++ turn_text turn) c.args.turns.now c.loop-turn.turn-index c.args.into.now.items c.loop-turn.into.items c.loop-turn-test.false c.loop-turn.invariant

pub returns-clause-keeps : goal.returns-clause-keeps
returns-clause-keeps c = appended _ _ _ c.loop-turn.invariant
