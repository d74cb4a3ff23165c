use Rattle.std.proofs.Common.{◌≡◌, ◌∙◌, length, sym, arith}
use Rattle.ld_steps.proofs.Marked.{dropped, drops, keeps, numbered, stands}
use Rattle.ld_steps.proofs.marking.steps_of.Goals as goal

pub returns-then-drops_last : goal.returns-then-drops_last
returns-then-drops_last c =
    let marking = c.loop-line.marking in
    let passed : marking.passed ≡ length c.args.lines.now = omega arith in
    let last = drops marking.drawn marking.marks.items (sym c.drops_last.ensures ∙ c.if-drops_last.true) in
    dropped c.args.lines.now marking c.loop-line.invariant.marked passed last.0 last.1

pub end_step-requires : goal.end_step-requires
end_step-requires c =
    let marking = c.loop-line.marking in
    let passed : marking.passed ≡ length c.args.lines.now = omega arith in
    numbered c.args.lines.now marking c.loop-line.invariant.marked passed (keeps marking.drawn marking.marks.items (sym c.drops_last.ensures ∙ c.if-drops_last.false)) c.requires

pub returns : goal.returns
returns c =
    let marking = c.loop-line.marking in
    let passed : marking.passed ≡ length c.args.lines.now = omega arith in
    stands c.args.lines.now marking c.loop-line.invariant.marked passed _ (keeps marking.drawn marking.marks.items (sym c.drops_last.ensures ∙ c.if-drops_last.false)) c.in_ok-end_step.ensures
