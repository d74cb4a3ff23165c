use Rattle.std.proofs.Common.{◌∙◌, arith, sym}
use Rattle.ld_entry.proofs.Moving.{four, four-moved, fourth-out, three, three-moved, two, two-moved}
use Rattle.ld_entry.proofs.carrying.move_points.Goals as goal

pub returns-then-eq : goal.returns-then-eq
returns-then-eq c =
    two-moved c.args.by.now c.args.kind c.args.points c.index-points-0.result c.index-points-1.result c.index-points-2.result c.index-points-3.result (omega arith) c.in_ok-first.first c.in_ok-second.second (sym c.place.ensures ∙ c.in_ok-first.was) (sym c.place-2.ensures ∙ c.in_ok-second.was) (two c.args.kind (sym c.eq.ensures ∙ c.if-eq.true))

pub returns-then-eq-2 : goal.returns-then-eq-2
returns-then-eq-2 c =
    three-moved c.args.by.now c.args.kind c.args.points c.index-points-0.result c.index-points-1.result c.index-points-2.result c.index-points-3.result (omega arith) c.in_ok-first.first c.in_ok-second.second c.in_ok-third.third (sym c.place.ensures ∙ c.in_ok-first.was) (sym c.place-2.ensures ∙ c.in_ok-second.was) (sym c.place-3.ensures ∙ c.in_ok-third.was) (three c.args.kind (sym c.eq-2.ensures ∙ c.if-eq-2.true))

pub returns : goal.returns
returns c =
    four-moved c.args.by.now c.args.kind c.args.points c.index-points-0.result c.index-points-1.result c.index-points-2.result c.index-points-3.result (omega arith) c.in_ok-first.first c.in_ok-second.second c.in_ok-third.third c.in_ok-fourth.fourth (sym c.place.ensures ∙ c.in_ok-first.was) (sym c.place-2.ensures ∙ c.in_ok-second.was) (sym c.place-3.ensures ∙ c.in_ok-third.was) (sym c.place-4.ensures ∙ c.in_ok-fourth.was) (four c.args.kind (sym c.eq.ensures ∙ c.if-eq.false) (sym c.eq-2.ensures ∙ c.if-eq-2.false))

pub returns-in_err-fourth : goal.returns-in_err-fourth
returns-in_err-fourth c =
    c.from_residual-in_err-fourth.ensures ∙ fourth-out c.args.by.now c.args.kind c.args.points c.index-points-0.result c.index-points-1.result c.index-points-2.result c.index-points-3.result (omega arith) c.in_ok-first.first c.in_ok-second.second c.in_ok-third.third (sym c.place.ensures ∙ c.in_ok-first.was) (sym c.place-2.ensures ∙ c.in_ok-second.was) (sym c.place-3.ensures ∙ c.in_ok-third.was) (sym c.place-4.ensures ∙ c.in_err-fourth.was) (four c.args.kind (sym c.eq.ensures ∙ c.if-eq.false) (sym c.eq-2.ensures ∙ c.if-eq-2.false))
