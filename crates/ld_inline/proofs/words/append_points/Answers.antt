use Rattle.std.proofs.Common.{◌∙◌, ◌++◌, ap, append_assoc, map, sym, take}
use Rattle.std.proofs.lemmas.List.{take_all}
use Rattle.std.specs.List.{flat_map}
use Rattle.ld_num.specs.Text.{dec_text}
use Rattle.ld_line.specs.Printing.{coordinates}
use Rattle.ld_inline.specs.Inside.Shown.{following}
use Rattle.ld_inline.proofs.Texts.{points_more}
use Rattle.ld_inline.proofs.words.append_points.Goals as goal

pub loop-point-preserved : goal.loop-point-preserved
loop-point-preserved c =
    let points = c.args.points.now in
    let index = c.loop-point.point-index in
    let before = following (map dec_text (flat_map coordinates (take index points))) in
    let one = following (map dec_text (coordinates c.point-item.result)) in
    c.in_ok-append_point.ensures ∙ ap (λ text. text ++ one) c.loop-point.invariant ∙ append_assoc c.args.into.now.items before one
    ∙ ap (λ text. c.args.into.now.items ++ text) (ap (λ point. before ++ following (map dec_text (coordinates point))) c.point-item.is ∙ sym (points_more points index c.point-item.result c.loop-point-test.true))

pub returns : goal.returns
returns c =
    c.loop-point.invariant ∙ ap (λ points. c.args.into.now.items ++ following (map dec_text (flat_map coordinates points))) (take_all c.loop-point.point-index c.args.points.now c.loop-point-test.false)
