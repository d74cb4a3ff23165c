use Rattle.std.proofs.Common.{ℕ, List, ◌++◌, append_assoc, codes, ap, ◌∙◌}
use Rattle.ld_num.specs.declared.point.Point.{Point}
use Rattle.ld_report.specs.Pieces.{point_text}
use Rattle.ld_report.proofs.Extending.{appended, same, through}
use Rattle.ld_report.proofs.Growing.{all, more}
use Rattle.ld_report.proofs.entry.print_points.Goals as goal

pub loop-point-preserved : goal.loop-point-preserved
loop-point-preserved c =
    let text : Point → List ℕ = λ point. point_text point ++ codes " " in
    let point = c.point-item.result in
    let start = c.loop-point.into.items in
    let printed = c.in_ok-push.ensures.items ∙ ap (λ list. list ++ codes " ") c.in_ok-print_point.ensures.ok ∙ append_assoc start (point_text point) (codes " ") in
    more text c.args.points.now c.loop-point.point-index point c.args.into.now.items start c.push.new.self.items c.loop-point-test.true c.point-item.is c.loop-point.invariant printed

pub returns-in_err-print_point-clause-keeps : goal.returns-in_err-print_point-clause-keeps
returns-in_err-print_point-clause-keeps c = through _ _ _ (appended _ _ _ c.loop-point.invariant) c.in_err-print_point.ensures.keeps

pub returns-in_err-push-clause-keeps : goal.returns-in_err-push-clause-keeps
returns-in_err-push-clause-keeps c =
    through _ _ _ (appended _ _ _ c.loop-point.invariant) (through _ _ _ c.in_ok-print_point.ensures.keeps (same _ _ c.in_err-push.ensures.items))

pub returns-clause-ok : goal.returns-clause-ok
returns-clause-ok c =
    all (λ point. point_text point ++ codes " ") c.args.points.now c.loop-point.point-index c.args.into.now.items c.loop-point.into.items c.loop-point-test.false c.loop-point.invariant

pub returns-clause-keeps : goal.returns-clause-keeps
returns-clause-keeps c = appended _ _ _ c.loop-point.invariant
