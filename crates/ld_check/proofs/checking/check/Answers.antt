use Rattle.std.proofs.Common.{◌≡◌, ◌+◌, ◌-◌, ◌++◌, Some, ap, arith, length, refl, subst, sym, take, ◌∙◌}
use Rattle.std.specs.Prelude.{slice_get}
use Rattle.std.specs.List.{flat_map, range_with_len}
use Rattle.std.proofs.lemmas.Option.{slice_get_read}
use Rattle.ld_check.specs.Findings.{findings_at, findings_of}
use Rattle.ld_check.specs.Inside.AtLine.{missing_findings}
use Rattle.ld_check.specs.Inside.Passing.{IsPassed}
use Rattle.ld_check.proofs.Whole.{line_more, with_missing}
use Rattle.ld_check.proofs.checking.check.Goals as goal

pub loop-before-preserved : goal.loop-before-preserved
loop-before-preserved c =
    let before = c.loop-before.before in
    let file = c.args.file.now in
    let lines = c.args.lines.now in
    let own : before + 1 - 1 ≡ before = omega arith in
    let here : slice_get lines before ≡ Some c.index-lines-before.result = slice_get_read lines (length lines) before c.index-lines-before.result refl c.loop-before-test.true c.index-lines-before.is in
    let at : slice_get lines (before + 1 - 1) ≡ Some c.as_slice.result.now = ap (slice_get lines) own ∙ here ∙ ap Some (sym c.as_slice.ensures) in
    let step = c.in_ok-check_line.ensures lines at (subst (λ n. IsPassed c.loop-before.passed (take n lines)) (sym own) c.loop-before.invariant.passed) in
    record {
      listed = step.0 ∙ ap (λ list. list ++ findings_at file lines (before + 1)) c.loop-before.invariant.listed ∙ line_more (findings_at file lines) before;
      passed = step.1;
    }

pub returns : goal.returns
unfolding findings_of
returns c =
    let file = c.args.file.now in
    let lines = c.args.lines.now in
    let whole : c.loop-before.before ≡ length lines = omega (arith, c.loop-before-test.false, c.loop-before.auto.before-end) in
    c.in_ok-check_missing.ensures ∙ ap (λ list. list ++ missing_findings (length lines)) (c.loop-before.invariant.listed ∙ ap (λ n. flat_map (findings_at file lines) (range_with_len 1 n)) whole) ∙ with_missing file lines
