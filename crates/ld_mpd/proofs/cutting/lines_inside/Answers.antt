use Rattle.std.proofs.Common.{◌++◌, [], ◌∷◌, ap, append_assoc, arith, sym, ◌∙◌}
use Rattle.ld_line.specs.Cut.{lines_from}
use Rattle.ld_mpd.specs.Blocks.{inside}
use Rattle.ld_mpd.proofs.cutting.lines_inside.Goals as goal

pub loop-line-preserved : goal.loop-line-preserved
loop-line-preserved c =
    let lines = c.loop-line.lines.items in
    let line = c.in-Some.line.now in
    let more = inside (lines_from c.in-Some.more.now) in
    record {
      lines = ap (λ items. items ++ more) c.in_ok-push_line.ensures ∙ append_assoc lines (line ∷ []) more ∙ ap (λ rest. lines ++ rest) (sym c.in-Some.ensures.lines) ∙ c.loop-line.invariant.lines;
      left = λ own. c.in-Some.ensures.left own ∙ c.loop-line.invariant.left own;
      file = c.in-Some.ensures.file ∙ c.loop-line.invariant.file;
      shorter = omega (arith, c.in-Some.ensures.shorter, c.loop-line.invariant.shorter);
    }
