use Rattle.std.proofs.Common.{◌≡◌, ◌∷◌, ◌++◌, [], Some, ap, sym, ◌∙◌, take, arith}
use Rattle.std.specs.Prelude.{slice_get}
use Rattle.std.proofs.lemmas.Option.{slice_get_within}
use Rattle.ld_line.specs.Reading.{line_of}
use Rattle.ld_entry.specs.NumberedTexts.{known_texts}
use Rattle.ld_engine.proofs.Rooted.{all-taken, take-one}
use Rattle.ld_engine.proofs.root.read_lines.Goals as goal

pub loop-line-preserved : goal.loop-line-preserved
loop-line-preserved c =
    let lines = (known_texts c.args.texts.now.known).lines c.args.text in
    let at : slice_get lines c.loop-line.before ≡ Some (line_of c.in-Some.line.now) = sym c.in-Some.ensures.line in
    let within = slice_get_within lines c.loop-line.before (line_of c.in-Some.line.now) at in
    record {
      read = c.in_ok-push.ensures.items ∙ ap (λ ls. ls ++ c.in_ok-read_line.field-0 ∷ []) c.loop-line.invariant.read ∙ ap (λ line. take c.loop-line.before lines ++ line ∷ []) c.in_ok-read_line.ensures.ok ∙ sym (take-one lines c.loop-line.before (line_of c.in-Some.line.now) at);
      within = omega arith;
    }

pub returns-clause-read : goal.returns-clause-read
returns-clause-read c =
    c.loop-line.invariant.read ∙ all-taken ((known_texts c.args.texts.now.known).lines c.args.text) c.loop-line.before (sym c.in_default.ensures.line)
