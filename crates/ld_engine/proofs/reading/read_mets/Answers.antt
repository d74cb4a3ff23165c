use Rattle.std.proofs.Common.{◌≡◌, ◌+◌, suc, Some, ap, sym, subst, ◌∙◌, arith}
use Rattle.std.specs.Prelude.{slice_get}
use Rattle.std.proofs.lemmas.Option.{slice_get_within}
use Rattle.ld_line.specs.Reading.{line_of}
use Rattle.ld_bfc.specs.LineState.{start}
use Rattle.ld_entry.specs.NumberedTexts.{known_texts}
use Rattle.ld_engine.proofs.Meetings.{IsRead, read-begun, read-done, read-more}
use Rattle.ld_engine.proofs.reading.read_mets.Goals as goal

pub loop-line-init : goal.loop-line-init
loop-line-init c =
    let texts = known_texts c.args.texts.now.known in
    record {
      read = subst (λ mets. IsRead texts c.args.text mets c.start-state.result 0) (sym c.new-mets.ensures.items) (read-begun texts c.args.text c.start-state.result (c.start-state.ensures ∙ ap start c.is_part.ensures));
      within = omega arith;
    }

pub loop-line-smaller : goal.loop-line-smaller
loop-line-smaller c =
    let lines = (known_texts c.args.texts.now.known).lines c.args.text in
    let at : slice_get lines c.loop-line.before ≡ Some (line_of c.in-Some.line.now) = sym c.in-Some.ensures.line in
    let within = slice_get_within lines c.loop-line.before (line_of c.in-Some.line.now) at in
    omega arith

pub loop-line-preserved : goal.loop-line-preserved
loop-line-preserved c =
    let texts = known_texts c.args.texts.now.known in
    let lines = texts.lines c.args.text in
    let at : slice_get lines c.loop-line.before ≡ Some (line_of c.in-Some.line.now) = sym c.in-Some.ensures.line in
    let at' : slice_get lines c.loop-line.before ≡ Some c.in_ok-line.line = at ∙ ap (λ l. Some l) (sym c.in_ok-line.ensures.ok) in
    let within = slice_get_within lines c.loop-line.before (line_of c.in-Some.line.now) at in
    let number : c.loop-line.before + 1 ≡ suc c.loop-line.before = omega arith in
    let grown = rw c.meet.ensures at c.in_ok-push.ensures in
    record {
      read = read-more texts c.args.text c.loop-line.mets.items c.push.new.mets.items c.loop-line.state c.next-after.result c.loop-line.before (c.loop-line.before + 1) c.in_ok-line.line at' number c.next-after.ensures grown c.loop-line.invariant.read;
      within = omega arith;
    }

pub returns : goal.returns
returns c =
    c.from_vec.ensures
    ∙ read-done (known_texts c.args.texts.now.known) c.args.text c.loop-line.mets.items c.loop-line.state c.loop-line.before (sym c.in_default.ensures.line) c.loop-line.invariant.read
