use Rattle.std.proofs.Common.{◌≡◌, ◌+◌, Some, ap, refl, sym, ◌∙◌, arith}
use Rattle.std.specs.Prelude.{slice_get}
use Rattle.std.proofs.lemmas.Option.{slice_get_within}
use Rattle.ld_entry.specs.NumberedTexts.{known_texts}
use Rattle.ld_work.specs.Inside.Parsing.{parsed}
use Rattle.ld_work.specs.Inside.Working.{texts_of}
use Rattle.ld_work.proofs.Parsing.{read-line, read-none, read-on}
use Rattle.ld_work.proofs.cursor.Cursor.read.Goals as goal

pub returns-in_default-clause-line : goal.returns-in_default-clause-line
returns-in_default-clause-line c =
    sym (read-none (texts_of c.args.reader.now) c.args.self.now.text c.args.self.now refl c.requires.at (sym c.in_default.ensures.line))

pub returns-clause-line : goal.returns-clause-line
returns-clause-line c =
    let old = c.args.self.now in
    let texts = texts_of c.args.reader.now in
    let there : slice_get (texts.lines old.text) old.before ≡ Some c.in_ok-line.line = sym c.in-Some.ensures.line ∙ ap (λ l. Some l) (sym c.in_ok-line.ensures.ok) in
    let parsed_here = ap (λ t. parsed (known_texts t.known) old.state (record { text = old.text; line = old.before + 1 }) c.in_ok-line.line) c.line_behind.ensures.reads.texts in
    ap (λ l. Some l) (c.parse.ensures ∙ parsed_here) ∙ sym (read-line texts old.text old refl c.requires.at c.in_ok-line.line there (old.before + 1) (omega arith))

pub returns-clause-at : goal.returns-clause-at
returns-clause-at c =
    let old = c.args.self.now in
    let texts = texts_of c.args.reader.now in
    let there : slice_get (texts.lines old.text) old.before ≡ Some c.in_ok-line.line = sym c.in-Some.ensures.line ∙ ap (λ l. Some l) (sym c.in_ok-line.ensures.ok) in
    let within = slice_get_within (texts.lines old.text) old.before c.in_ok-line.line there in
    record { rest = read-on texts old.text old refl c.requires.at c.in_ok-line.line there (old.before + 1) c.next-self.result (omega arith) c.next-self.ensures; within = omega arith }
