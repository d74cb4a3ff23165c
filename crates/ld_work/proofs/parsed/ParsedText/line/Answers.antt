use Rattle.std.proofs.Common.{◌≡◌, ◌+◌, Some, sym, ◌∙◌}
use Rattle.std.specs.Prelude.{slice_get}
use Rattle.ld_work.specs.Inside.Parsing.{parsed_lines}
use Rattle.ld_work.specs.Inside.Working.{texts_of}
use Rattle.ld_work.proofs.Texts.{parsed-more}
use Rattle.ld_work.proofs.parsed.ParsedText.line.Goals as goal

pub returns-clause-parsed : goal.returns-clause-parsed
returns-clause-parsed c =
    let old = c.args.self.now in
    let texts = texts_of c.args.reader.now in
    let there : slice_get (parsed_lines texts old.cursor.text) old.cursor.before ≡ Some c.in-Some.line = sym c.in_ok-line.ensures.line ∙ c.in-Some.is in
    let count : c.read.new.self.before ≡ old.cursor.before + 1 = rw c.in-Some.is at c.in_ok-line.ensures.before in
    parsed-more texts old c.requires.parsed (record { cursor = c.read.new.self; lines = c.push.new.self }) c.in-Some.line there c.in_ok-line.ensures.text count c.in_ok-line.ensures.at c.in_ok-push.ensures.items
