use Rattle.std.proofs.Common.{ap, ◌∙◌, arith}
use Rattle.ld_bfc.specs.LineState.{start}
use Rattle.ld_work.specs.Inside.Working.{texts_of}
use Rattle.ld_work.proofs.Parsing.{at-begin}
use Rattle.ld_work.proofs.cursor.Cursor.new.Goals as goal

pub returns-clause-at : goal.returns-clause-at
returns-clause-at c =
    record { rest = at-begin (texts_of c.args.reader.now) c.args.text c.start.result (c.start.ensures ∙ ap start c.is_part.ensures); within = omega arith }
