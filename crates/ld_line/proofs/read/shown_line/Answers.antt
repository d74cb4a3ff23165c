use Rattle.std.proofs.Common.{rules}
use Rattle.ld_line.specs.Field.{fields}
use Rattle.ld_line.proofs.LineZero.{zero-shows}
use Rattle.ld_line.proofs.read.shown_line.Goals as goal

pub returns-then-is_word : goal.returns-then-is_word
returns-then-is_word c = zero-shows c.args.line.now c.in-Some.kind.now (fields c.in-Some.rest.now) c.in-Some.ensures.0 (search rules)
