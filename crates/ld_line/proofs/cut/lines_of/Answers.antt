use Rattle.std.proofs.Common.{rules}
use Rattle.ld_line.specs.Cut.{lines_from, lines_of}
use Rattle.ld_line.proofs.Cuts.{lines-some}
use Rattle.ld_line.proofs.cut.lines_of.Goals as goal

pub returns-in_err-from_slice-clause-memory : goal.returns-in_err-from_slice-clause-memory
returns-in_err-from_slice-clause-memory c =
    let some = lines-some c.loop-line.lines.items (lines_from c.loop-line.rest.now) (lines_from c.in-Some.more.now) (lines_of c.args.bytes.now) c.in-Some.line.now c.in-Some.ensures.0 c.loop-line.invariant in search (rules, some)

pub returns-in_err-push-clause-memory : goal.returns-in_err-push-clause-memory
returns-in_err-push-clause-memory c =
    let some = lines-some c.loop-line.lines.items (lines_from c.loop-line.rest.now) (lines_from c.in-Some.more.now) (lines_of c.args.bytes.now) c.in-Some.line.now c.in-Some.ensures.0 c.loop-line.invariant in search (rules, some)
