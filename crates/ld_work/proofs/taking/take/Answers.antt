use Rattle.std.proofs.Common.{◌<◌, length, take, drop, arith}
use Rattle.std.proofs.lemmas.List.{take-append-drop}
use Rattle.ld_work.proofs.Gathered.{some-taken}
use Rattle.ld_work.proofs.taking.take.Goals as goal

pub returns-then-len-most-clause-gathers : goal.returns-then-len-most-clause-gathers
returns-then-len-most-clause-gathers c =
    let own = c.args.kept.now.entries in
    let many : c.args.most < length c.copy_first.new.into.items = omega arith in
    some-taken c.args.most c.args.entries.now.items own c.args.kept.now.end (take c.min-count.result own) (drop c.min-count.result own) c.copy_first.new.into.items (take-append-drop c.min-count.result own) c.in_ok-copy_first.ensures many
