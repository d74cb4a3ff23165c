use Rattle.std.proofs.Common.{◌-◌, rules}
use Rattle.ld_graph.proofs.Named.{named_removed}
use Rattle.ld_graph.proofs.names.names_deleted.Goals as goal

pub returns : goal.returns
returns c = rw c.in-Some.is (search (rules, named_removed c.in-Some.lines.now (c.args.line - 1)))
