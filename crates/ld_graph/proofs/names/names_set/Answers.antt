use Rattle.std.proofs.Common.{◌-◌, rules}
use Rattle.ld_graph.proofs.Named.{named_set}
use Rattle.ld_graph.proofs.names.names_set.Goals as goal

pub returns : goal.returns
returns c = rw c.in-Some.is (search (rules, named_set c.in-Some.lines.now (c.args.line - 1) c.args.text.now (search rules)))
