use Rattle.std.proofs.Common.{◌≡◌, length}
use Rattle.ld_graph.specs.Inside.Nodes.{number_in}
use Rattle.ld_graph.proofs.node.Node.number.Given as goal

abbrev pub invariant-loop-rest : goal.invariant-loop-rest
invariant-loop-rest l = number_in l.rest l.folder ≡ number_in l.self.numbers.items l.folder

abbrev pub decreases-loop-rest : goal.decreases-loop-rest
decreases-loop-rest l = length l.rest
