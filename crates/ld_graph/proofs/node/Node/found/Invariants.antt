use Rattle.std.proofs.Common.{◌≡◌, length}
use Rattle.ld_names.specs.Standing.{folders_of}
use Rattle.ld_graph.specs.Items.{first_present}
use Rattle.ld_graph.specs.Inside.Linking.{is_there}
use Rattle.ld_graph.specs.Inside.Nodes.{number_in}
use Rattle.ld_graph.proofs.node.Node.found.Given as goal

abbrev pub invariant-loop-folder : goal.invariant-loop-folder
invariant-loop-folder l = first_present (number_in l.self.numbers.items) (is_there l.texts) l.rest ≡ first_present (number_in l.self.numbers.items) (is_there l.texts) (folders_of l.fn.from)

abbrev pub decreases-loop-folder : goal.decreases-loop-folder
decreases-loop-folder l = length l.rest
