use Rattle.std.proofs.Common.{take}
use Rattle.ld_graph.specs.Inside.Nodes.{Forgets}
use Rattle.ld_graph.proofs.linking.forget_names.Given as goal

abbrev pub invariant-loop-key : goal.invariant-loop-key
invariant-loop-key l = Forgets l.fn.nodes l.nodes (take l.key-index l.keys) l.text
