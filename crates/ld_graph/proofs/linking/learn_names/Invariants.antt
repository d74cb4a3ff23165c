use Rattle.std.proofs.Common.{◌≡◌, ◌≤◌, length, take}
use Rattle.std.specs.Vec.{vec_capacity}
use Rattle.ld_graph.specs.Inside.Nodes.{AreKeysOf, Learns}
use Rattle.ld_graph.proofs.linking.learn_names.Given as goal

abbrev pub invariant-loop-name : goal.invariant-loop-name
invariant-loop-name l = record {
  learns : Learns l.fn.nodes l.nodes l.found.items l.text;
  keys : AreKeysOf l.keys.entries l.found.items (take l.name-index l.names);
  size : length l.found.items ≡ l.name-index;
  room : length l.names ≤ vec_capacity l.found;
}
