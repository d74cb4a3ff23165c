use Rattle.std.proofs.Common.{◌≡◌, get_or, take}
use Rattle.std.specs.List.{filter_map}
use Rattle.ld_graph.specs.Web.{tallest}
use Rattle.ld_graph.specs.Inside.Linking.{found_at}
use Rattle.ld_graph.proofs.links.tallest_found.Given as goal

abbrev pub invariant-loop-key : goal.invariant-loop-key
invariant-loop-key l = l.most ≡ tallest (λ other. get_or l.heights other 0) (filter_map (found_at l.nodes l.texts l.from) (take l.key-index l.keys))
