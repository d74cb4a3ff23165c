use Rattle.std.proofs.Common.{◌≡◌, ◌<◌, ℕ, List, true, get_or}
use Rattle.ld_graph.specs.Inside.Linking.{KeepsLinks, has_spare}
use Rattle.ld_graph.proofs.links.Links.keep_each.Given as goal

abbrev pub invariant-loop-name : goal.invariant-loop-name
invariant-loop-name l = record {
  same : KeepsLinks l.fn.self l.self;
  spares : (k : ℕ) → k < l.name-index → (d : List ℕ) → has_spare l.self (get_or l.names k d) ≡ true;
}
