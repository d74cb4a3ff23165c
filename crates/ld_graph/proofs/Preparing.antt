-- What a graph has room for.
use Rattle.std.proofs.Common.{◌≤◌, ℕ, min, refl, arith}
use Rattle.ld_graph.specs.Inside.Linking.{KeepsLinks, Linked}
use Rattle.ld_graph.specs.Seen.{Graph, KeepsGraph}

abbrev pub graph_of : ℕ → Linked → ℕ → Graph
graph_of depth links room = record { depth = depth; items = links.items; spares = links.spares; places = links.places; room = min links.room room }

pub keeps_graph : (depth : ℕ) (old new : Linked) (room more : ℕ) → KeepsLinks old new → room ≤ more → KeepsGraph (graph_of depth old room) (graph_of depth new more)
keeps_graph depth old new room more keeps le = record {
  depth = refl;
  items = keeps.items;
  room = let a = keeps.room in omega arith;
  spares = keeps.spares;
  places = keeps.places;
}
