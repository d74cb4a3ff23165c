-- What is lent to each worker.
use Rattle.std.specs.Prelude.{◌≡◌}
use Rattle.ld_names.specs.Standing.{Known}
use Rattle.ld_texts.specs.Known.{AreDistinct}
use Rattle.ld_entry.specs.NumberedTexts.{known_texts}
use Rattle.ld_cache.specs.Kept.{Cached}
use Rattle.ld_graph.specs.Agreeing.{items_of_known}
use Rattle.ld_graph.specs.Seen.{Graph}
use Rattle.ld_work.specs.Bounds.{AreBounds}
use Rattle.ld_work.specs.Reads.{Basis}
use Rattle.ld_work.specs.Right.{AreRight}
use Rattle.ld_work.specs.declared.bounds.Bounds.{Bounds}
use Rattle.ld_work.specs.declared.lent.Lent.{Lent}

-- a cache may be filled for these texts by a graph that agrees with them
pub record CanFill (known : Known) (graph : Graph) (bounds : Bounds) (cache : Cached) : Type 0 where
  pub items : graph.items ≡ items_of_known known
  pub depth : graph.depth ≡ bounds.depth
  pub within : AreBounds bounds
  pub right : AreRight (known_texts known) bounds cache
  pub distinct : AreDistinct known

abbrev pub MayWork : Lent → Known → Type 0
MayWork lent known = CanFill known lent.graph.now lent.bounds lent.cache.now

abbrev pub basis_at : Known → Bounds → Cached → Basis
basis_at known bounds cache = record { texts = known_texts known; bounds = bounds; cache = cache }
