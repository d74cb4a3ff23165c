use Rattle.std.proofs.Common.{◌≡◌, ◌≤◌, ◌+◌, ℕ, length, take, drop}
use Rattle.ld_entry.specs.NumberedTexts.{known_texts}
use Rattle.ld_work.specs.Filling.{filled, reads_all}
use Rattle.ld_work.specs.Inside.Lent.{basis_at}
use Rattle.ld_work.specs.Inside.Rounds.{known_at, readers_of}
use Rattle.ld_work.specs.Inside.Staleness.{AreStale}
use Rattle.ld_work.specs.Readers.{KeepTexts, reads_together}
use Rattle.ld_work.specs.Right.{AreRight}
use Rattle.ld_work.proofs.crew.Crew.fill.Given as goal

abbrev pub invariant-loop-rest : goal.invariant-loop-rest
invariant-loop-rest g l = record {
  texts : KeepTexts (readers_of l.fn.desks) (readers_of l.desks);
  right : AreRight (known_texts (known_at l.fn.desks)) l.self.bounds l.cache;
  stale : AreStale (known_at l.fn.desks) l.self.bounds.depth l.cache l.rest;
  exactly : filled (known_texts (known_at l.fn.desks)) l.self.bounds l.cache l.rest ≡ filled (known_texts (known_at l.fn.desks)) l.self.bounds l.fn.cache l.stale;
  partly : (count : ℕ) × (l.cache ≡ filled (known_texts (known_at l.fn.desks)) l.self.bounds l.fn.cache (take count l.stale)) × (l.rest ≡ drop count l.stale);
  reads : reads_together (readers_of l.desks) + reads_all (basis_at (known_at l.fn.desks) l.self.bounds (filled (known_texts (known_at l.fn.desks)) l.self.bounds l.fn.cache l.stale)) l.rest ≤ reads_together (readers_of l.fn.desks) + reads_all (basis_at (known_at l.fn.desks) l.self.bounds (filled (known_texts (known_at l.fn.desks)) l.self.bounds l.fn.cache l.stale)) l.stale;
}

abbrev pub decreases-loop-rest : goal.decreases-loop-rest
decreases-loop-rest g l = length l.rest
