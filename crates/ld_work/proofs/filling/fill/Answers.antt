use Rattle.std.proofs.Common.{◌≡◌, length, reverse, take, ap, sym, ◌∙◌, subst, arith, rules}
use Rattle.ld_texts.specs.Known.{AreDistinct}
use Rattle.ld_graph.specs.Agreeing.{items_of_known}
use Rattle.ld_entry.specs.NumberedTexts.{known_texts}
use Rattle.ld_cache.specs.Kept.{Cached}
use Rattle.ld_work.specs.Filling.{filled, reads_all, stale}
use Rattle.ld_work.specs.Inside.Lent.{basis_at, CanFill}
use Rattle.ld_work.specs.Inside.Rounds.{readers_of}
use Rattle.ld_work.specs.Inside.Staleness.{AreStale}
use Rattle.ld_work.specs.Readers.{known_by}
use Rattle.ld_work.specs.Right.{AreRight}
use Rattle.ld_work.proofs.Crewed.{on-ok}
use Rattle.ld_work.proofs.Filled.{filled-blocks, filled-length}
use Rattle.ld_work.proofs.Learnt.{kept-part}
use Rattle.ld_work.proofs.Turned.{lent-back, turned, turned-keep, turned-reads}
use Rattle.ld_work.proofs.filling.fill.Goals as goal

pub stale-requires-clause-may : goal.stale-requires-clause-may
stale-requires-clause-may g c =
    let first : c.index-first.result.now.texts.known ≡ known_by c.args.readers.now.items = search rules in
    record { items = c.requires.graph ∙ ap items_of_known (sym first); depth = c.requires.depth; within = c.requires.bounds; right = subst (λ k. AreRight (known_texts k) c.args.bounds c.args.cache.now) (sym first) c.requires.kept.right; distinct = c.known.ensures.distinct }

pub fill-filled-requires-clause-over : goal.fill-filled-requires-clause-over
fill-filled-requires-clause-over g c κs within =
    let is : reverse (readers_of c.deref_mut.result.now) ≡ c.args.readers.now.items = search rules in
    (turned c.args.readers.now.items (readers_of c.deref_mut.result.now) c.requires.some is c.requires.over).over

pub fill-filled-requires-clause-can : goal.fill-filled-requires-clause-can
fill-filled-requires-clause-can g c κs within =
    let first : c.index-first.result.now.texts.known ≡ known_by c.args.readers.now.items = search rules in
    let is : reverse (readers_of c.deref_mut.result.now) ≡ c.args.readers.now.items = search rules in
    let known = (turned c.args.readers.now.items (readers_of c.deref_mut.result.now) c.requires.some is c.requires.over).known in
    let can : CanFill (known_by c.args.readers.now.items) c.args.graph.now c.args.bounds c.args.cache.now = record { items = c.requires.graph; depth = c.requires.depth; within = c.requires.bounds; right = c.requires.kept.right; distinct = subst AreDistinct first c.known.ensures.distinct } in
    subst (λ k. CanFill k c.args.graph.now c.args.bounds c.args.cache.now) (sym known) can

pub fill-filled-requires-clause-stale : goal.fill-filled-requires-clause-stale
fill-filled-requires-clause-stale g c κs within =
    let first : c.index-first.result.now.texts.known ≡ known_by c.args.readers.now.items = search rules in
    let is : reverse (readers_of c.deref_mut.result.now) ≡ c.args.readers.now.items = search rules in
    let known = (turned c.args.readers.now.items (readers_of c.deref_mut.result.now) c.requires.some is c.requires.over).known in
    let list : c.deref.result.now ≡ c.in_ok-stale.stale.items = search rules in
    subst (λ k. AreStale k c.args.bounds.depth c.args.cache.now c.deref.result.now) (first ∙ sym known) (subst (AreStale c.index-first.result.now.texts.known c.args.bounds.depth c.args.cache.now) (sym list) c.in_ok-stale.ensures.stale)

pub returns-clause-texts : goal.returns-clause-texts
returns-clause-texts g c =
    let is : reverse (readers_of c.deref_mut.result.now) ≡ c.args.readers.now.items = search rules in
    let back : reverse c.stand_up.new.readers.items ≡ readers_of c.fill-filled.new.desks = c.stand_up.ensures.readers ∙ ap readers_of (lent-back c.deref_mut.result.now c.fill-filled.new.desks c.sit_down.new.desks.items c.sit_down.new.desks.len c.deref_mut.ensures.len c.fill-filled.ensures.texts) in
    turned-keep c.args.readers.now.items (readers_of c.deref_mut.result.now) (readers_of c.fill-filled.new.desks) c.stand_up.new.readers.items is c.fill-filled.ensures.texts back

pub returns-clause-room : goal.returns-clause-room
returns-clause-room g c =
    let first : c.index-first.result.now.texts.known ≡ known_by c.args.readers.now.items = search rules in
    let is : reverse (readers_of c.deref_mut.result.now) ≡ c.args.readers.now.items = search rules in
    let known = (turned c.args.readers.now.items (readers_of c.deref_mut.result.now) c.requires.some is c.requires.over).known in
    let list : c.deref.result.now ≡ c.in_ok-stale.stale.items = search rules in
    let texts : c.deref.result.now ≡ stale (known_by c.args.readers.now.items) c.args.bounds.depth c.args.cache.now c.args.root = list ∙ c.in_ok-stale.ensures.exactly ∙ ap (λ k. stale k c.args.bounds.depth c.args.cache.now c.args.root) first in
    let count = c.fill-filled.ensures.partly.0 in
    let part : c.fill-filled.new.cache ≡ filled (known_texts (known_by c.args.readers.now.items)) c.args.bounds c.args.cache.now (take count (stale (known_by c.args.readers.now.items) c.args.bounds.depth c.args.cache.now c.args.root)) = c.fill-filled.ensures.partly.1 ∙ ap (λ k. filled (known_texts k) c.args.bounds c.args.cache.now (take count c.deref.result.now)) known ∙ ap (λ ts. filled (known_texts (known_by c.args.readers.now.items)) c.args.bounds c.args.cache.now (take count ts)) texts in
    ap (λ (cache : Cached). length cache.kept) part ∙ filled-length (known_by c.args.readers.now.items) c.args.bounds c.args.cache.now (take count (stale (known_by c.args.readers.now.items) c.args.bounds.depth c.args.cache.now c.args.root))

pub returns-clause-blocks : goal.returns-clause-blocks
returns-clause-blocks g c =
    let first : c.index-first.result.now.texts.known ≡ known_by c.args.readers.now.items = search rules in
    let is : reverse (readers_of c.deref_mut.result.now) ≡ c.args.readers.now.items = search rules in
    let known = (turned c.args.readers.now.items (readers_of c.deref_mut.result.now) c.requires.some is c.requires.over).known in
    let list : c.deref.result.now ≡ c.in_ok-stale.stale.items = search rules in
    let texts : c.deref.result.now ≡ stale (known_by c.args.readers.now.items) c.args.bounds.depth c.args.cache.now c.args.root = list ∙ c.in_ok-stale.ensures.exactly ∙ ap (λ k. stale k c.args.bounds.depth c.args.cache.now c.args.root) first in
    let count = c.fill-filled.ensures.partly.0 in
    let part : c.fill-filled.new.cache ≡ filled (known_texts (known_by c.args.readers.now.items)) c.args.bounds c.args.cache.now (take count (stale (known_by c.args.readers.now.items) c.args.bounds.depth c.args.cache.now c.args.root)) = c.fill-filled.ensures.partly.1 ∙ ap (λ k. filled (known_texts k) c.args.bounds c.args.cache.now (take count c.deref.result.now)) known ∙ ap (λ ts. filled (known_texts (known_by c.args.readers.now.items)) c.args.bounds c.args.cache.now (take count ts)) texts in
    ap (λ (cache : Cached). cache.blocks) part ∙ filled-blocks (known_by c.args.readers.now.items) c.args.bounds c.args.cache.now (take count (stale (known_by c.args.readers.now.items) c.args.bounds.depth c.args.cache.now c.args.root))

pub returns-clause-right : goal.returns-clause-right
returns-clause-right g c =
    let first : c.index-first.result.now.texts.known ≡ known_by c.args.readers.now.items = search rules in
    let is : reverse (readers_of c.deref_mut.result.now) ≡ c.args.readers.now.items = search rules in
    let known = (turned c.args.readers.now.items (readers_of c.deref_mut.result.now) c.requires.some is c.requires.over).known in
    let list : c.deref.result.now ≡ c.in_ok-stale.stale.items = search rules in
    let texts : c.deref.result.now ≡ stale (known_by c.args.readers.now.items) c.args.bounds.depth c.args.cache.now c.args.root = list ∙ c.in_ok-stale.ensures.exactly ∙ ap (λ k. stale k c.args.bounds.depth c.args.cache.now c.args.root) first in
    let count = c.fill-filled.ensures.partly.0 in
    let part : c.fill-filled.new.cache ≡ filled (known_texts (known_by c.args.readers.now.items)) c.args.bounds c.args.cache.now (take count (stale (known_by c.args.readers.now.items) c.args.bounds.depth c.args.cache.now c.args.root)) = c.fill-filled.ensures.partly.1 ∙ ap (λ k. filled (known_texts k) c.args.bounds c.args.cache.now (take count c.deref.result.now)) known ∙ ap (λ ts. filled (known_texts (known_by c.args.readers.now.items)) c.args.bounds c.args.cache.now (take count ts)) texts in
    let are : AreStale (known_by c.args.readers.now.items) c.args.bounds.depth c.args.cache.now (stale (known_by c.args.readers.now.items) c.args.bounds.depth c.args.cache.now c.args.root) = subst (λ k. AreStale k c.args.bounds.depth c.args.cache.now (stale (known_by c.args.readers.now.items) c.args.bounds.depth c.args.cache.now c.args.root)) first (subst (AreStale c.index-first.result.now.texts.known c.args.bounds.depth c.args.cache.now) (sym list ∙ texts) c.in_ok-stale.ensures.stale) in
    kept-part (known_by c.args.readers.now.items) c.args.bounds c.reached_law.ensures c.number_law.ensures (subst AreDistinct first c.known.ensures.distinct) c.args.root c.requires.learnt c.args.cache.now c.fill-filled.new.cache count c.requires.kept are part

pub returns-clause-exactly : goal.returns-clause-exactly
returns-clause-exactly g c =
    let first : c.index-first.result.now.texts.known ≡ known_by c.args.readers.now.items = search rules in
    let is : reverse (readers_of c.deref_mut.result.now) ≡ c.args.readers.now.items = search rules in
    let known = (turned c.args.readers.now.items (readers_of c.deref_mut.result.now) c.requires.some is c.requires.over).known in
    let list : c.deref.result.now ≡ c.in_ok-stale.stale.items = search rules in
    let texts : c.deref.result.now ≡ stale (known_by c.args.readers.now.items) c.args.bounds.depth c.args.cache.now c.args.root = list ∙ c.in_ok-stale.ensures.exactly ∙ ap (λ k. stale k c.args.bounds.depth c.args.cache.now c.args.root) first in
    on-ok c.fill-filled.result (λ same. same ∙ ap (λ k. filled (known_texts k) c.args.bounds c.args.cache.now c.deref.result.now) known ∙ ap (filled (known_texts (known_by c.args.readers.now.items)) c.args.bounds c.args.cache.now) texts) c.fill-filled.ensures.exactly

pub returns-clause-reads : goal.returns-clause-reads
returns-clause-reads g c =
    let first : c.index-first.result.now.texts.known ≡ known_by c.args.readers.now.items = search rules in
    let is : reverse (readers_of c.deref_mut.result.now) ≡ c.args.readers.now.items = search rules in
    let known = (turned c.args.readers.now.items (readers_of c.deref_mut.result.now) c.requires.some is c.requires.over).known in
    let list : c.deref.result.now ≡ c.in_ok-stale.stale.items = search rules in
    let texts : c.deref.result.now ≡ stale (known_by c.args.readers.now.items) c.args.bounds.depth c.args.cache.now c.args.root = list ∙ c.in_ok-stale.ensures.exactly ∙ ap (λ k. stale k c.args.bounds.depth c.args.cache.now c.args.root) first in
    let back : reverse c.stand_up.new.readers.items ≡ readers_of c.fill-filled.new.desks = c.stand_up.ensures.readers ∙ ap readers_of (lent-back c.deref_mut.result.now c.fill-filled.new.desks c.sit_down.new.desks.items c.sit_down.new.desks.len c.deref_mut.ensures.len c.fill-filled.ensures.texts) in
    let before = turned-reads c.args.readers.now.items (readers_of c.deref_mut.result.now) is in
    let after = turned-reads (readers_of c.fill-filled.new.desks) c.stand_up.new.readers.items back in
    let lines = ap (λ k. reads_all (basis_at k c.args.bounds c.fill-filled.new.cache) c.deref.result.now) known ∙ ap (reads_all (basis_at (known_by c.args.readers.now.items) c.args.bounds c.fill-filled.new.cache)) texts in
    on-ok c.fill-filled.result (λ few. omega arith) c.fill-filled.ensures.reads
