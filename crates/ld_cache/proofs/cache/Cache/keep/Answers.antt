use Rattle.std.proofs.Common.{◌≡◌, ◌<◌, List, None, get_or, length, subst, refl, sym, arith}
use Rattle.std.proofs.lemmas.List.{length-map, length-set}
use Rattle.ld_pool.specs.Runs.{IsStored}
use Rattle.ld_entry.specs.declared.entry.Entry.{Entry}
use Rattle.ld_cache.specs.Kept.{Cached}
use Rattle.ld_cache.specs.Inside.Table.{shown_in, whole}
use Rattle.ld_cache.proofs.Tables.{kept-in}
use Rattle.ld_cache.proofs.Whole.{length-whole}
use Rattle.ld_cache.proofs.cache.Cache.keep.Goals as goal

pub invariant_of-self-2 : goal.invariant_of-self-2
invariant_of-self-2 c =
    let s = c.self.inside in
    let e = c.args.expansion in
    let texts = s.slots.cap in
    let table = whole s.slots.items texts in
    let size = length-whole s.slots.items texts c.self.invariant.within in
    let stores = subst (λ (list : List Entry). IsStored s.pool c.in-Some.run' list c.store.new.self) c.as_slice.ensures c.in-Some.ensures.some in
    let vacant = subst (λ (cache : Cached). get_or cache.kept c.args.id.0 None ≡ None) (sym c.self.view_is) c.requires.vacant in
    let below = subst (λ (cache : Cached). c.args.id.0 < length cache.kept) (sym c.self.view_is) c.requires.within in
    let within : c.args.id.0 < texts = omega (arith, below, length-map table (shown_in s.pool), size) in
    let after = kept-in s.pool c.store.new.self table c.args.id.0 (record { run = c.in-Some.run'; line_ends = e.line_ends; end = e.end }) e.entries c.self.invariant.table (omega (arith, within, size)) vacant stores in
    rw c.put.ensures.room (record {
      table = rw (c.put.ensures.slots texts within) after.table;
      few = c.self.invariant.few;
      within = omega (arith, c.put.ensures.len, within, c.self.invariant.within);
    })

pub returns-clause-ok : goal.returns-clause-ok
returns-clause-ok c =
    let s = c.self.inside in
    let e = c.args.expansion in
    let texts = s.slots.cap in
    let table = whole s.slots.items texts in
    let size = length-whole s.slots.items texts c.self.invariant.within in
    let stores = subst (λ (list : List Entry). IsStored s.pool c.in-Some.run' list c.store.new.self) c.as_slice.ensures c.in-Some.ensures.some in
    let vacant = subst (λ (cache : Cached). get_or cache.kept c.args.id.0 None ≡ None) (sym c.self.view_is) c.requires.vacant in
    let below = subst (λ (cache : Cached). c.args.id.0 < length cache.kept) (sym c.self.view_is) c.requires.within in
    let within : c.args.id.0 < texts = omega (arith, below, length-map table (shown_in s.pool), size) in
    let after = kept-in s.pool c.store.new.self table c.args.id.0 (record { run = c.in-Some.run'; line_ends = e.line_ends; end = e.end }) e.entries c.self.invariant.table (omega (arith, within, size)) vacant stores in
    rw (← c.self.view_is) (rw (c.put.ensures.room, c.put.ensures.slots texts within, after.shown, stores.runs, length-set s.pool.runs c.in-Some.run' _) refl)
