use Rattle.std.proofs.Common.{◌≡◌, ◌/◌, None, length, List, Option, replicate, refl, ap, ◌∙◌, arith}
use Rattle.std.proofs.lemmas.List.{length-replicate}
use Rattle.ld_entry.specs.declared.entry.Entry.{Entry}
use Rattle.ld_cache.specs.Inside.Table.{whole}
use Rattle.ld_cache.proofs.Tables.{fresh-table, shown-none}
use Rattle.ld_cache.proofs.Whole.{whole-none}
use Rattle.ld_cache.proofs.cache.Cache.new.Goals as goal

pub invariant_of-result : goal.invariant_of-result
invariant_of-result c =
    let blocks = c.args.entries / 256 in
    let table : whole c.in_ok-slots.slots.items c.args.texts ≡ replicate c.args.texts None = ap (λ slots. whole slots c.args.texts) c.in_ok-slots.ensures.items ∙ whole-none c.args.texts in
    rw (c.in_ok-pool.ensures, c.in_ok-slots.ensures.exact) (record {
      table = rw table (fresh-table blocks c.args.texts);
      few = omega arith;
      within = omega (arith, ap length c.in_ok-slots.ensures.items);
    })

pub returns : goal.returns
returns c =
    let blocks = c.args.entries / 256 in
    let table : whole c.in_ok-slots.slots.items c.args.texts ≡ replicate c.args.texts None = ap (λ slots. whole slots c.args.texts) c.in_ok-slots.ensures.items ∙ whole-none c.args.texts in
    rw (c.in_ok-pool.ensures, c.in_ok-slots.ensures.exact) (rw (table, shown-none _ c.args.texts, length-replicate {A = Option (List Entry)} blocks None) refl)
