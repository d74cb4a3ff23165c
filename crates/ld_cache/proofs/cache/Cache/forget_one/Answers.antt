use Rattle.std.proofs.Common.{◌≡◌, ℕ, ◌≤◌, ◌<◌, Some, None, get_or, length, map, option_map, sym, subst, ap, ◌∙◌, arith}
use Rattle.std.proofs.lemmas.List.{get_or_read, length-set, map-set}
use Rattle.ld_pool.specs.Runs.{OthersStay, Pooled, without_run}
use Rattle.ld_entry.specs.declared.entry.Entry.{Entry}
use Rattle.ld_cache.specs.declared.slot.Slot.{Slot}
use Rattle.ld_cache.specs.Inside.Table.{shown_in, whole}
use Rattle.ld_cache.proofs.Tables.{forgot-in, none-behind, set-none}
use Rattle.ld_cache.proofs.Whole.{length-whole, whole-at, whole-set}
use Rattle.ld_cache.proofs.cache.Cache.forget_one.Goals as goal

pub give_back-requires : goal.give_back-requires
give_back-requires c =
    let s = c.self.inside in
    let text = c.args.text in
    let within : text < length s.slots.items = omega (arith, c.if-text-len.true, s.slots.ok) in
    let had : get_or s.slots.items text None ≡ Some c.in-Some.slot = sym (get_or_read s.slots.items text c.index_mut.result.now within c.index_mut.ensures.value None) ∙ (sym c.take.ensures.value ∙ c.in-Some.is) in
    rw c.into_run.ensures (c.self.invariant.table.live text c.in-Some.slot.run (ap (option_map (λ (s : Slot). s.run)) (whole-at s.slots.items s.slots.cap text ∙ had)))

pub invariant_of-self : goal.invariant_of-self
invariant_of-self c =
    let s = c.self.inside in
    let text = c.args.text in
    let texts = s.slots.cap in
    let within : text < length s.slots.items = omega (arith, c.if-text-len.true, s.slots.ok) in
    let had : get_or s.slots.items text None ≡ Some c.in-Some.slot = sym (get_or_read s.slots.items text c.index_mut.result.now within c.index_mut.ensures.value None) ∙ (sym c.take.ensures.value ∙ c.in-Some.is) in
    let run : c.into_run.result ≡ c.in-Some.slot.run = c.into_run.ensures in
    let stay : OthersStay s.pool c.in-Some.slot.run (without_run s.pool c.in-Some.slot.run) = subst (λ (r : ℕ). OthersStay s.pool r (without_run s.pool r)) run (subst (λ (pool : Pooled Entry). OthersStay s.pool c.into_run.result pool) c.give_back.ensures.without c.give_back.ensures.others) in
    let after = forgot-in s.pool (whole s.slots.items texts) text c.in-Some.slot c.self.invariant.table stay (omega (arith, within, length-whole s.slots.items texts c.self.invariant.within, c.self.invariant.within)) (whole-at s.slots.items texts text ∙ had) in
    rw (c.give_back.ensures.without, c.into_run.ensures, c.take.ensures.after) (record {
      table = rw (whole-set s.slots.items texts text None within) after.table;
      few = c.self.invariant.few;
      within = omega (arith, length-set s.slots.items text None, c.self.invariant.within);
    })

pub returns-in-Some-clause-kept : goal.returns-in-Some-clause-kept
returns-in-Some-clause-kept c =
    let s = c.self.inside in
    let text = c.args.text in
    let texts = s.slots.cap in
    let within : text < length s.slots.items = omega (arith, c.if-text-len.true, s.slots.ok) in
    let had : get_or s.slots.items text None ≡ Some c.in-Some.slot = sym (get_or_read s.slots.items text c.index_mut.result.now within c.index_mut.ensures.value None) ∙ (sym c.take.ensures.value ∙ c.in-Some.is) in
    let run : c.into_run.result ≡ c.in-Some.slot.run = c.into_run.ensures in
    let stay : OthersStay s.pool c.in-Some.slot.run (without_run s.pool c.in-Some.slot.run) = subst (λ (r : ℕ). OthersStay s.pool r (without_run s.pool r)) run (subst (λ (pool : Pooled Entry). OthersStay s.pool c.into_run.result pool) c.give_back.ensures.without c.give_back.ensures.others) in
    let after = forgot-in s.pool (whole s.slots.items texts) text c.in-Some.slot c.self.invariant.table stay (omega (arith, within, length-whole s.slots.items texts c.self.invariant.within, c.self.invariant.within)) (whole-at s.slots.items texts text ∙ had) in
    rw (c.give_back.ensures.without, c.into_run.ensures, c.take.ensures.after, ← c.self.view_is) (rw (whole-set s.slots.items texts text None within) after.shown)

pub returns-in_default-clause-kept : goal.returns-in_default-clause-kept
returns-in_default-clause-kept c =
    let s = c.self.inside in
    let text = c.args.text in
    let texts = s.slots.cap in
    let within : text < length s.slots.items = omega (arith, c.if-text-len.true, s.slots.ok) in
    rw (c.take.ensures.after, ← c.self.view_is) (rw (whole-set s.slots.items texts text None within) (map-set (shown_in s.pool) (whole s.slots.items texts) text None))

pub returns-else-text-len-clause-kept : goal.returns-else-text-len-clause-kept
returns-else-text-len-clause-kept c =
    let s = c.self.inside in
    let behind : length s.slots.items ≤ c.args.text = omega (arith, c.if-text-len.false, s.slots.ok) in
    rw (← c.self.view_is) (sym (set-none (map (shown_in s.pool) (whole s.slots.items s.slots.cap)) c.args.text (none-behind s.pool s.slots.items s.slots.cap c.args.text behind)))
