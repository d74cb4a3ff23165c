use Rattle.std.proofs.Common.{◌≡◌, Some, None, sym, ap, ◌∙◌, get_or, option_map}
use Rattle.ld_cache.specs.declared.slot.Slot.{Slot}
use Rattle.ld_cache.proofs.Whole.{whole-at}
use Rattle.ld_cache.proofs.cache.Cache.get.Goals as goal

pub invariant_of-result : goal.invariant_of-result
invariant_of-result c =
    let s = c.self.inside in
    let slot = c.in-Some-Some.slot in
    let had : get_or s.slots.items c.args.id.0 None ≡ Some slot = ap (λ slots. get_or slots c.args.id.0 None) (sym c.deref.ensures.value) ∙ (sym (c.in-Some-Some.ensures.lookup.3.1 None) ∙ c.in-Some-Some.field-0-is) in
    c.self.invariant.table.live c.args.id.0 slot.run (ap (option_map (λ (s : Slot). s.run)) (whole-at s.slots.items s.slots.cap c.args.id.0 ∙ had))
