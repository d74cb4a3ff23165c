use Rattle.std.proofs.Common.{◌≤◌, ◌+◌, Some, length, set, ap, sym, ◌∙◌, arith}
use Rattle.ld_cache.specs.Inside.Table.{whole}
use Rattle.ld_cache.proofs.Whole.{is-put, whole-full, whole-more}
use Rattle.ld_cache.proofs.slot.put.Goals as goal

pub loop-slots-preserved : goal.loop-slots-preserved
loop-slots-preserved c =
    let slots = c.loop-slots.slots in
    let loop = c.loop-slots.invariant in
    record {
      slots = ap (λ items. whole items (c.args.text + 1)) c.push_reserved.ensures.items ∙ (whole-more slots.items (c.args.text + 1) (omega (arith, slots.ok, c.len.ensures, c.loop-slots-test.true)) ∙ loop.slots);
      len = omega (arith, loop.len, slots.ok, c.push_reserved.ensures.len, c.push_reserved.new.self.ok, c.len.ensures, c.loop-slots-test.true);
      room = c.push_reserved.ensures.capacity ∙ loop.room;
    }

pub returns-clause-slots : goal.returns-clause-slots
returns-clause-slots c =
    let slots = c.loop-slots.slots in
    let reaches : c.args.text + 1 ≤ length slots.items = omega (arith, slots.ok, c.len.ensures, c.loop-slots-test.false) in
    let grown = sym (whole-full slots.items (c.args.text + 1) reaches) ∙ c.loop-slots.invariant.slots in
    is-put c.args.slots.now.items _ c.args.text (Some c.args.slot) (ap (λ items. set items c.args.text (Some c.args.slot)) grown)
