use Rattle.std.proofs.Common.{ℕ, set, ◌+◌, ◌≡◌, ◌<◌, ◌-◌, get_or, length, refl, sym, ap, subst, ◌∙◌, arith, ◌*◌}
use Rattle.ld_pool.specs.Inside.Blocks.{AreRuns, behind, whole}
use Rattle.ld_pool.specs.Runs.{Pooled, IsLive, blocks_for}
use Rattle.std.proofs.lemmas.List.{length-set}
use Rattle.ld_pool.proofs.Others.{others-stay}
use Rattle.ld_pool.proofs.Returning.{returned}
use Rattle.ld_pool.proofs.Runs.{length-list_of, run-within, without_run-none}
use Rattle.ld_pool.proofs.pool.Pool.give_back.Goals as goal

pub behind-last-requires-clause-within : goal.behind-last-requires-clause-within
behind-last-requires-clause-within g c =
    let s = c.self.inside in
    let items = whole s.items.items s.blank (256 * length s.next.items) in
    let len : c.len_at-len.result ≡ get_or s.lens.items c.run.inside.first 0 = c.len_at-len.ensures ∙ rw (← c.self.view_is) (length-list_of items s.next.items s.lens.items s.head s.free c.run.inside.first c.self.invariant.runs) in
    let within = run-within s.lens.items c.run.inside.first (omega (arith, len, c.if-len-gt0.true)) in
    omega (arith, within, c.self.invariant.runs.table, ap length c.as_slice.ensures.value)

pub index_mut-requires-then-len-gt0 : goal.index_mut-requires-then-len-gt0
index_mut-requires-then-len-gt0 g c =
    let s = c.self.inside in
    let items = whole s.items.items s.blank (256 * length s.next.items) in
    let len : c.len_at-len.result ≡ get_or s.lens.items c.run.inside.first 0 = c.len_at-len.ensures ∙ rw (← c.self.view_is) (length-list_of items s.next.items s.lens.items s.head s.free c.run.inside.first c.self.invariant.runs) in
    let within = run-within s.lens.items c.run.inside.first (omega (arith, len, c.if-len-gt0.true)) in
    omega (arith, within, s.lens.ok)

pub overflow_add-self : goal.overflow_add-self
overflow_add-self g c =
    let s = c.self.inside in
    let items = whole s.items.items s.blank (256 * length s.next.items) in
    let len : c.len_at-len.result ≡ get_or s.lens.items c.run.inside.first 0 = c.len_at-len.ensures ∙ rw (← c.self.view_is) (length-list_of items s.next.items s.lens.items s.head s.free c.run.inside.first c.self.invariant.runs) in
    let some : 0 < get_or s.lens.items c.run.inside.first 0 = omega (arith, len, c.if-len-gt0.true) in
    let count : c.blocks_for-count.result ≡ blocks_for (get_or s.lens.items c.run.inside.first 0) = c.blocks_for-count.ensures ∙ ap blocks_for len in
    let after = returned items s.next.items s.lens.items s.head s.free c.run.inside.first c.blocks_for-count.result c.self.invariant.runs some count in
    omega (arith, after.pool.sum, after.pool.links.few)

pub invariant_of-self : goal.invariant_of-self
invariant_of-self g c =
    let s = c.self.inside in
    let items = whole s.items.items s.blank (256 * length s.next.items) in
    let len : c.len_at-len.result ≡ get_or s.lens.items c.run.inside.first 0 = c.len_at-len.ensures ∙ rw (← c.self.view_is) (length-list_of items s.next.items s.lens.items s.head s.free c.run.inside.first c.self.invariant.runs) in
    let some : 0 < get_or s.lens.items c.run.inside.first 0 = omega (arith, len, c.if-len-gt0.true) in
    let count : c.blocks_for-count.result ≡ blocks_for (get_or s.lens.items c.run.inside.first 0) = c.blocks_for-count.ensures ∙ ap blocks_for len in
    let last : c.behind-last.result ≡ behind s.next.items (c.blocks_for-count.result - 1) c.run.inside.first = c.behind-last.ensures.behind ∙ ap (λ xs. behind xs (c.blocks_for-count.result - 1) c.run.inside.first) c.as_slice.ensures.value in
    let after = returned items s.next.items s.lens.items s.head s.free c.run.inside.first c.blocks_for-count.result c.self.invariant.runs some count in
    let size = length-set s.next.items (behind s.next.items (c.blocks_for-count.result - 1) c.run.inside.first) s.head in
    rw last (record {
      runs = subst (λ (n : ℕ). AreRuns (whole s.items.items s.blank (256 * n)) (set s.next.items (behind s.next.items (c.blocks_for-count.result - 1) c.run.inside.first) s.head) (set s.lens.items c.run.inside.first 0) c.run.inside.first (s.free + c.blocks_for-count.result)) (sym size) after.pool;
      room = omega (arith, c.self.invariant.room, size);
      within = after.within (length s.items.items) c.self.invariant.within;
    })

pub returns-then-len-gt0-clause-without : goal.returns-then-len-gt0-clause-without
returns-then-len-gt0-clause-without g c =
    let s = c.self.inside in
    let items = whole s.items.items s.blank (256 * length s.next.items) in
    let length_is = length-list_of items s.next.items s.lens.items s.head s.free c.run.inside.first c.self.invariant.runs in
    let len : c.len_at-len.result ≡ get_or s.lens.items c.run.inside.first 0 = c.len_at-len.ensures ∙ rw (← c.self.view_is) length_is in
    let some : 0 < get_or s.lens.items c.run.inside.first 0 = omega (arith, len, c.if-len-gt0.true) in
    let count : c.blocks_for-count.result ≡ blocks_for (get_or s.lens.items c.run.inside.first 0) = c.blocks_for-count.ensures ∙ ap blocks_for len in
    let last : c.behind-last.result ≡ behind s.next.items (c.blocks_for-count.result - 1) c.run.inside.first = c.behind-last.ensures.behind ∙ ap (λ xs. behind xs (c.blocks_for-count.result - 1) c.run.inside.first) c.as_slice.ensures.value in
    let after = returned items s.next.items s.lens.items s.head s.free c.run.inside.first c.blocks_for-count.result c.self.invariant.runs some count in
    let size = length-set s.next.items (behind s.next.items (c.blocks_for-count.result - 1) c.run.inside.first) s.head in
    rw (← c.self.view_is, ← c.run.view_is) (rw (last, size, after.runs, count, ← length_is) refl)

pub returns-then-len-gt0-clause-others : goal.returns-then-len-gt0-clause-others
returns-then-len-gt0-clause-others g c = rw (returns-then-len-gt0-clause-without g c) (others-stay c.args.self.now c.args.run)

pub returns-else-len-gt0-clause-without : goal.returns-else-len-gt0-clause-without
returns-else-len-gt0-clause-without g c =
    let s = c.self.inside in
    let items = whole s.items.items s.blank (256 * length s.next.items) in
    let length_is = length-list_of items s.next.items s.lens.items s.head s.free c.run.inside.first c.self.invariant.runs in
    let len : c.len_at-len.result ≡ get_or s.lens.items c.run.inside.first 0 = c.len_at-len.ensures ∙ rw (← c.self.view_is) length_is in
    let none : get_or s.lens.items c.run.inside.first 0 ≡ 0 = omega (arith, len, c.if-len-gt0.false) in
    let live = subst (λ (pool : Pooled _). IsLive pool c.run.inside.first) (sym c.self.view_is) (rw c.run.view_is c.requires) in
    rw (← c.self.view_is, ← c.run.view_is) (without_run-none items s.next.items s.lens.items s.free c.run.inside.first live none)

pub returns-else-len-gt0-clause-others : goal.returns-else-len-gt0-clause-others
returns-else-len-gt0-clause-others g c = λ other is. record { live = is.live; list = refl }
