use Rattle.std.proofs.Common.{◌≡◌, ◌≤◌, ◌<◌, ◌+◌, ◌*◌, ◌-◌, ◌++◌, ℕ, List, min, get_or, length, take, sym, ap, subst, ◌∙◌, arith}
use Rattle.std.proofs.lemmas.List.{append-nil, get_or_read}
use Rattle.ld_pool.specs.Inside.Blocks.{AreWithin, list_at, whole}
use Rattle.ld_pool.specs.Runs.{blocks_for, list_of}
use Rattle.ld_pool.proofs.Blank.{part-whole}
use Rattle.ld_pool.proofs.Chains.{within-first, within-front}
use Rattle.ld_pool.proofs.Contents.{blocks-more, list_at-none, list_at-step}
use Rattle.ld_pool.proofs.Runs.{length-list_of, run-within, take-list_of}
use Rattle.ld_pool.proofs.pool.Pool.copy_first.Goals as goal

pub loop-left-init : goal.loop-left-init
loop-left-init g c =
    let s = c.self.inside in
    let items = whole s.items.items s.blank (256 * length s.next.items) in
    let first = c.run.inside.first in
    let n = get_or s.lens.items first 0 in
    let len : length (list_of c.args.self.now c.args.run.now) ≡ n = rw (← c.self.view_is, ← c.run.view_is) (length-list_of items s.next.items s.lens.items s.head s.free first c.self.invariant.runs) in
    let less : c.args.count ≤ n = omega (arith, len, c.requires.within) in
    record {
      items = ap (λ xs. c.args.into.now.items ++ xs) (rw (← c.self.view_is, ← c.run.view_is) (sym (take-list_of items s.next.items s.lens.items s.head s.free first c.args.count c.self.invariant.runs less)));
      within = λ h. omega (arith, run-within s.lens.items first (omega (arith, less, h)), c.self.invariant.runs.table);
      stand = within-front s.next.items (length s.items.items) (blocks_for c.args.count) (blocks_for n) first (omega (arith, less)) (c.self.invariant.within first);
    }

-- the block that is copied next stands, and those behind it
here-stands : (next : List ℕ) (size block left : ℕ) → 0 < left → AreWithin next size (blocks_for left) block → (256 * block + 256 ≤ size) × AreWithin next size (blocks_for (left - min left 256)) (get_or next block 0)
here-stands next size block left h within =
    within-first next size (blocks_for (left - min left 256)) block (subst (λ (n : ℕ). AreWithin next size n block) (blocks-more left h) within)

pub offset_bounds-deref-start : goal.offset_bounds-deref-start
offset_bounds-deref-start g c =
    let s = c.self.inside in
    let stands = here-stands s.next.items (length s.items.items) c.loop-left.block c.loop-left.left c.loop-left-test.true c.loop-left.invariant.stand in
    omega (arith, stands.0, c.deref.ensures.len, s.items.ok)

pub slice_bounds-extend_from_slice-end : goal.slice_bounds-extend_from_slice-end
slice_bounds-extend_from_slice-end g c =
    let s = c.self.inside in
    let stands = here-stands s.next.items (length s.items.items) c.loop-left.block c.loop-left.left c.loop-left-test.true c.loop-left.invariant.stand in
    omega (arith, stands.0, c.deref.ensures.len, s.items.ok, c.min-size.ensures)

pub loop-left-preserved : goal.loop-left-preserved
loop-left-preserved g c =
    let s = c.self.inside in
    let next = s.next.items in
    let full = 256 * length next in
    let items = whole s.items.items s.blank full in
    let block = c.loop-left.block in
    let left = c.loop-left.left in
    let size = c.min-size.result in
    let within = c.loop-left.invariant.within c.loop-left-test.true in
    let stands = here-stands next (length s.items.items) block left c.loop-left-test.true c.loop-left.invariant.stand in
    let link = get_or_read next block c.index-block.result.now within c.index-block.ensures 0 in
    let part = part-whole s.items.items s.blank full (block * 256) (block * 256 + size - block * 256) (omega (arith, stands.0, c.min-size.ensures)) in
    record {
      items = rw (c.in_ok-extend_from_slice.ensures.items, c.deref.ensures.value, ← part) (list_at-step items next block left size (block * 256) (block * 256 + size - block * 256) c.index-block.result.now c.loop-left.into.items (c.args.into.now.items ++ take c.args.count (list_of c.args.self.now c.args.run.now)) c.loop-left-test.true c.min-size.ensures (omega arith) (omega arith) link c.loop-left.invariant.items);
      within = λ _. omega (arith, link, c.self.invariant.runs.links.within block within);
      stand = rw (link, c.min-size.ensures) stands.1;
    }

pub returns : goal.returns
returns g c =
    let s = c.self.inside in
    let items = whole s.items.items s.blank (256 * length s.next.items) in
    let none : c.loop-left.left ≡ 0 = omega (arith, c.loop-left-test.false) in
    sym (append-nil c.loop-left.into.items) ∙ (ap (λ xs. c.loop-left.into.items ++ xs) (sym (list_at-none items s.next.items c.loop-left.block) ∙ ap (list_at items s.next.items c.loop-left.block) (sym none)) ∙ c.loop-left.invariant.items)
