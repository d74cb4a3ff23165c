use Rattle.std.proofs.Common.{◌+◌, ◌≡◌, ◌/◌, ◌%◌, get_or, length, sym, ap, ◌∙◌, arith, ◌*◌}
use Rattle.ld_pool.specs.Inside.Blocks.{behind, list_at, whole}
use Rattle.ld_pool.specs.Runs.{list_of, blocks_for}
use Rattle.ld_pool.proofs.Blank.{get_or-whole}
use Rattle.ld_pool.proofs.Chains.{within-behind}
use Rattle.ld_pool.proofs.Contents.{blocks-enough, get_or-gathered}
use Rattle.ld_pool.proofs.Runs.{length-list_of, list_of-is, run-within, tables-of}
use Rattle.ld_pool.proofs.pool.Pool.read.Goals as goal

pub behind-block-requires-clause-within : goal.behind-block-requires-clause-within
behind-block-requires-clause-within g c =
    let s = c.self.inside in
    let items = whole s.items.items s.blank (256 * length s.next.items) in
    let first = c.run.inside.first in
    let len : length (list_of c.args.self.now c.args.run.now) ≡ get_or s.lens.items first 0 = rw (← c.self.view_is, ← c.run.view_is) (length-list_of items s.next.items s.lens.items s.head s.free first c.self.invariant.runs) in
    let within = run-within s.lens.items first (omega (arith, len, c.requires.within)) in
    omega (arith, within, c.self.invariant.runs.table, ap length c.as_slice.ensures.value)

pub index-requires : goal.index-requires
index-requires g c =
    let s = c.self.inside in
    let items = whole s.items.items s.blank (256 * length s.next.items) in
    let first = c.run.inside.first in
    let i = c.args.index in
    let n = get_or s.lens.items first 0 in
    let len : length (list_of c.args.self.now c.args.run.now) ≡ n = rw (← c.self.view_is, ← c.run.view_is) (length-list_of items s.next.items s.lens.items s.head s.free first c.self.invariant.runs) in
    let block : c.behind-block.result ≡ behind s.next.items (i / 256) first = c.behind-block.ensures.behind ∙ ap (λ xs. behind xs (i / 256) first) c.as_slice.ensures.value in
    let stands = within-behind s.next.items (length s.items.items) (blocks_for n) first (i / 256) (omega (arith, len, c.requires.within)) (c.self.invariant.within first) in
    omega (arith, stands, block, s.items.ok)

pub returns : goal.returns
returns g c =
    let s = c.self.inside in
    let items = whole s.items.items s.blank (256 * length s.next.items) in
    let first = c.run.inside.first in
    let d = c.index.result.now in
    let i = c.args.index in
    let n = get_or s.lens.items first 0 in
    let len : length (list_of c.args.self.now c.args.run.now) ≡ n = rw (← c.self.view_is, ← c.run.view_is) (length-list_of items s.next.items s.lens.items s.head s.free first c.self.invariant.runs) in
    let list : list_of c.args.self.now c.args.run.now ≡ list_at items s.next.items first n = rw (← c.self.view_is, ← c.run.view_is) (list_of-is items s.next.items s.lens.items s.free first) in
    let within = run-within s.lens.items first (omega (arith, len, c.requires.within)) in
    let block : c.behind-block.result ≡ behind s.next.items (i / 256) first = c.behind-block.ensures.behind ∙ ap (λ xs. behind xs (i / 256) first) c.as_slice.ensures.value in
    let item = get_or-gathered items s.next.items (blocks_for n) first n i (i / 256) (i % 256) d (omega (arith, within, c.self.invariant.runs.table)) (tables-of items s.next.items s.lens.items s.head s.free c.self.invariant.runs) (blocks-enough n) (omega (arith, len, c.requires.within)) (omega arith) (omega arith) in
    let stands = within-behind s.next.items (length s.items.items) (blocks_for n) first (i / 256) (omega (arith, len, c.requires.within)) (c.self.invariant.within first) in
    c.index.ensures ∙ (sym (get_or-whole s.items.items s.blank (256 * length s.next.items) (c.behind-block.result * 256 + i % 256) d (omega (arith, stands, block))) ∙ (ap (λ k. get_or items k d) (omega (arith, block)) ∙ (sym item ∙ ap (λ xs. get_or xs i d) (sym list))))
