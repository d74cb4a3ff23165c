use Rattle.std.proofs.Common.{◌≡◌, ◌<◌, ◌*◌, ◌∙◌, length, refl, sym, ap, subst, arith}
use Rattle.ld_pool.specs.Inside.Blocks.{behind, filled, runs_in, whole}
use Rattle.ld_pool.specs.Runs.{blocks_for}
use Rattle.ld_pool.proofs.Others.{stores-none, stores-some}
use Rattle.ld_pool.proofs.Runs.{get_or-runs_in, length-runs_in, run-none}
use Rattle.ld_pool.proofs.Storing.{free-vacant, stored, stored-within}
use Rattle.ld_pool.proofs.pool.Pool.store.Goals as goal

pub returns-then-len-eq0-clause-some : goal.returns-then-len-eq0-clause-some
returns-then-len-eq0-clause-some g c =
    let s = c.self.inside in
    let items = whole s.items.items s.blank (256 * length s.next.items) in
    rw (← c.self.view_is) (stores-none _ _ c.args.items.now (omega (arith, s.lens.ok, length-runs_in items s.next.items s.lens.items)) (omega (arith, c.if-len-eq0.true)))

pub invariant_of-self : goal.invariant_of-self
invariant_of-self g c =
    let s = c.self.inside in
    let next = s.next.items in
    let list = c.args.items.now in
    let count = c.blocks_for-count.result in
    let items = whole s.items.items s.blank (256 * length next) in
    let runs = c.self.invariant.runs in
    let after = stored items next s.lens.items s.head s.free list count runs (omega (arith, c.if-len-eq0.false)) c.blocks_for-count.ensures (omega (arith, c.if-self-count.false)) in
    let full : whole c.fill-self-inside.new.items.items s.blank (256 * length next) ≡ filled items next count s.head list = subst (λ xs. whole c.fill-self-inside.new.items.items s.blank (256 * length xs) ≡ filled (whole s.items.items s.blank (256 * length xs)) xs (blocks_for (length list)) s.head list) c.as_slice.ensures.value c.fill-self-inside.ensures.items ∙ ap (λ n. filled items next n s.head list) (sym c.blocks_for-count.ensures) in
    let block : c.fill-self-inside.result ≡ behind next count s.head = rw (c.fill-self-inside.ensures.behind, c.as_slice.ensures.value, c.blocks_for-count.ensures) refl in
    rw block (record {
      runs = rw full after.pool;
      room = omega (arith, c.fill-self-inside.ensures.room, ap length c.as_slice.ensures.value);
      within = stored-within next s.lens.items (length s.items.items) (length c.fill-self-inside.new.items.items) s.head (length list) (omega (arith, c.fill-self-inside.ensures.longer)) (omega (arith, runs.begins (omega (arith, runs.sum, c.if-self-count.false, c.blocks_for-count.ensures, c.if-len-eq0.false)), runs.table)) c.self.invariant.within (rw (← c.as_slice.ensures.value) c.fill-self-inside.ensures.stand);
    })

pub returns-clause-some : goal.returns-clause-some
returns-clause-some g c =
    let s = c.self.inside in
    let next = s.next.items in
    let list = c.args.items.now in
    let count = c.blocks_for-count.result in
    let items = whole s.items.items s.blank (256 * length next) in
    let runs = c.self.invariant.runs in
    let after = stored items next s.lens.items s.head s.free list count runs (omega (arith, c.if-len-eq0.false)) c.blocks_for-count.ensures (omega (arith, c.if-self-count.false)) in
    let full : whole c.fill-self-inside.new.items.items s.blank (256 * length next) ≡ filled items next count s.head list = subst (λ xs. whole c.fill-self-inside.new.items.items s.blank (256 * length xs) ≡ filled (whole s.items.items s.blank (256 * length xs)) xs (blocks_for (length list)) s.head list) c.as_slice.ensures.value c.fill-self-inside.ensures.items ∙ ap (λ n. filled items next n s.head list) (sym c.blocks_for-count.ensures) in
    let some : 0 < s.free = omega (arith, c.if-self-count.false, c.blocks_for-count.ensures, c.if-len-eq0.false) in
    let vacant = get_or-runs_in items next s.lens.items s.head ∙ run-none items next s.lens.items s.head (free-vacant items next s.lens.items s.head s.free runs some) in
    let within : s.head < length (runs_in items next s.lens.items) = omega (arith, runs.begins (omega (arith, some, runs.sum)), runs.table, length-runs_in items next s.lens.items) in
    rw (← c.self.view_is) (rw full (stores-some _ _ s.head list within vacant after.runs (omega (arith, c.blocks_for-count.ensures, c.if-self-count.false))))
