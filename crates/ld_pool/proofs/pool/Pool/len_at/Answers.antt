use Rattle.std.proofs.Common.{sym, ◌∙◌, arith, ◌*◌, length}
use Rattle.std.proofs.lemmas.List.{get_or_past, get_or_read}
use Rattle.ld_pool.specs.Inside.Blocks.{whole}
use Rattle.ld_pool.proofs.Runs.{length-list_of}
use Rattle.ld_pool.proofs.pool.Pool.len_at.Goals as goal

pub returns-then-first-len : goal.returns-then-first-len
returns-then-first-len g c =
    let s = c.self.inside in
    let items = whole s.items.items s.blank (256 * length s.next.items) in
    rw (← c.self.view_is)
    (get_or_read s.lens.items c.args.first c.index.result.now (omega (arith, s.lens.ok)) c.index.ensures 0
    ∙ sym (length-list_of items s.next.items s.lens.items s.head s.free c.args.first c.self.invariant.runs))

pub returns-else-first-len : goal.returns-else-first-len
returns-else-first-len g c =
    let s = c.self.inside in
    let items = whole s.items.items s.blank (256 * length s.next.items) in
    rw (← c.self.view_is)
    (sym (length-list_of items s.next.items s.lens.items s.head s.free c.args.first c.self.invariant.runs
    ∙ get_or_past s.lens.items c.args.first 0 (omega (arith, s.lens.ok))))
