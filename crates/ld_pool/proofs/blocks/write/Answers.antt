use Rattle.std.proofs.Common.{◌≡◌, ℕ, ◌+◌, ◌*◌, ◌-◌, length, refl, sym, ap, ◌∙◌, arith}
use Rattle.std.proofs.lemmas.List.{with_items_is}
use borrow.Rule.Slice.PartMut.{put_mid}
use Rattle.ld_pool.specs.Inside.Blocks.{whole, written}
use Rattle.ld_pool.proofs.Blank.{is-written, longer-whole}
use Rattle.ld_pool.proofs.Contents.{length-written}
use Rattle.ld_pool.proofs.blocks.write.Goals as goal

ends : (block : ℕ) → block * 256 + 256 ≡ 256 * block + 256
ends block = omega arith

pub returns-clause-items : goal.returns-clause-items
returns-clause-items g c =
    let block = c.args.block in
    let over = c.args.over.now in
    let old = c.args.items.now.items in
    let grown = whole old c.args.blank (256 * block + 256) in
    let put = put_mid (block * 256) (block * 256 + length over - block * 256) c.deref_mut.result.now c.copy_from_slice.new.self in
    let start : block * 256 ≡ 256 * block = omega arith in
    let width : 256 * block + length over - 256 * block ≡ length over = omega arith in
    let grows : c.lengthen.new.items.items ≡ grown = c.lengthen.ensures.items ∙ ap (whole old c.args.blank) (ends block) in
    let is : put ≡ written grown block over = rw (c.copy_from_slice.ensures.after, c.deref_mut.ensures.value, grows, start, width) refl in
    let size : length put ≡ length c.lengthen.new.items.items = ap length is ∙ (length-written grown block over (omega (arith, c.requires.short, longer-whole old c.args.blank (256 * block + 256))) ∙ sym (ap length grows)) in
    is-written old _ c.args.blank block over c.requires.short (with_items_is c.lengthen.new.items put (omega (arith, size, c.lengthen.new.items.ok)) ∙ is)
