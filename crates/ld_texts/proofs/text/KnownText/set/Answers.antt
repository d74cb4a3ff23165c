use Rattle.std.proofs.Common.{◌<◌, length, subst, sym}
use Rattle.ld_texts.specs.Inside.Kept.{IsHeader}
use Rattle.ld_texts.proofs.Header.{IsHeader-set}
use Rattle.ld_texts.proofs.text.KnownText.set.Goals as goal

pub header_after-self-inside-requires : goal.header_after-self-inside-requires
header_after-self-inside-requires c =
    λ plain.
    let inside : c.args.place < length c.self.inside.lines.items = rw c.self.view_is c.requires.place in
    subst (IsHeader c.self.inside.part_by_header) (sym c.as_slice-4.ensures.value)
    (IsHeader-set c.self.inside.part_by_header c.self.inside.lines.items c.args.place c.index.result.now c.args.line c.self.invariant.part inside c.index.ensures (rw c.as_slice.ensures at (c.are_plain-plain.ensures.line plain)) (rw c.as_slice-2.ensures at (c.are_plain-plain.ensures.other plain)))
