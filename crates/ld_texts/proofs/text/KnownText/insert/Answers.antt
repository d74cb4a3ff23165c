use Rattle.std.proofs.Common.{◌≡◌, rules, subst, sym}
use Rattle.std.specs.List.{insert}
use Rattle.ld_texts.specs.Inside.Kept.{IsHeader}
use Rattle.ld_texts.proofs.Header.{IsHeader-insert}
use Rattle.ld_texts.proofs.text.KnownText.insert.Goals as goal

pub header_after-self-inside-requires : goal.header_after-self-inside-requires
header_after-self-inside-requires c =
    λ plain.
    let turned : c.as_slice-3.result.now ≡ insert c.self.inside.lines.items c.args.place c.args.line = search rules in
    subst (IsHeader c.self.inside.part_by_header) (sym turned)
    (IsHeader-insert c.self.inside.part_by_header c.self.inside.lines.items c.args.place c.args.line c.self.invariant.part (rw c.as_slice.ensures at (c.is_plain-plain.ensures plain)))
