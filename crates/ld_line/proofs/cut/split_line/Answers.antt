use Rattle.std.proofs.Common.{◌≡◌, ◌∷◌, ap, sym, ◌∙◌}
use Rattle.ld_line.specs.Cut.{lines_from}
use Rattle.ld_line.proofs.Cuts.{lines_from-first}
use Rattle.ld_line.proofs.cut.split_line.Goals as goal

pub returns : goal.returns
returns c =
    let first : lines_from c.args.text.now ≡ c.without_return.result.now ∷ lines_from c.in-Some.more.now = lines_from-first c.args.text.now c.in-Some.piece.now c.in-Some.more.now c.in-Some.ensures.0 ∙ ap (λ line. line ∷ lines_from c.in-Some.more.now) (sym c.without_return.ensures) in
    (first, c.in-Some.ensures.1)
