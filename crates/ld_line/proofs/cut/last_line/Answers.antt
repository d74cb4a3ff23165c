use Rattle.std.proofs.Common.{◌≡◌, ◌<◌, length, [], ◌∷◌, arith, rules, tests, ap, sym, ◌∙◌}
use Rattle.ld_line.specs.Cut.{lines_from}
use Rattle.ld_line.proofs.Cuts.{lines_from-last, lines_from-none}
use Rattle.ld_line.proofs.cut.last_line.Goals as goal

pub returns-then-is_empty : goal.returns-then-is_empty
returns-then-is_empty c = lines_from-none c.args.text.now (grind (arith, tests))

pub returns : goal.returns
returns c =
    let some : 0 < length c.args.text.now = grind (arith, tests) in
    let rest : c.as_slice.result.now ≡ [] = search rules in
    let first : lines_from c.args.text.now ≡ c.without_return.result.now ∷ lines_from c.as_slice.result.now = lines_from-last c.args.text.now c.requires some ∙ ap (λ line. line ∷ lines_from []) (sym c.without_return.ensures) ∙ ap (λ more. c.without_return.result.now ∷ lines_from more) (sym rest) in
    (first, omega (arith, ap length rest))
