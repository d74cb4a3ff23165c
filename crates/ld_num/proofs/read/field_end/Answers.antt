use Rattle.std.proofs.Common.{◌≡◌, ◌≤◌, ℕ, length, cond, ltb, Some, None, ap, ◌∙◌, arith, rules, tests}
use Rattle.std.specs.Option.{unwrap_or}
use Rattle.std.proofs.lemmas.Iterator.{YieldsList-from_slice}
use Rattle.std.proofs.lemmas.Iterator.Search.{position_from_yields_List}
use Rattle.std.proofs.lemmas.List.Sums.{prefix_len-le-length}
use Rattle.ld_num.specs.Field.{is_blank}
use Rattle.ld_num.proofs.read.field_end.Goals as goal

unwrap_or-ltb : (p n : ℕ) → p ≤ n → unwrap_or (cond (ltb p n) (Some p) None) n ≡ p
unwrap_or-ltb p n within = grind (arith, tests)

pub returns-clause-end : goal.returns-clause-end
returns-clause-end c =
    let at = position_from_yields_List is_blank _ _ c.position.result c.position.ensures.ran (YieldsList-from_slice c.args.text.now cc) (λ x b q k. search (rules, tests)) in
    c.unwrap_or.ensures ∙ ap (λ r. unwrap_or r (length c.args.text.now)) at ∙ unwrap_or-ltb _ _ (prefix_len-le-length _ c.args.text.now)
