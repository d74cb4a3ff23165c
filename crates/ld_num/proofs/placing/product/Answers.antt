use Rattle.std.proofs.Common.{◌*◌, ◌^◌, ◌<◌, ◌*ℤ◌, ◌∙◌, unsigned_abs, lit<, FitsSigned}
use Rattle.std.specs.Int.{w64, w128}
use Rattle.std.proofs.lemmas.Int.{fits_signed_mul, to_z-of_z, unsigned_abs-mul}
use Rattle.std.proofs.Math.Nat.{mul-le-mul}
use Rattle.ld_num.proofs.placing.product.Goals as goal

pub returns-clause-value : goal.returns-clause-value
returns-clause-value c =
    let a = c.millionths.ensures in
    let b = c.millionths-2.ensures in
    let first = to_z-of_z w128 _ (record { sfits = c.from.type_inv }) ∙ c.from.ensures ∙ to_z-of_z w64 _ (record { sfits = c.millionths.type_inv }) ∙ a.value in
    let second = to_z-of_z w128 _ (record { sfits = c.from-2.type_inv }) ∙ c.from-2.ensures ∙ to_z-of_z w64 _ (record { sfits = c.millionths-2.type_inv }) ∙ b.value in
    rw (first, second) (to_z-of_z w128 (c.args.a *ℤ c.args.b) (fits_signed_mul w128 c.args.a c.args.b (10 ^ 12) (10 ^ 12) a.in_range b.in_range (lit< tt)))

pub returns-clause-small : goal.returns-clause-small
returns-clause-small c =
    rw (returns-clause-value c, unsigned_abs-mul c.args.a c.args.b) (mul-le-mul c.millionths.ensures.in_range c.millionths-2.ensures.in_range)
