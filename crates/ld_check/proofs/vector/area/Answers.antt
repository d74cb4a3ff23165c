use Rattle.std.proofs.Common.{◌∙◌, ◌*◌, ◌^◌, ◌<◌, ◌*ℤ◌, unsigned_abs, arith, lit<, FitsSigned}
use Rattle.std.specs.Int.{w64, w128}
use Rattle.std.proofs.lemmas.Int.{fits_signed_from_abs, fits_signed_mul, to_z-of_z, unsigned_abs-mul}
use Rattle.std.proofs.Math.Nat.{mul-le-mul}
use Rattle.ld_check.proofs.vector.area.Goals as goal

pub returns-clause-value : goal.returns-clause-value
returns-clause-value c =
    let a : unsigned_abs c.args.a < 2 ^ 63 = omega (arith, c.requires.a) in
    let b : unsigned_abs c.args.b < 2 ^ 63 = omega (arith, c.requires.b) in
    let a128 : unsigned_abs c.args.a < 2 ^ 127 = omega (arith, c.requires.a) in
    let b128 : unsigned_abs c.args.b < 2 ^ 127 = omega (arith, c.requires.b) in
    let first = c.from.ensures ∙ to_z-of_z w64 c.args.a (fits_signed_from_abs w64 c.args.a a) in
    let second = c.from-2.ensures ∙ to_z-of_z w64 c.args.b (fits_signed_from_abs w64 c.args.b b) in
    let fits : FitsSigned w128 (c.args.a *ℤ c.args.b) = fits_signed_mul w128 c.args.a c.args.b (2 * 10 ^ 12) (2 * 10 ^ 12) c.requires.a c.requires.b (lit< tt) in
    rw (first, second, to_z-of_z w128 c.args.a (fits_signed_from_abs w128 c.args.a a128), to_z-of_z w128 c.args.b (fits_signed_from_abs w128 c.args.b b128)) (to_z-of_z w128 (c.args.a *ℤ c.args.b) fits)

pub returns-clause-small : goal.returns-clause-small
returns-clause-small c =
    rw (returns-clause-value c, unsigned_abs-mul c.args.a c.args.b) (mul-le-mul c.requires.a c.requires.b)
