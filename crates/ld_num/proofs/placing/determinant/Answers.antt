use Rattle.std.proofs.Common.{◌∙◌, refl}
use Rattle.std.specs.Int.{w128}
use Rattle.std.proofs.lemmas.Int.{to_z-of_z}
use Rattle.ld_num.proofs.placing.determinant.Goals as goal

pub returns : goal.returns
returns c =
    let a = to_z-of_z w128 _ (record { sfits = c.minor.type_inv }) ∙ c.minor.ensures.value in
    let b = to_z-of_z w128 _ (record { sfits = c.minor-2.type_inv }) ∙ c.minor-2.ensures.value in
    let d = to_z-of_z w128 _ (record { sfits = c.minor-3.type_inv }) ∙ c.minor-3.ensures.value in
    let first = to_z-of_z w128 _ (record { sfits = c.by_minor-first.type_inv }) ∙ c.by_minor-first.ensures.value in
    let second = to_z-of_z w128 _ (record { sfits = c.by_minor-second.type_inv }) ∙ c.by_minor-second.ensures.value in
    let third = to_z-of_z w128 _ (record { sfits = c.by_minor-third.type_inv }) ∙ c.by_minor-third.ensures.value in
    let minus = to_z-of_z w128 _ (record { sfits = c.negative.type_inv }) ∙ c.negative.ensures.value in
    let two = to_z-of_z w128 _ (record { sfits = c.sum.type_inv }) ∙ c.sum.ensures.value in
    let three = to_z-of_z w128 _ (record { sfits = c.sum-2.type_inv }) ∙ c.sum-2.ensures.value in
    rw (three, two, minus, first, second, third, a, b, d) refl
