use Rattle.std.proofs.Common.{◌∙◌, refl}
use Rattle.std.specs.Int.{w128}
use Rattle.std.proofs.lemmas.Int.{to_z-of_z}
use Rattle.ld_num.proofs.placing.exact.Goals as goal

pub returns-clause-value : goal.returns-clause-value
returns-clause-value c =
    let first = to_z-of_z w128 _ (record { sfits = c.product-first.type_inv }) ∙ c.product-first.ensures.value in
    let second = to_z-of_z w128 _ (record { sfits = c.product-second.type_inv }) ∙ c.product-second.ensures.value in
    let third = to_z-of_z w128 _ (record { sfits = c.product-third.type_inv }) ∙ c.product-third.ensures.value in
    let raised = to_z-of_z w128 _ (record { sfits = c.raised.type_inv }) ∙ c.raised.ensures.value in
    let two = to_z-of_z w128 _ (record { sfits = c.sum.type_inv }) ∙ c.sum.ensures.value in
    let three = to_z-of_z w128 _ (record { sfits = c.sum-2.type_inv }) ∙ c.sum-2.ensures.value in
    let four = to_z-of_z w128 _ (record { sfits = c.sum-3.type_inv }) ∙ c.sum-3.ensures.value in
    rw (four, three, two, first, second, third, raised) refl
