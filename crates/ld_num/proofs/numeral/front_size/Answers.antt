use Rattle.std.proofs.Common.{◌≡◌, ◌∷◌, arith, refl, rules}
use Rattle.ld_num.proofs.Fronts.{front_pointed, front_whole, led_length}
use Rattle.ld_num.proofs.numeral.front_size.Goals as goal

pub returns-else-behind-text : goal.returns-else-behind-text
returns-else-behind-text c =
    let whole = c.leading_number-whole.ensures.led in
    front_whole _ _ _ whole (omega (arith, c.if-behind-text.false, led_length _ _ _ _ _ whole))

pub returns : goal.returns
returns c =
    let whole = c.leading_number-whole in
    let number = c.leading_number-number in
    let period : whole.result.1.now ≡ 46 ∷ c.in-Some.fraction.now = search rules in
    front_pointed _ _ _ _ _ _ _ _ whole.ensures.led period number.ensures.led refl (omega (arith, c.if-places-eq0.false)) c.tens.ensures.power
