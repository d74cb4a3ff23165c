-- Four points that are in range.
use Rattle.std.proofs.Common.{◌≡◌, ◌<◌, ℕ, zero, suc, List, [], ◌∷◌, length, get_or, refl, arith}
use Rattle.ld_line.specs.Printing.{IsPoint}
use Rattle.ld_num.specs.declared.point.Point.{Point}
use Rattle.ld_inline.specs.Inside.Shown.{AreFourPoints}

pub four_points : (points : List Point) (a b c d : Point) → length points ≡ 4 → IsPoint (get_or points 0 a) → IsPoint (get_or points 1 b) → IsPoint (get_or points 2 c) → IsPoint (get_or points 3 d) → AreFourPoints points
four_points [] a b c d is first second third fourth = absurd (omega (arith, is))
four_points (p ∷ []) a b c d is first second third fourth = absurd (omega (arith, is))
four_points (p ∷ q ∷ []) a b c d is first second third fourth = absurd (omega (arith, is))
four_points (p ∷ q ∷ r ∷ []) a b c d is first second third fourth = absurd (omega (arith, is))
four_points (p ∷ q ∷ r ∷ s ∷ t ∷ points) a b c d is first second third fourth = absurd (omega (arith, is))
four_points (p ∷ q ∷ r ∷ s ∷ []) a b c d is first second third fourth = (refl, at)
  where
    at : (k : ℕ) (e : Point) → k < 4 → IsPoint (get_or (p ∷ q ∷ r ∷ s ∷ []) k e)
    at zero e within = first
    at (suc zero) e within = second
    at (suc (suc zero)) e within = third
    at (suc (suc (suc zero))) e within = fourth
    at (suc (suc (suc (suc k)))) e within = absurd (omega (arith, within))
