-- The used points of a line of two, three or four are moved.
use Rattle.std.proofs.Common.{◌≡◌, ◌∙◌, ℕ, List, [], ◌∷◌, true, false, length, get_or, Some, None, refl, ap, sym, arith}
use denote.Enum.Bare.{sameb}
use Rattle.ld_line.specs.contracts.line.Kind.{the_type}
use Rattle.ld_line.specs.Kind.{points_in}
use Rattle.ld_line.specs.declared.line.Kind.{Kind}
use Rattle.ld_line.specs.declared.line.Kind.TheVariants.{Line2, Tri, Quad, Opt}
use Rattle.ld_num.specs.Placing.{moved}
use Rattle.ld_num.specs.declared.point.Placement.{Placement}
use Rattle.ld_num.specs.declared.point.Point.{Point}
use Rattle.ld_entry.specs.Carrying.{moved_points}

pub two : (kind : Kind) → sameb the_type kind Line2 ≡ true → points_in kind ≡ 2
two Line2 is = refl
two Tri is = absurd (cc)
two Quad is = absurd (cc)
two Opt is = absurd (cc)

pub three : (kind : Kind) → sameb the_type kind Tri ≡ true → points_in kind ≡ 3
three Line2 is = absurd (cc)
three Tri is = refl
three Quad is = absurd (cc)
three Opt is = absurd (cc)

pub four : (kind : Kind) → sameb the_type kind Line2 ≡ false → sameb the_type kind Tri ≡ false → points_in kind ≡ 4
four Line2 line tri = absurd (cc)
four Tri line tri = absurd (cc)
four Quad line tri = refl
four Opt line tri = refl

all-four : (points : List Point) (a b c d : Point) → length points ≡ 4 → get_or points 0 a ∷ get_or points 1 b ∷ get_or points 2 c ∷ get_or points 3 d ∷ [] ≡ points
all-four [] a b c d is = absurd (omega (arith, is))
all-four (p ∷ []) a b c d is = absurd (omega (arith, is))
all-four (p ∷ q ∷ []) a b c d is = absurd (omega (arith, is))
all-four (p ∷ q ∷ r ∷ []) a b c d is = absurd (omega (arith, is))
all-four (p ∷ q ∷ r ∷ s ∷ []) a b c d is = refl
all-four (p ∷ q ∷ r ∷ s ∷ t ∷ points) a b c d is = absurd (omega (arith, is))

module _ (by : Placement) (kind : Kind) (points : List Point) (a b c d : Point) (has_four : length points ≡ 4) where
  whole : (used : ℕ) → points_in kind ≡ used → moved_points by used (get_or points 0 a ∷ get_or points 1 b ∷ get_or points 2 c ∷ get_or points 3 d ∷ []) ≡ moved_points by (points_in kind) points
  whole used is = ap (moved_points by used) (all-four points a b c d has_four) ∙ ap (λ n. moved_points by n points) (sym is)

  pub two-moved : (p q : Point) → moved by (get_or points 0 a) ≡ Some p → moved by (get_or points 1 b) ≡ Some q → points_in kind ≡ 2 → Some (p ∷ q ∷ get_or points 2 c ∷ get_or points 3 d ∷ []) ≡ moved_points by (points_in kind) points
  unfolding moved_points
  two-moved p q first second is = rw first (rw second refl) ∙ whole 2 is

  pub three-moved : (p q r : Point) → moved by (get_or points 0 a) ≡ Some p → moved by (get_or points 1 b) ≡ Some q → moved by (get_or points 2 c) ≡ Some r → points_in kind ≡ 3 → Some (p ∷ q ∷ r ∷ get_or points 3 d ∷ []) ≡ moved_points by (points_in kind) points
  unfolding moved_points
  three-moved p q r first second third is = rw first (rw second (rw third refl)) ∙ whole 3 is

  pub four-moved : (p q r s : Point) → moved by (get_or points 0 a) ≡ Some p → moved by (get_or points 1 b) ≡ Some q → moved by (get_or points 2 c) ≡ Some r → moved by (get_or points 3 d) ≡ Some s → points_in kind ≡ 4 → Some (p ∷ q ∷ r ∷ s ∷ []) ≡ moved_points by (points_in kind) points
  unfolding moved_points
  four-moved p q r s first second third fourth is = rw first (rw second (rw third (rw fourth refl))) ∙ whole 4 is

  pub fourth-out : (p q r : Point) → moved by (get_or points 0 a) ≡ Some p → moved by (get_or points 1 b) ≡ Some q → moved by (get_or points 2 c) ≡ Some r → moved by (get_or points 3 d) ≡ None → points_in kind ≡ 4 → None ≡ moved_points by (points_in kind) points
  unfolding moved_points
  fourth-out p q r first second third fourth is = rw first (rw second (rw third (rw fourth refl))) ∙ whole 4 is
