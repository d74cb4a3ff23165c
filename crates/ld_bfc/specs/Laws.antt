-- Laws of the states of back face culling and of what references pass down.
use Rattle.std.specs.Prelude.{◌≡◌, ◌+◌, ◌++◌, Bool, true, false, List, ◌∷◌, length}
use Rattle.ld_line.specs.declared.line.Line.{Line}
use Rattle.ld_line.specs.declared.line.Line.TheVariants.{Ref, Draw, Bfc}
use Rattle.ld_bfc.specs.declared.culling.State.{State}
use Rattle.ld_bfc.specs.declared.passing.Below.{Below}
use Rattle.ld_bfc.specs.LineState.{next, start, state_before}
use Rattle.ld_bfc.specs.Passing.{neutral, with}

pub record WithLaws : Type 0 where
  pub associative : (a b c : Below) → with a (with b c) ≡ with (with a b) c
  pub left_unit : (a : Below) → with neutral a ≡ a
  pub right_unit : (a : Below) → with a neutral ≡ a

-- a line that is no reference, draws nothing and is no BFC statement
abbrev pub is_quiet : Line → Bool
is_quiet (Ref colour placement name) = false
is_quiet (Draw kind colour points) = false
is_quiet (Bfc word) = false
is_quiet line = true

abbrev pub QuietLineLaw : Type 0
QuietLineLaw = (state : State) (line : Line) → is_quiet line ≡ true → next state line ≡ state

pub record StateLaws : Type 0 where
  pub first : (part : Bool) (lines : List Line) → state_before part lines 1 ≡ start part
  pub further : (part : Bool) (before behind : List Line) (line : Line) → state_before part (before ++ line ∷ behind) (length before + 2) ≡ next (state_before part (before ++ line ∷ behind) (length before + 1)) line
