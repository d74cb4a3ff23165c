-- The laws of the states of back face culling.
use Rattle.std.proofs.Common.{◌≡◌, ◌+◌, ◌-◌, ◌++◌, ℕ, Bool, List, [], ◌∷◌, length, refl, arith}
use Rattle.std.proofs.Math.Seq.{take-append_seam, take-append-add}
use Rattle.std.proofs.lemmas.List.Sums.{fold-append}
use Rattle.ld_line.specs.declared.line.Line.{Line}
use Rattle.ld_line.specs.declared.line.Line.TheVariants.{Ref, Draw, Bfc}
use Rattle.ld_bfc.specs.LineState.{next, start, state_before}
use Rattle.ld_bfc.specs.Laws.{QuietLineLaw, StateLaws}

pub quiet_line : QuietLineLaw
unfolding next
quiet_line state (Ref colour placement name) e = cc
quiet_line state (Draw kind colour points) e = cc
quiet_line state (Bfc word) e = cc
quiet_line state line e = refl

less_one : (n : ℕ) → n + 1 - 1 ≡ n
less_one n = omega arith

less_two : (n : ℕ) → n + 2 - 1 ≡ n + 1
less_two n = omega arith

further : (part : Bool) (before behind : List Line) (line : Line) → state_before part (before ++ line ∷ behind) (length before + 2) ≡ next (state_before part (before ++ line ∷ behind) (length before + 1)) line
unfolding state_before
further part before behind line =
    rw (less_one (length before), less_two (length before), take-append_seam before (line ∷ behind), take-append-add before (line ∷ behind) 1, fold-append next (start part) before (line ∷ [])) refl

first : (part : Bool) (lines : List Line) → state_before part lines 1 ≡ start part
unfolding state_before
first part lines = refl

pub states : StateLaws
states = record { first = first; further = further }
