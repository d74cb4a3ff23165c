-- The steps of the worked examples.
use Rattle.std.proofs.Common.{ℕ, [], ◌∷◌, refl, arith, inl}
use Rattle.std.proofs.lemmas.List.Elements.{All-cons, All-nil}
use Rattle.ld_steps.specs.Laws.{AreSteps}
use Rattle.ld_inline.specs.Rows.{step}
use Rattle.ld_inline.proofs.Texts.{IsWithin}

pub one_step : (count : ℕ) → AreSteps count (step 0 count [] ∷ [])
one_step count =
    record { some = λ none. cc; cover = (refl, omega arith, refl); within = All-cons (IsWithin count) (step 0 count []) [] (omega arith, omega arith) (All-nil (IsWithin count)); views = (inl refl, tt) }
