-- What each line of a text gives.
use Rattle.std.proofs.Common.{◌≡◌, ◌+◌, ◌++◌, ℕ, zero, suc, Bool, List, [], ◌∷◌, length, Some, refl, ap, sym, ◌∙◌, append_assoc, length-append, arith}
use Rattle.std.specs.Prelude.{slice_get}
use Rattle.ld_line.specs.declared.line.Line.{Line}
use Rattle.ld_bfc.specs.Laws.{StateLaws}
use Rattle.ld_bfc.specs.LineState.{next, state_before}
use Rattle.ld_bfc.specs.declared.culling.State.{State}
use Rattle.ld_entry.specs.Carrying.{Outcome}
use Rattle.ld_entry.specs.Laws.{LineLaws}
use Rattle.ld_entry.specs.Outcomes.{all_by_line, Context, Enter, enter_with, line_outcomes, outcomes_by_line, outcomes_from}

count_from : (enter : Enter) (context : Context) (state : State) (number : ℕ) (lines : List Line) → length (outcomes_from enter context state number lines) ≡ length lines
count_from enter context state number [] = refl
count_from enter context state number (line ∷ lines) = ap suc (count_from enter context (next state line) (suc number) lines)

-- what a line gives, by its number
abbrev given : Enter → Context → Bool → List Line → ℕ → Line → List Outcome
given enter context part whole number line = line_outcomes enter context (state_before part whole number) (record { text = context.text; line = number }) line

by-line : (left : ℕ) (context : Context) → all_by_line left context ≡ outcomes_by_line (enter_with left) context
unfolding all_by_line
by-line zero context = refl
by-line (suc left) context = refl

place : (index : ℕ) → 1 + index ≡ index + 1
place index = omega arith

module _ (states : StateLaws) where
  next_state : (part : Bool) (whole before behind : List Line) (line : Line) (number : ℕ) → whole ≡ before ++ line ∷ behind → length before + 1 ≡ number → next (state_before part whole number) line ≡ state_before part whole (suc number)
  next_state part whole before behind line number parts is =
      let more : length before + 2 ≡ suc number = omega arith in
      rw (parts, sym is) (sym (states.further part before behind line) ∙ ap (state_before part (before ++ line ∷ behind)) (more ∙ ap suc (sym is)))

  from : (enter : Enter) (context : Context) (part : Bool) (whole before rest : List Line) (state : State) (number index : ℕ) (line : Line) → whole ≡ before ++ rest → length before + 1 ≡ number → state ≡ state_before part whole number → slice_get rest index ≡ Some line → slice_get (outcomes_from enter context state number rest) index ≡ Some (given enter context part whole (number + index) line)
  from enter context part whole before [] state number index line parts is now here = absurd cc
  from enter context part whole before (first ∷ rest) state number zero line parts is now here =
      let place : number ≡ number + 0 = omega arith in
      let same : first ≡ line = cc in
      rw (now, same) (ap (λ n. Some (given enter context part whole n line)) place)
  from enter context part whole before (first ∷ rest) state number (suc index) line parts is now here =
      let after : next state first ≡ state_before part whole (suc number) = ap (λ s. next s first) now ∙ next_state part whole before rest first number parts is in
      let places : suc number + index ≡ number + suc index = omega arith in
      let behind = from enter context part whole (before ++ first ∷ []) rest (next state first) (suc number) index line (parts ∙ sym (append_assoc before (first ∷ []) rest)) (omega (arith, length-append before (first ∷ []))) after here in
      behind ∙ ap (λ n. Some (given enter context part whole n line)) places

  pub lines : LineLaws
  lines = record {
    count = λ enter context. count_from enter context _ 1 (context.texts.lines context.text);
    all_lines = by-line;
    line = λ enter context index line here.
        let part = context.texts.is_part context.text in
        let whole = context.texts.lines context.text in
        from enter context part whole [] whole _ 1 index line refl refl (sym (states.first part whole)) here ∙ ap (λ n. Some (given enter context part whole n line)) (place index);
  }
