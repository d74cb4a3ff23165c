-- The ends of lines in an expansion.
use Rattle.std.proofs.Common.{◌≡◌, ◌<◌, ℕ, zero, suc, List, [], ◌∷◌, ◌++◌, length, take, drop, Some, Ok, Err, refl, ap, sym, ◌∙◌, append_assoc, arith}
use Rattle.std.specs.Prelude.{slice_get}
use Rattle.std.proofs.lemmas.List.{append-nil}
use Rattle.ld_entry.specs.Carrying.{Outcome}
use Rattle.ld_entry.specs.Expansion.{ends_behind, first_entries}
use Rattle.ld_entry.specs.Laws.{EndsLaws}
use Rattle.ld_entry.specs.Outcomes.{concatenation}

ends-count : (most : ℕ) (before : List Outcome) (lines : List (List Outcome)) → length (ends_behind most before lines) ≡ length lines
ends-count most before [] = refl
ends-count most before (line ∷ lines) = ap suc (ends-count most (before ++ line) lines)

ends-at : (most : ℕ) (before : List Outcome) (lines : List (List Outcome)) (n : ℕ) → n < length lines → slice_get (ends_behind most before lines) n ≡ Some (length (first_entries most (before ++ concatenation (take (suc n) lines))))
ends-at most before [] n below = absurd (omega arith)
ends-at most before (line ∷ lines) zero below = ap (λ xs. Some (length (first_entries most (before ++ xs)))) (sym (append-nil line))
ends-at most before (line ∷ lines) (suc n) below =
    ends-at most (before ++ line) lines n (omega arith) ∙ ap (λ xs. Some (length (first_entries most xs))) (append_assoc before line (concatenation (take (suc n) lines)))

-- the first entries of a front are the first ones of the whole
first_entries-front : (most : ℕ) (xs ys : List Outcome) → take (length (first_entries most xs)) (first_entries most (xs ++ ys)) ≡ first_entries most xs
first_entries-front most [] ys = refl
first_entries-front most (Err e ∷ xs) ys = refl
first_entries-front zero (Ok entry ∷ xs) ys = refl
first_entries-front (suc most) (Ok entry ∷ xs) ys = ap (λ es. entry ∷ es) (first_entries-front most xs ys)

concatenation-front : {A : Type 0} (lines : List (List A)) (n : ℕ) → concatenation (take n lines) ++ concatenation (drop n lines) ≡ concatenation lines
concatenation-front lines zero = refl
concatenation-front [] (suc n) = refl
concatenation-front (line ∷ lines) (suc n) = append_assoc line (concatenation (take n lines)) (concatenation (drop n lines)) ∙ ap (λ xs. line ++ xs) (concatenation-front lines n)

pub ends : EndsLaws
ends = record {
  count = λ most lines. ends-count most [] lines;
  counts = λ most lines n below. ends-at most [] lines n below;
  first = λ most lines n. ap (λ xs. take (length (first_entries most (concatenation (take n lines)))) (first_entries most xs)) (sym (concatenation-front lines n)) ∙ first_entries-front most (concatenation (take n lines)) (concatenation (drop n lines));
}
