-- Cutting a text at its line feeds, one piece at a time.
use Rattle.std.proofs.Common.{◌≡◌, ◌≢◌, ◌<◌, ◌+◌, ℕ, Bool, true, false, List, [], ◌∷◌, ◌++◌, cond, length, take, drop, map, refl, ap, sym, ◌∙◌, arith, tests, ◌==◌, Some, None}
use Rattle.std.specs.List.{slice_split, onto_first, position_or_len}
use Rattle.std.specs.Str.Lines.{strip_carriage_return}
use Rattle.std.proofs.lemmas.List.Splits.{slice_split_none, slice_split_first}
use Rattle.std.proofs.lemmas.List.Sums.{position_or_len_is}
use Rattle.std.proofs.lemmas.List.{get_or_default}
use Rattle.memchr.specs.Find.{IsFirstByte}
use Rattle.ld_line.specs.Cut.{cut, is_line_feed, lines_from, without_empty_end}

not_true : (b : Bool) → (b ≡ true → ⊥) → b ≡ false
not_true true h = absurd (h refl)
not_true false h = refl

-- where no byte passes, the list is one piece
pub slice_split-none : (xs : List ℕ) → IsFirstByte is_line_feed xs None → slice_split is_line_feed xs ≡ xs ∷ []
slice_split-none xs none = slice_split_none is_line_feed xs (λ k d below. not_true _ (λ passes. none k (omega arith) below (ap is_line_feed (get_or_default xs k 0 d below) ∙ passes)))

-- the first piece ends at the first line feed
pub slice_split-some : (xs : List ℕ) (k : ℕ) → IsFirstByte is_line_feed xs (Some k) → slice_split is_line_feed xs ≡ take k xs ∷ slice_split is_line_feed (drop (k + 1) xs)
slice_split-some xs k first =
    let at : position_or_len is_line_feed xs ≡ k = position_or_len_is is_line_feed xs k 0 (omega (arith, first.0.high)) (λ j below. not_true _ (first.0.before j (omega arith) below)) (λ _. first.1) in
    let here : position_or_len is_line_feed xs < length xs = rw at first.0.high in
    slice_split_first is_line_feed xs 0 here ∙ rw at refl

without_empty_end-onto : (piece : List ℕ) (x : ℕ) (pieces : List (List ℕ)) → without_empty_end (piece ∷ onto_first x pieces) ≡ piece ∷ without_empty_end (onto_first x pieces)
without_empty_end-onto piece x [] = refl
without_empty_end-onto piece x (p ∷ ps) = refl

-- a piece before other pieces stays
pub without_empty_end-more : (piece xs : List ℕ) → without_empty_end (piece ∷ slice_split is_line_feed xs) ≡ piece ∷ without_empty_end (slice_split is_line_feed xs)
without_empty_end-more piece [] = refl
without_empty_end-more piece (x ∷ xs) =
    elim (is_line_feed x) as (λ b. without_empty_end (piece ∷ cond b ([] ∷ slice_split is_line_feed xs) (onto_first x (slice_split is_line_feed xs))) ≡ piece ∷ without_empty_end (cond b ([] ∷ slice_split is_line_feed xs) (onto_first x (slice_split is_line_feed xs)))) [ true ↦ refl | false ↦ without_empty_end-onto piece x (slice_split is_line_feed xs) ]

pub cut-more : (xs piece more : List ℕ) → slice_split is_line_feed xs ≡ piece ∷ slice_split is_line_feed more → cut xs ≡ strip_carriage_return piece ∷ cut more
cut-more xs piece more is =
    ap (λ pieces. map strip_carriage_return (without_empty_end pieces)) is ∙ ap (map strip_carriage_return) (without_empty_end-more piece more)

pub cut-last : (xs : List ℕ) → slice_split is_line_feed xs ≡ xs ∷ [] → 0 < length xs → cut xs ≡ strip_carriage_return xs ∷ []
cut-last [] is some = absurd (omega arith)
cut-last (x ∷ xs) is some =
    let kept : (length (x ∷ xs) == 0) ≡ false = grind (arith, tests) in
    ap (λ pieces. map strip_carriage_return (without_empty_end pieces)) is ∙ rw kept refl

-- the first line, and the lines behind it
pub lines_from-first : (text piece more : List ℕ) → slice_split is_line_feed text ≡ piece ∷ slice_split is_line_feed more → lines_from text ≡ strip_carriage_return piece ∷ lines_from more
unfolding lines_from
lines_from-first text piece more is = cut-more text piece more is

pub lines_from-last : (text : List ℕ) → slice_split is_line_feed text ≡ text ∷ [] → 0 < length text → lines_from text ≡ strip_carriage_return text ∷ lines_from []
unfolding lines_from
lines_from-last text is some = cut-last text is some

pub lines_from-none : (text : List ℕ) → length text ≡ 0 → lines_from text ≡ []
unfolding lines_from
lines_from-none [] ends = refl
lines_from-none (x ∷ xs) ends = absurd (omega arith)

-- a text with one more line to come has lines
pub lines-some : (old now more whole : List (List ℕ)) (line : List ℕ) → now ≡ line ∷ more → old ++ now ≡ whole → whole ≢ []
lines-some [] now more whole line first so_far none = cons_some (sym first ∙ so_far ∙ none)
  where
    cons_some : line ∷ more ≢ []
    cons_some e = cc
lines-some (x ∷ old) now more whole line first so_far none = cons_some (so_far ∙ none)
  where
    cons_some : x ∷ (old ++ now) ≢ []
    cons_some e = cc
