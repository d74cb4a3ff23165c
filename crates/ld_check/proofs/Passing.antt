-- One line more is passed.
use Rattle.std.proofs.Common.{◌≡◌, ℕ, ◌+◌, ◌-◌, ◌<◌, ◌≤◌, Bool, true, false, not, ◌||◌, ◌&&◌, if◌then◌else◌, List, [], ◌∷◌, ◌++◌, Option, None, Some, ap, arith, drop, length, nat_lt, refl, sym, take, ◌∙◌, length-append, length-take}
use Rattle.std.specs.Prelude.{slice_get}
use Rattle.std.specs.List.{list_any}
use Rattle.std.proofs.lemmas.Bool.Decides.{nat_tests}
use Rattle.std.proofs.lemmas.List.{drop-append-le, drop_all, take_more}
use Rattle.std.proofs.lemmas.List.Folds.{list_any-append}
use Rattle.std.proofs.lemmas.Option.{get_or_from_slice_get, slice_get_within}
use Rattle.ld_line.specs.Reading.{line_of}
use Rattle.ld_check.specs.Inside.Drawn.{HasDrawn}
use Rattle.ld_check.specs.Inside.Passing.{IsPassed, header_rank}
use Rattle.ld_check.specs.Inside.Ranking.{IsHigher, place_of_rank}
use Rattle.ld_check.specs.Order.{is_below, is_body, is_statement, rank_of}
use Rattle.ld_check.specs.Text.{said}
use Rattle.ld_check.specs.declared.order.Rank.{Rank}
use Rattle.ld_check.specs.declared.passed.Passed.{Passed}

pub one_more : {A : Type 0} (items : List A) (number : ℕ) (item : A) → 0 < number → slice_get items (number - 1) ≡ Some item → take number items ≡ take (number - 1) items ++ item ∷ []
one_more items number item positive at =
    let up : number ≡ (number - 1) + 1 = omega arith in
    ap (λ n. take n items) up ∙ take_more items (number - 1) item (slice_get_within items (number - 1) item at) ∙ ap (λ x. take (number - 1) items ++ x ∷ []) (get_or_from_slice_get items (number - 1) item item at)

pub size_before : {A : Type 0} (items : List A) (number : ℕ) (item : A) → 0 < number → slice_get items (number - 1) ≡ Some item → length (take (number - 1) items) + 1 ≡ number
size_before items number item positive at =
    let within = slice_get_within items (number - 1) item at in omega (arith, length-take (number - 1) items)

or_false : (b : Bool) → (b || false) ≡ b
or_false true = refl
or_false false = refl

pub any_more : {A : Type 0} (test : A → Bool) (items : List A) (item : A) → list_any test (items ++ item ∷ []) ≡ (list_any test items || test item)
any_more test items item = list_any-append test items (item ∷ []) ∙ ap (λ b. list_any test items || b) (or_false (test item))

-- a rank that is none is below none, and none is below it
below_none : (rank : Option ℕ) → is_below rank None ≡ false
below_none None = refl
below_none (Some rank) = refl

-- a line is out of order where its rank in the header is below the highest
pub out_of_order : (late body is : Bool) (own highest : Option ℕ) (earlier : Bool) → (body ≡ false → is_below own highest ≡ earlier) → is_below (if late && not body && not is then own else None) highest ≡ (late && not (body || is) && earlier)
out_of_order true true is own highest earlier holds = refl
out_of_order true false true own highest earlier holds = refl
out_of_order true false false own highest earlier holds = holds refl
out_of_order false body is own highest earlier holds = refl

-- the highest rank, one line further
module _ (lines : List (List ℕ)) (bytes : List ℕ) (number : ℕ) (size : length lines + 1 ≡ number) where
  ranks : (rank : Option ℕ) → (late : Bool) → nat_lt 5 number ≡ late → list_any (λ earlier. is_below rank (rank_of earlier)) (drop 5 (lines ++ bytes ∷ [])) ≡ (list_any (λ earlier. is_below rank (rank_of earlier)) (drop 5 lines) || is_below rank (if late then rank_of bytes else None))
  ranks rank true late =
      let enough : 5 ≤ length lines = grind (arith, nat_tests) in
      ap (list_any (λ earlier. is_below rank (rank_of earlier))) (drop-append-le 5 lines (bytes ∷ []) enough) ∙ any_more (λ earlier. is_below rank (rank_of earlier)) (drop 5 lines) bytes
  ranks rank false late =
      let few : length lines + 1 ≤ 5 = grind (arith, nat_tests) in
      ap (list_any (λ earlier. is_below rank (rank_of earlier))) (drop_all 5 (lines ++ bytes ∷ []) (simp length-append (omega arith)) ∙ sym (drop_all 5 lines (omega arith))) ∙ sym (or_false (list_any (λ earlier. is_below rank (rank_of earlier)) (drop 5 lines))) ∙ ap (λ b. list_any (λ earlier. is_below rank (rank_of earlier)) (drop 5 lines) || b) (sym (below_none rank))

or_left : (a b : Bool) → (a || b) ≡ false → a ≡ false
or_left false b is = refl
or_left true b is = cc

or_right : (a b : Bool) → (a || b) ≡ false → b ≡ false
or_right false b is = is
or_right true b is = cc

chosen : (late body is : Bool) (own : Option ℕ) → body ≡ false → is ≡ false → (if late && not body && not is then own else None) ≡ (if late then own else None)
chosen true body is own none other = rw (none, other) refl
chosen false body is own none other = refl

-- one line more is passed
pub passed_more : (old new : Passed) (lines : List (List ℕ)) (bytes : List ℕ) (number : ℕ) (rank : Option Rank) (drawn : HasDrawn new.drawings (lines ++ bytes ∷ []))
    → length lines + 1 ≡ number
    → place_of_rank rank ≡ header_rank number old bytes (line_of bytes)
    → new.has_body ≡ (old.has_body || is_body (line_of bytes))
    → new.has_statement ≡ (old.has_statement || is_statement (line_of bytes))
    → IsHigher old.highest rank new.highest
    → IsPassed old lines
    → IsPassed new (lines ++ bytes ∷ [])
passed_more old new lines bytes number rank drawn size own body statement higher passed = record {
  body = body ∙ ap (λ b. b || is_body (line_of bytes)) passed.body ∙ sym (any_more (said is_body) lines bytes);
  statement = statement ∙ ap (λ b. b || is_statement (line_of bytes)) passed.statement ∙ sym (any_more (said is_statement) lines bytes);
  highest = λ none r.
      let was : old.has_body ≡ false = or_left old.has_body (is_body (line_of bytes)) (sym body ∙ none) in
      let is : is_body (line_of bytes) ≡ false = or_right old.has_body (is_body (line_of bytes)) (sym body ∙ none) in
      higher r ∙ ap (λ b. b || is_below r (place_of_rank rank)) (passed.highest was r) ∙ ap (λ place. list_any (λ earlier. is_below r (rank_of earlier)) (drop 5 lines) || is_below r place) (own ∙ chosen (nat_lt 5 number) old.has_body (is_body (line_of bytes)) (rank_of bytes) was is) ∙ sym (ranks lines bytes number size r (nat_lt 5 number) refl);
  drawn = drawn;
}
