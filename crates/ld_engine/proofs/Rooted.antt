-- A root is expanded line by line.
use Rattle.std.proofs.Common.{◌≡◌, ◌≤◌, ◌<◌, ◌+◌, ◌⊎◌, inl, inr, true, false, ℕ, zero, suc, List, [], ◌∷◌, ◌++◌, length, map, take, drop, Option, Some, None, Ok, Err, refl, ap, sym, ◌∙◌, append_assoc, arith}
use Rattle.std.specs.Prelude.{is_some, slice_get}
use Rattle.std.proofs.lemmas.List.{append-nil, length-append, length-map}
use Rattle.ld_names.specs.declared.file.TextId.{TextId}
use Rattle.ld_line.specs.declared.line.Line.{Line}
use Rattle.ld_bfc.specs.LineState.{next, start}
use Rattle.ld_bfc.specs.declared.culling.State.{State}
use Rattle.ld_entry.specs.Answers.{until_end}
use Rattle.ld_entry.specs.Carrying.{Outcome}
use Rattle.ld_entry.specs.NumberedTexts.{NumberedTexts}
use Rattle.ld_entry.specs.Outcomes.{all, all_by_line, concatenation, Context, line_outcomes, outcomes_by_line, outcomes_from}
use Rattle.ld_entry.specs.declared.entry.Entry.{Entry}
use Rattle.ld_entry.specs.declared.entry.Fault.{Fault}
use Rattle.ld_engine.specs.Gathering.{Gathers, alone, enter_with}
use Rattle.ld_engine.specs.Inside.Ends.{line_ends}
use Rattle.ld_engine.proofs.Expanded.{at-line, past-lines}
use Rattle.ld_engine.proofs.Gathered.{full}

pub by-line : (left : ℕ) (context : Context) → all_by_line left context ≡ outcomes_by_line (enter_with left) context
unfolding all_by_line
by-line zero context = refl
by-line (suc left) context = refl

-- ---- Outcomes that are all gathered.

-- what is cut nowhere is all
cut-nowhere : (most : ℕ) (entries : List Entry) (outcomes : List Outcome) → length entries ≤ most → until_end most (map Ok entries) ≡ until_end most outcomes → map Ok entries ≡ outcomes
cut-nowhere most [] [] few same = refl
cut-nowhere most [] (Err fault ∷ outcomes) few same = cc
cut-nowhere zero [] (Ok entry ∷ outcomes) few same = cc
cut-nowhere (suc most) [] (Ok entry ∷ outcomes) few same = cc
cut-nowhere zero (entry ∷ entries) outcomes few same = absurd (omega arith)
cut-nowhere (suc most) (entry ∷ entries) [] few same = cc
cut-nowhere (suc most) (entry ∷ entries) (Err fault ∷ outcomes) few same = cc
cut-nowhere (suc most) (entry ∷ entries) (Ok other ∷ outcomes) few same =
    let first : entry ≡ other = cc in
    let rest : until_end most (map Ok entries) ≡ until_end most outcomes = cc in
    ap (λ e. Ok e ∷ map Ok entries) first ∙ ap (λ os. Ok other ∷ os) (cut-nowhere most entries outcomes (omega arith) rest)

all-gathered : (most : ℕ) (old new : List Entry) (outcomes : List Outcome) → length new ≤ most → Gathers most old new None outcomes → map Ok new ≡ map Ok old ++ outcomes
all-gathered most old new outcomes few gives =
    let same : until_end most (map Ok new) ≡ until_end most (map Ok old ++ outcomes) = ap (until_end most) (sym (append-nil (map Ok new))) ∙ gives [] ∙ ap (λ os. until_end most (map Ok old ++ os)) (append-nil outcomes) in
    cut-nowhere most new (map Ok old ++ outcomes) few same

-- ---- The lines of a root.

module _ (most left : ℕ) (texts : NumberedTexts) (root : TextId) where
  abbrev here : Context
  here = alone texts [] root

  -- what is left to come, by the number of lines before it
  abbrev lines_left : State → ℕ → List (List Outcome)
  lines_left state number = outcomes_from (enter_with left) here state (suc number) (drop number (texts.lines root))

  -- the entries so far and what is left are all outcomes, and so with the ends of lines
  abbrev pub IsRooted : List Entry → List ℕ → State → ℕ → Type 0
  IsRooted entries ends state number =
      (length entries ≤ most) × (map Ok entries ++ concatenation (lines_left state number) ≡ all left here) × (ends ++ line_ends (length entries) (map length (lines_left state number)) ≡ 0 ∷ line_ends 0 (map length (all_by_line left here)))

  none-dropped : (xs : List Line) → drop 0 xs ≡ xs
  none-dropped [] = refl
  none-dropped (x ∷ xs) = refl

  pub root-begun : (state : State) → state ≡ start (texts.is_part root) → IsRooted [] (0 ∷ []) state 0
  root-begun state is =
      let lines : lines_left state 0 ≡ all_by_line left here = ap (λ s. outcomes_from (enter_with left) here s 1 (drop 0 (texts.lines root))) is ∙ ap (outcomes_from (enter_with left) here (start (texts.is_part root)) 1) (none-dropped (texts.lines root)) ∙ sym (by-line left here) in
      (omega arith, ap concatenation lines, ap (λ ls. 0 ∷ line_ends 0 (map length ls)) lines)

  module _ (entries : List Entry) (ends : List ℕ) (state : State) (number : ℕ) (so_far : IsRooted entries ends state number) where
    pub root-done : slice_get (texts.lines root) number ≡ None → Gathers most [] entries None (all left here) × (ends ≡ 0 ∷ line_ends 0 (map length (all_by_line left here)))
    root-done none =
        let lines : lines_left state number ≡ [] = ap (outcomes_from (enter_with left) here state (suc number)) (past-lines (texts.lines root) number none) in
        let whole : map Ok entries ≡ all left here = sym (append-nil (map Ok entries)) ∙ ap (λ ls. map Ok entries ++ concatenation ls) (sym lines) ∙ so_far.1 in
        (λ behind. ap (λ os. until_end most (os ++ behind)) whole, sym (append-nil ends) ∙ ap (λ ls. ends ++ line_ends (length entries) (map length ls)) (sym lines) ∙ so_far.2)

    module _ (new : List Entry) (after : State) (line : Line) (at : slice_get (texts.lines root) number ≡ Some line) (follows : after ≡ next state line) where
      abbrev line_gives : List Outcome
      line_gives = line_outcomes (enter_with left) here state (record { text = root; line = number + 1 }) line

      more : number + 1 ≡ suc number
      more = omega arith

      left-is : lines_left state number ≡ line_gives ∷ lines_left after (number + 1)
      left-is =
          ap (outcomes_from (enter_with left) here state (suc number)) (at-line (texts.lines root) number line at)
          ∙ ap (λ n. line_outcomes (enter_with left) here state (record { text = root; line = n }) line ∷ outcomes_from (enter_with left) here (next state line) (suc n) (drop n (texts.lines root))) (sym more)
          ∙ ap (λ s. line_gives ∷ lines_left s (number + 1)) (sym follows)

      behind-is : (behind : List Outcome) → map Ok entries ++ (line_gives ++ (concatenation (lines_left after (number + 1)) ++ behind)) ≡ all left here ++ behind
      behind-is behind =
          ap (λ os. map Ok entries ++ os) (sym (append_assoc line_gives (concatenation (lines_left after (number + 1))) behind))
          ∙ sym (append_assoc (map Ok entries) (line_gives ++ concatenation (lines_left after (number + 1))) behind)
          ∙ ap (λ ls. (map Ok entries ++ concatenation ls) ++ behind) (sym left-is) ∙ ap (λ os. os ++ behind) so_far.1

      root-faulted : (fault : Fault) → Gathers most entries new (Some fault) line_gives → Gathers most [] new (Some fault) (all left here)
      root-faulted fault gives behind =
          gives (concatenation (lines_left after (number + 1)) ++ behind) ∙ ap (until_end most) (behind-is behind)

      root-full : most < length new → Gathers most entries new None line_gives → Gathers most [] new None (all left here)
      root-full many gives behind =
          let more = concatenation (lines_left after (number + 1)) ++ behind in
          full most new behind more many ∙ gives more ∙ ap (until_end most) (behind-is behind)

      -- a fault or an entry too many stops the root
      pub root-stopped : (end : Option Fault) → (is_some end ≡ true) ⊎ (most < length new) → Gathers most entries new end line_gives → Gathers most [] new end (all left here)
      root-stopped (Some fault) stop gives = root-faulted fault gives
      root-stopped None (inl some) gives = cc
      root-stopped None (inr many) gives = root-full many gives

      pub root-passed : (count : ℕ) → count ≡ length new → length new ≤ most → Gathers most entries new None line_gives → IsRooted new (ends ++ count ∷ []) after (number + 1)
      root-passed count is few gives =
          let grown : map Ok new ≡ map Ok entries ++ line_gives = all-gathered most entries new line_gives few gives in
          let size : length new ≡ length entries + length line_gives = sym (length-map new Ok) ∙ ap length grown ∙ length-append (map Ok entries) line_gives ∙ ap (λ n. n + length line_gives) (length-map entries Ok) in
          let rest = lines_left after (number + 1) in (
            few,
            ap (λ os. os ++ concatenation rest) grown ∙ append_assoc (map Ok entries) line_gives (concatenation rest) ∙ ap (λ ls. map Ok entries ++ concatenation ls) (sym left-is) ∙ so_far.1,
            append_assoc ends (count ∷ []) (line_ends (length new) (map length rest))
                ∙ ap (λ n. ends ++ n ∷ line_ends (length new) (map length rest)) (is ∙ size)
                ∙ ap (λ n. ends ++ (length entries + length line_gives) ∷ line_ends n (map length rest)) size
                ∙ ap (λ ls. ends ++ line_ends (length entries) (map length ls)) (sym left-is) ∙ so_far.2,
          )

-- the next of the lines that are left
pub next-line : {A : Type 0} (xs : List A) (n : ℕ) (x : A) (ys : List A) → drop n xs ≡ x ∷ ys → (slice_get xs n ≡ Some x) × (ys ≡ drop (n + 1) xs)
next-line [] zero x ys is = cc
next-line [] (suc n) x ys is = cc
next-line (z ∷ xs) zero x ys is =
    let same : z ≡ x = cc in let rest : ys ≡ xs = cc in (ap Some same, rest)
next-line (z ∷ xs) (suc n) x ys is =
    let more : suc n + 1 ≡ suc (n + 1) = omega arith in
    let rest = next-line xs n x ys is in (rest.0, rest.1 ∙ ap (λ m. drop m (z ∷ xs)) (sym more))

-- one line more is read, and at last all are
pub take-one : {A : Type 0} (xs : List A) (n : ℕ) (x : A) → slice_get xs n ≡ Some x → take (n + 1) xs ≡ take n xs ++ x ∷ []
take-one [] n x is = cc
take-one (y ∷ xs) zero x is = let same : y ≡ x = cc in ap (λ z. z ∷ []) same
take-one (y ∷ xs) (suc n) x is =
    let more : suc n + 1 ≡ suc (n + 1) = omega arith in ap (λ m. take m (y ∷ xs)) more ∙ ap (λ zs. y ∷ zs) (take-one xs n x is)

pub all-taken : {A : Type 0} (xs : List A) (n : ℕ) → slice_get xs n ≡ None → take n xs ≡ xs
all-taken [] zero none = refl
all-taken [] (suc n) none = refl
all-taken (x ∷ xs) zero none = cc
all-taken (x ∷ xs) (suc n) none = ap (λ ys. x ∷ ys) (all-taken xs n none)

pub no-end : (end : Option Fault) → is_some end ≡ false → end ≡ None
no-end None none = refl
no-end (Some fault) none = cc
