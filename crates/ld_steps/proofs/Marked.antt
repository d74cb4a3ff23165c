-- Steps that are marked line by line.
use Rattle.std.proofs.Common.{◌≡◌, ◌≤◌, ◌<◌, ◌+◌, ◌^◌, ◌||◌, ◌&&◌, ◌==◌, not, ◌⊎◌, inl, inr, ℕ, zero, suc, Bool, true, false, cond, List, [], ◌∷◌, ◌++◌, length, take, drop, Some, refl, ap, sym, ◌∙◌, length-take, arith}
use Rattle.std.specs.Prelude.{slice_get}
use Rattle.std.specs.List.{fold, list_any}
use Rattle.std.proofs.lemmas.Bool.{eqb-true}
use Rattle.std.proofs.lemmas.List.{append-nil, drop-append-le, nil_from_length}
use Rattle.std.proofs.lemmas.List.Folds.{list_any-append}
use Rattle.std.proofs.lemmas.List.Sums.{fold-append}
use Rattle.std.proofs.lemmas.Option.{slice_get_within}
use Rattle.ld_line.specs.Shown.{shows}
use Rattle.ld_line.specs.declared.line.Line.{Line}
use Rattle.ld_line.specs.declared.line.Line.TheVariants.{Rot, Step}
use Rattle.ld_line.specs.declared.line.RotWord.{RotWord}
use Rattle.ld_steps.specs.Inside.Marking.{EndsStep, IsMarked, MarksLine}
use Rattle.ld_steps.specs.Steps.{is_step_line, last_end, last_lines, last_number, step_ends, step_lines, steps_between, steps_of}
use Rattle.ld_steps.specs.View.{view_behind, viewed}
use Rattle.ld_steps.specs.declared.marking.Marking.{Marking}
use Rattle.ld_steps.specs.declared.step.StepMark.{StepMark}
use Rattle.ld_steps.specs.declared.step.Turn.{Turn}

-- ---- One line more.

pub take-one : {A : Type 0} (xs : List A) (n : ℕ) (x : A) → slice_get xs n ≡ Some x → take (n + 1) xs ≡ take n xs ++ x ∷ []
take-one [] n x is = cc
take-one (y ∷ xs) zero x is = let same : y ≡ x = cc in ap (λ z. z ∷ []) same
take-one (y ∷ xs) (suc n) x is =
    let more : suc n + 1 ≡ suc (n + 1) = omega arith in ap (λ m. take m (y ∷ xs)) more ∙ ap (λ zs. y ∷ zs) (take-one xs n x is)

abbrev if_step_line : Line → ℕ → List ℕ
if_step_line line number = cond (is_step_line line) (number ∷ []) []

step_lines-more : (before : ℕ) (xs : List Line) (line : Line) → step_lines before (xs ++ line ∷ []) ≡ step_lines before xs ++ if_step_line line (before + length xs + 1)
step_lines-more before [] line = ap (λ n. if_step_line line (n + 1)) (sym (add-zero' before))
  where
    add-zero' : (n : ℕ) → n + 0 ≡ n
    add-zero' n = omega arith
step_lines-more before (x ∷ xs) line =
    let number : before + 1 + length xs + 1 ≡ before + suc (length xs) + 1 = omega arith in
    let rest : step_lines (before + 1) (xs ++ line ∷ []) ≡ step_lines (before + 1) xs ++ if_step_line line (before + suc (length xs) + 1) = step_lines-more (before + 1) xs line ∙ ap (λ n. step_lines (before + 1) xs ++ if_step_line line n) number in
    by (is_step_line x) rest
  where
    by : (b : Bool) → step_lines (before + 1) (xs ++ line ∷ []) ≡ step_lines (before + 1) xs ++ if_step_line line (before + suc (length xs) + 1) → cond b ((before + 1) ∷ step_lines (before + 1) (xs ++ line ∷ [])) (step_lines (before + 1) (xs ++ line ∷ [])) ≡ cond b ((before + 1) ∷ step_lines (before + 1) xs) (step_lines (before + 1) xs) ++ if_step_line line (before + suc (length xs) + 1)
    by true rest = ap (λ ns. (before + 1) ∷ ns) rest
    by false rest = rest

pub last_of-more : (number : ℕ) (numbers : List ℕ) (last : ℕ) → last_number number (numbers ++ last ∷ []) ≡ last
last_of-more number [] last = refl
last_of-more number (next ∷ numbers) last = last_of-more next numbers last

pub steps_between-more : (lines : List Line) (before : ℕ) (ends : List ℕ) (end : ℕ) → steps_between lines before (ends ++ end ∷ []) ≡ steps_between lines before ends ++ record { first_line = last_number before ends + 1; last_line = end; view = view_behind lines end } ∷ []
steps_between-more lines before [] end = refl
steps_between-more lines before (next ∷ ends) end =
    ap (λ steps. record { first_line = before + 1; last_line = next; view = view_behind lines next } ∷ steps) (steps_between-more lines next ends end)

-- ---- The last step line.

pub last-within : (start before : ℕ) (xs : List Line) → start ≤ before → (start ≤ last_number start (step_lines before xs)) × (last_number start (step_lines before xs) ≤ before + length xs)
last-within start before [] h = (omega arith, omega arith)
last-within start before (x ∷ xs) h =
    by (is_step_line x) (last-within (before + 1) (before + 1) xs (omega arith)) (last-within start (before + 1) xs (omega arith))
  where
    by : (b : Bool) → (before + 1 ≤ last_number (before + 1) (step_lines (before + 1) xs)) × (last_number (before + 1) (step_lines (before + 1) xs) ≤ before + 1 + length xs) → (start ≤ last_number start (step_lines (before + 1) xs)) × (last_number start (step_lines (before + 1) xs) ≤ before + 1 + length xs) → (start ≤ last_number start (cond b ((before + 1) ∷ step_lines (before + 1) xs) (step_lines (before + 1) xs))) × (last_number start (cond b ((before + 1) ∷ step_lines (before + 1) xs) (step_lines (before + 1) xs)) ≤ before + suc (length xs))
    by true on off = (omega (arith, on.0), omega (arith, on.1))
    by false on off = (off.0, omega (arith, off.1))

-- ---- A line is passed.

pub viewed-as : (view : List Turn) (line : Line) → is_step_line line ≡ false → viewed view line ≡ view
viewed-as view (Rot word) off = cc
viewed-as view line off = refl

module _ (lines : List Line) (line : Line) (passed : ℕ) (at : slice_get lines passed ≡ Some line) where
  size : length (take passed lines) ≡ passed
  size = let within = slice_get_within lines passed line at in omega (arith, length-take passed lines)

  more : take (passed + 1) lines ≡ take passed lines ++ line ∷ []
  more = take-one lines passed line at

  view-more : view_behind lines (passed + 1) ≡ viewed (view_behind lines passed) line
  view-more = ap (fold viewed []) more ∙ fold-append viewed [] (take passed lines) (line ∷ [])

  lines-on : is_step_line line ≡ true → step_lines 0 (take (passed + 1) lines) ≡ step_lines 0 (take passed lines) ++ (passed + 1) ∷ []
  lines-on on =
      let number : 0 + length (take passed lines) + 1 ≡ passed + 1 = omega (arith, size) in
      ap (step_lines 0) more ∙ step_lines-more 0 (take passed lines) line
      ∙ ap (λ b. step_lines 0 (take passed lines) ++ cond b ((0 + length (take passed lines) + 1) ∷ []) []) on
      ∙ ap (λ n. step_lines 0 (take passed lines) ++ n ∷ []) number

  lines-off : is_step_line line ≡ false → step_lines 0 (take (passed + 1) lines) ≡ step_lines 0 (take passed lines)
  lines-off off =
      ap (step_lines 0) more ∙ step_lines-more 0 (take passed lines) line
      ∙ ap (λ b. step_lines 0 (take passed lines) ++ cond b ((0 + length (take passed lines) + 1) ∷ []) []) off
      ∙ append-nil (step_lines 0 (take passed lines))

one-any : (line : Line) → list_any shows (line ∷ []) ≡ shows line
one-any line = by (shows line)
  where
    by : (b : Bool) → (b || false) ≡ b
    by true = refl
    by false = refl

drop-taken : {A : Type 0} (n : ℕ) (xs : List A) → drop n (take n xs) ≡ []
drop-taken zero xs = refl
drop-taken (suc n) [] = refl
drop-taken (suc n) (x ∷ xs) = drop-taken n xs

abbrev mark : ℕ → ℕ → List Turn → StepMark
mark before last view = record { first_line = before + 1; last_line = last; view = view }

-- a line that ends a step
pub step-passed : (line : Line) (old mid new : Marking) (view : List Turn) → is_step_line line ≡ true → mid.passed ≡ old.passed + 1 → mid.marks.items ≡ old.marks.items → mid.ended ≡ old.ended → view ≡ viewed old.view.items line → EndsStep view mid new → MarksLine line old new
step-passed line old mid new view on passed marks ended turned ends lines at marked =
    let before = step_lines 0 (take old.passed lines) in
    let count : new.passed ≡ old.passed + 1 = ends.passed ∙ passed in
    let last : new.ended ≡ old.passed + 1 = ends.ended ∙ passed in
    let numbers : step_lines 0 (take new.passed lines) ≡ before ++ (old.passed + 1) ∷ [] = ap (λ n. step_lines 0 (take n lines)) count ∙ lines-on lines line old.passed at on in
    let seen : view ≡ view_behind lines (old.passed + 1) = turned ∙ ap (λ v. viewed v line) marked.view ∙ sym (view-more lines line old.passed at) in
    record {
      marks = ends.marks ∙ ap (λ ms. ms ++ mark mid.ended mid.passed view ∷ []) (marks ∙ marked.marks)
          ∙ ap (λ n. steps_between lines 0 before ++ mark n mid.passed view ∷ []) (ended ∙ marked.ended)
          ∙ ap (λ n. steps_between lines 0 before ++ mark (last_number 0 before) n view ∷ []) passed
          ∙ ap (λ v. steps_between lines 0 before ++ mark (last_number 0 before) (old.passed + 1) v ∷ []) seen
          ∙ sym (ap (steps_between lines 0) numbers ∙ steps_between-more lines 0 before (old.passed + 1));
      view = ends.stands ∙ seen ∙ ap (view_behind lines) (sym count);
      ended = last ∙ sym (ap (last_number 0) numbers ∙ last_of-more 0 before (old.passed + 1));
      drawn = ends.drawn ∙ sym (ap (λ n. list_any shows (drop n (take new.passed lines))) (last ∙ sym count) ∙ ap (list_any shows) (drop-taken new.passed lines));
    }

-- any other line
pub line-passed : (line : Line) (old new : Marking) → is_step_line line ≡ false → new.passed ≡ old.passed + 1 → new.marks.items ≡ old.marks.items → new.ended ≡ old.ended → new.view.items ≡ old.view.items → new.drawn ≡ (old.drawn || shows line) → MarksLine line old new
line-passed line old new off passed marks ended view drawn lines at marked =
    let done = take old.passed lines in
    let numbers : step_lines 0 (take new.passed lines) ≡ step_lines 0 done = ap (λ n. step_lines 0 (take n lines)) passed ∙ lines-off lines line old.passed at off in
    let inside : old.ended ≤ length done = omega (arith, marked.ended, last-within 0 0 done (omega arith)) in
    let open_lines : drop new.ended (take new.passed lines) ≡ drop old.ended done ++ line ∷ [] = ap (λ n. drop n (take new.passed lines)) ended ∙ ap (drop old.ended) (ap (λ n. take n lines) passed ∙ take-one lines old.passed line at) ∙ drop-append-le old.ended done (line ∷ []) inside in
    record {
      marks = marks ∙ marked.marks ∙ ap (steps_between lines 0) (sym numbers);
      view = view ∙ marked.view ∙ sym (viewed-as (view_behind lines old.passed) line off) ∙ sym (view-more lines line old.passed at) ∙ ap (view_behind lines) (sym passed);
      ended = ended ∙ marked.ended ∙ ap (last_number 0) (sym numbers);
      drawn = drawn ∙ ap (λ b. b || shows line) marked.drawn ∙ ap (λ b. list_any shows (drop old.ended done) || b) (sym (one-any line)) ∙ sym (list_any-append shows (drop old.ended done) (line ∷ [])) ∙ ap (list_any shows) (sym open_lines);
    }

-- a line of another kind
pub other-line : (line : Line) → (line ≡ Step → ⊥) → ((word : RotWord) → line ≡ Rot word → ⊥) → is_step_line line ≡ false
other-line Step step rotation = absurd (step refl)
other-line (Rot word) step rotation = absurd (rotation word refl)
other-line line step rotation = refl

-- ---- The last step.

any-within : (n : ℕ) (xs : List Line) → list_any shows (drop n xs) ≡ true → n < length xs
any-within zero [] is = cc
any-within zero (x ∷ xs) is = omega arith
any-within (suc n) [] is = cc
any-within (suc n) (x ∷ xs) is = let rest : n < length xs = any-within n xs is in omega arith

no-steps : (lines : List Line) (before : ℕ) (ends : List ℕ) → steps_between lines before ends ≡ [] → ends ≡ []
no-steps lines before [] is = refl
no-steps lines before (end ∷ ends) is = cc

of-not : (b : Bool) → not b ≡ false → b ≡ true
of-not true is = refl
of-not false is = cc

-- where the last step is dropped, and where it stands
pub drops : (drawn : Bool) (marks : List StepMark) → (not drawn && not (length marks == 0)) ≡ true → (drawn ≡ false) × (marks ≡ [] → ⊥)
drops true marks is = cc
drops false [] is = cc
drops false (mark ∷ marks) is = (refl, λ none. cc)

pub keeps : (drawn : Bool) (marks : List StepMark) → (not drawn && not (length marks == 0)) ≡ false → (drawn ≡ true) ⊎ (marks ≡ [])
keeps true marks is = inl refl
keeps false marks is = let empty = eqb-true (length marks) 0 (of-not (length marks == 0) is) in inr (nil_from_length marks (omega arith))

-- all lines are passed
module _ (lines : List Line) (marking : Marking) (marked : IsMarked lines marking) (passed : marking.passed ≡ length lines) where
  all-lines : take marking.passed lines ≡ lines
  all-lines = ap (λ n. take n lines) passed ∙ take-all' lines
    where
      take-all' : (xs : List Line) → take (length xs) xs ≡ xs
      take-all' [] = refl
      take-all' (x ∷ xs) = ap (λ ys. x ∷ ys) (take-all' xs)

  marks-are : marking.marks.items ≡ steps_between lines 0 (step_lines 0 lines)
  marks-are = marked.marks ∙ ap (λ ls. steps_between lines 0 (step_lines 0 ls)) all-lines

  ended-is : marking.ended ≡ last_number 0 (step_lines 0 lines)
  ended-is = marked.ended ∙ ap (λ ls. last_number 0 (step_lines 0 ls)) all-lines

  drawn-is : marking.drawn ≡ list_any shows (last_lines lines)
  drawn-is =
      marked.drawn ∙ ap (λ n. list_any shows (drop n (take marking.passed lines))) ended-is ∙ ap (λ ls. list_any shows (drop (last_number 0 (step_lines 0 lines)) ls)) all-lines

  -- the last step is dropped
  pub dropped : marking.drawn ≡ false → (marking.marks.items ≡ [] → ⊥) → marking.marks.items ≡ steps_of lines
  unfolding steps_of
  dropped off some =
      marks-are ∙ ap (steps_between lines 0) (sym (ap (λ b. step_lines 0 lines ++ last_end (step_lines 0 lines) b (length lines)) (sym drawn-is ∙ off) ∙ by (step_lines 0 lines) (λ none. some (marks-are ∙ ap (steps_between lines 0) none))))
    where
      by : (ends : List ℕ) → (ends ≡ [] → ⊥) → ends ++ last_end ends false (length lines) ≡ ends
      by [] some = absurd (some refl)
      by (end ∷ ends) some = append-nil (end ∷ ends)

  ended-last : (marking.drawn ≡ true) ⊎ (marking.marks.items ≡ []) → step_ends lines ≡ step_lines 0 lines ++ length lines ∷ []
  ended-last (inl on) = ap (λ b. step_lines 0 lines ++ last_end (step_lines 0 lines) b (length lines)) (sym drawn-is ∙ on) ∙ by (step_lines 0 lines)
    where
      by : (ends : List ℕ) → ends ++ last_end ends true (length lines) ≡ ends ++ length lines ∷ []
      by [] = refl
      by (end ∷ ends) = refl
  ended-last (inr none) =
      by (step_lines 0 lines) (list_any shows (last_lines lines)) (no-steps lines 0 (step_lines 0 lines) (sym marks-are ∙ none))
    where
      by : (ends : List ℕ) (some : Bool) → ends ≡ [] → ends ++ last_end ends some (length lines) ≡ ends ++ length lines ∷ []
      by [] some is = refl
      by (end ∷ ends) some is = cc

  -- the last step stands
  pub stands : (new : Marking) → (marking.drawn ≡ true) ⊎ (marking.marks.items ≡ []) → EndsStep marking.view.items marking new → new.marks.items ≡ steps_of lines
  unfolding steps_of
  stands new last ends =
      ends.marks ∙ ap (λ ms. ms ++ mark marking.ended marking.passed marking.view.items ∷ []) marks-are
      ∙ ap (λ n. steps_between lines 0 (step_lines 0 lines) ++ mark n marking.passed marking.view.items ∷ []) ended-is
      ∙ ap (λ v. steps_between lines 0 (step_lines 0 lines) ++ mark (last_number 0 (step_lines 0 lines)) marking.passed v ∷ []) marked.view
      ∙ ap (λ n. steps_between lines 0 (step_lines 0 lines) ++ mark (last_number 0 (step_lines 0 lines)) n (view_behind lines n) ∷ []) passed
      ∙ sym (ap (steps_between lines 0) (ended-last last) ∙ steps_between-more lines 0 (step_lines 0 lines) (length lines))

  -- a further line has a number
  pub numbered : (marking.drawn ≡ true) ⊎ (marking.marks.items ≡ []) → length lines < 2 ^ 32 → marking.ended + 1 < 2 ^ 32
  numbered (inl on) few =
      let open_line : list_any shows (drop (last_number 0 (step_lines 0 lines)) lines) ≡ true = sym drawn-is ∙ on in
      let within = any-within (last_number 0 (step_lines 0 lines)) lines open_line in omega (arith, ended-is)
  numbered (inr none) few =
      let first : last_number 0 (step_lines 0 lines) ≡ 0 = ap (last_number 0) (no-steps lines 0 (step_lines 0 lines) (sym marks-are ∙ none)) in
      omega (arith, ended-is)
