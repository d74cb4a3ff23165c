-- The steps of an answer.
use Rattle.std.proofs.Common.{◌≡◌, ◌≤◌, ◌+◌, ◌-◌, ℕ, zero, suc, List, [], ◌∷◌, length, map, take, get_or, Option, Some, None, Result, Ok, Err, refl, ap, sym, ◌∙◌, subst, arith}
use Rattle.std.specs.Prelude.{slice_get, sum}
use Rattle.std.specs.List.{All}
use Rattle.std.proofs.lemmas.List.{length-map}
use Rattle.std.proofs.lemmas.List.Elements.{All-cons, All-nil}
use Rattle.std.proofs.lemmas.List.Sums.{sum_by-cons}
use Rattle.ld_names.specs.declared.file.TextId.{TextId}
use Rattle.ld_line.specs.declared.line.Line.{Line}
use Rattle.ld_bfc.specs.LineState.{next, start}
use Rattle.ld_bfc.specs.declared.culling.State.{State}
use Rattle.ld_colour.specs.declared.colour.Colour.{Colour}
use Rattle.ld_entry.specs.Answers.{answer, answer_by, left_below, outcome_counts, root_outcomes, unless_too_many}
use Rattle.ld_entry.specs.Carrying.{Outcome, carried_outcome, colour_above}
use Rattle.ld_entry.specs.Laws.{ActionLaw, CountLaw}
use Rattle.ld_entry.specs.NumberedTexts.{NumberedTexts}
use Rattle.ld_entry.specs.Outcomes.{Context, Enter, all_by_line, outcomes_from}
use Rattle.ld_entry.specs.declared.entry.Entry.{Entry}
use Rattle.ld_entry.specs.declared.entry.Fault.{Fault}
use Rattle.ld_steps.specs.Laws.{AreSteps, FollowOn, PartLaw, StepLaws}
use Rattle.ld_steps.specs.Parts.{step_part, step_parts}
use Rattle.ld_steps.specs.Steps.{steps_of}
use Rattle.ld_steps.specs.declared.step.StepMark.{StepMark}
use Rattle.ld_engine.specs.Gathering.{alone, enter_with}
use Rattle.ld_engine.specs.Inside.Ends.{IsWithin, line_ends, part_by}
use Rattle.ld_engine.specs.Laws.{StepsOfAnswers}
use Rattle.ld_engine.specs.Stepping.{steps_in, with_steps}
use Rattle.ld_engine.specs.declared.asking.Answer.{Answer}
use Rattle.ld_engine.proofs.Rooted.{by-line}

-- ---- The steps of an answer by its counts.

answer-steps : CountLaw → PartLaw → (texts : NumberedTexts) (depth most : ℕ) (root : TextId) (colour : Colour) (given : Result (List Entry) Fault) (answered : Answer) → answer texts depth most root colour ≡ given → with_steps (steps_in texts depth root colour) given ≡ Ok answered → AreSteps (length answered.entries) answered.steps
answer-steps count_law parts texts depth most root colour (Err fault) answered is same = cc
answer-steps count_law parts texts depth most root colour (Ok entries) answered is same =
    let lines = texts.lines root in
    let counts = outcome_counts texts depth root colour in
    let whole : record { entries = entries; steps = step_parts lines counts } ≡ answered = cc in
    subst (λ (a : Answer). AreSteps (length a.entries) a.steps) whole (subst (λ n. AreSteps n (step_parts lines counts)) (count_law.whole texts depth most root colour entries is) (parts lines counts (count_law.lines texts depth most root colour entries is)))

pub steps : CountLaw → PartLaw → StepsOfAnswers
steps count_law parts texts depth most root colour answered is =
    answer-steps count_law parts texts depth most root colour (answer texts depth most root colour) answered refl is

sum-cons : (count : ℕ) (counts : List ℕ) → sum (count ∷ counts) ≡ count + sum counts
sum-cons count counts = sum_by-cons (λ n. n) count counts

-- ---- Ranges by the ends of lines.

ends-at : (before : ℕ) (counts : List ℕ) (n : ℕ) → n ≤ length counts → get_or (before ∷ line_ends before counts) n 0 ≡ before + sum (take n counts)
ends-at before counts zero few = omega arith
ends-at before [] (suc n) few = absurd (omega arith)
ends-at before (count ∷ counts) (suc n) few =
    let rest = ends-at (before + count) counts n (omega arith) in
    rest ∙ omega (arith, sum-cons count (take n counts))

parts-same : (lines : List Line) (counts ends : List ℕ) (before : ℕ) (marks : List StepMark) → ends ≡ 0 ∷ line_ends 0 counts → length counts ≡ length lines → before ≤ length lines → FollowOn lines before marks → map (part_by ends) marks ≡ map (step_part counts) marks
parts-same lines counts ends before [] is size within follows = refl
parts-same lines counts ends before (mark ∷ marks) is size within follows =
    let first : get_or ends (mark.first_line - 1) 0 ≡ sum (take (mark.first_line - 1) counts) = ap (λ es. get_or es (mark.first_line - 1) 0) is ∙ ends-at 0 counts (mark.first_line - 1) (omega (arith, follows.0)) ∙ omega arith in
    let last : get_or ends mark.last_line 0 ≡ sum (take mark.last_line counts) = ap (λ es. get_or es mark.last_line 0) is ∙ ends-at 0 counts mark.last_line (omega (arith, follows.2)) ∙ omega arith in
    let rest = parts-same lines counts ends mark.last_line marks is size follows.2 follows.3 in
    ap (λ n. record { first = n; end = get_or ends mark.last_line 0; view = mark.view } ∷ map (part_by ends) marks) first
    ∙ ap (λ n. record { first = sum (take (mark.first_line - 1) counts); end = n; view = mark.view } ∷ map (part_by ends) marks) last
    ∙ ap (λ ps. step_part counts mark ∷ ps) rest

ends-count : (before : ℕ) (counts : List ℕ) → length (line_ends before counts) ≡ length counts
ends-count before [] = refl
ends-count before (count ∷ counts) = ap suc (ends-count (before + count) counts)

within-ends : (lines : List Line) (before : ℕ) (marks : List StepMark) → before ≤ length lines → FollowOn lines before marks → All (IsWithin (length lines + 1)) marks
within-ends lines before [] within follows = All-nil _
within-ends lines before (mark ∷ marks) within follows =
    All-cons (IsWithin (length lines + 1)) mark marks (omega (arith, follows.0), omega (arith, follows.0), omega (arith, follows.2)) (within-ends lines mark.last_line marks follows.2 follows.3)

-- a colour changes no count
lengths-mapped : (f : Outcome → Outcome) (lines : List (List Outcome)) → map length (map (map f) lines) ≡ map length lines
lengths-mapped f [] = refl
lengths-mapped f (line ∷ lines) =
    ap (λ n. n ∷ map length (map (map f) lines)) (length-map line f) ∙ ap (λ ns. length line ∷ ns) (lengths-mapped f lines)

outcomes-count : (enter : Enter) (context : Context) (state : State) (number : ℕ) (lines : List Line) → length (outcomes_from enter context state number lines) ≡ length lines
outcomes-count enter context state number [] = refl
outcomes-count enter context state number (line ∷ lines) = ap suc (outcomes-count enter context (next state line) (suc number) lines)

module _ (action : ActionLaw) (texts : NumberedTexts) (depth : ℕ) (root : TextId) (colour : Colour) where
  abbrev bare : List (List Outcome)
  bare = all_by_line (left_below depth []) (alone texts [] root)

  counts-same : map length (root_outcomes texts depth root colour) ≡ map length bare
  counts-same =
      ap (map length) (action.further (colour_above colour) (left_below depth []) (alone texts [] root)) ∙ lengths-mapped (carried_outcome (colour_above colour)) bare

  bare-count : length (map length bare) ≡ length (texts.lines root)
  bare-count =
      length-map bare length ∙ ap length (by-line (left_below depth []) (alone texts [] root)) ∙ outcomes-count (enter_with (left_below depth [])) (alone texts [] root) (start (texts.is_part root)) 1 (texts.lines root)

  -- the steps by the ends of the root's lines
  pub stepped : (ends : List ℕ) → StepLaws → ends ≡ 0 ∷ line_ends 0 (map length bare) → map (part_by ends) (steps_of (texts.lines root)) ≡ steps_in texts depth root colour
  unfolding outcome_counts step_parts
  stepped ends laws is =
      parts-same (texts.lines root) (map length bare) ends 0 (steps_of (texts.lines root)) is bare-count (omega arith) (laws.follow (texts.lines root))
      ∙ ap (λ ns. map (step_part ns) (steps_of (texts.lines root))) (sym counts-same)

  pub stepped-within : (ends : List ℕ) → StepLaws → ends ≡ 0 ∷ line_ends 0 (map length bare) → All (IsWithin (length ends)) (steps_of (texts.lines root))
  stepped-within ends laws is =
      let size : length (texts.lines root) + 1 ≡ length ends = let all = ap length is in omega (arith, all, ends-count 0 (map length bare), bare-count) in
      subst (λ n. All (IsWithin n) (steps_of (texts.lines root))) size (within-ends (texts.lines root) 0 (steps_of (texts.lines root)) (omega arith) (laws.follow (texts.lines root)))

answered-by : (most : ℕ) (entries : List Entry) (end : Option Fault) (given : List Entry) → answer_by most entries end ≡ Ok given → (end ≡ None) × (entries ≡ given) × (slice_get entries most ≡ None)
answered-by most entries end given is = by (slice_get entries most) end refl is
  where
    by : (many : Option Entry) (end : Option Fault) → slice_get entries most ≡ many → unless_too_many many entries end ≡ Ok given → (end ≡ None) × (entries ≡ given) × (slice_get entries most ≡ None)
    by (Some entry) end at is = cc
    by None (Some fault) at is = cc
    by None None at is = let same : entries ≡ given = cc in (refl, same, at)

past-all : {A : Type 0} (xs : List A) (n : ℕ) → slice_get xs n ≡ None → length xs ≤ n
past-all [] n none = omega arith
past-all (x ∷ xs) zero none = cc
past-all (x ∷ xs) (suc n) none = let rest = past-all xs n none in omega arith

-- entries that are answered are all, and not too many
pub answered-all : (f : Entry → Entry) (most : ℕ) (entries given : List Entry) (end : Option Fault) → answer_by most (map f entries) end ≡ Ok given → (end ≡ None) × (length entries ≤ most)
answered-all f most entries given end is =
    let found = answered-by most (map f entries) end given is in
    let few = past-all (map f entries) most found.2 in (found.0, omega (arith, few, length-map entries f))
