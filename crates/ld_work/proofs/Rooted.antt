-- The expansion of a text by itself, line by line.
use Rattle.std.proofs.Common.{◌≡◌, ◌≤◌, ◌<◌, ◌+◌, ◌-◌, ◌⊎◌, inl, inr, true, false, ℕ, zero, suc, List, [], ◌∷◌, ◌++◌, length, map, drop, replicate, Option, Some, None, Ok, refl, ap, sym, ◌∙◌, append_assoc, arith}
use Rattle.std.specs.Prelude.{is_some, slice_get}
use Rattle.std.proofs.lemmas.List.{append-nil, length-append, length-drop, length-map}
use Rattle.ld_names.specs.declared.file.TextId.{TextId}
use Rattle.ld_entry.specs.Answers.{left_below, until_end}
use Rattle.ld_entry.specs.Carrying.{Outcome}
use Rattle.ld_entry.specs.Expansion.{end_of, ends_behind, first_entries, neutral_expansion}
use Rattle.ld_entry.specs.Laws.{CarryLaws, CutLaws}
use Rattle.ld_entry.specs.NumberedTexts.{NumberedTexts}
use Rattle.ld_entry.specs.Outcomes.{concatenation}
use Rattle.ld_entry.specs.declared.entry.Entry.{Entry}
use Rattle.ld_entry.specs.declared.entry.Fault.{Fault}
use Rattle.ld_work.specs.Inside.Gathering.{gathered, Gathers, IsWithin, shown}
use Rattle.ld_work.specs.Inside.Parsing.{parsed_lines}
use Rattle.ld_work.specs.declared.line.ParsedLine.{ParsedLine}
use Rattle.ld_work.proofs.Gathered.{faulted, full}
use Rattle.ld_work.proofs.Parsing.{none-dropped, none-taken, lines-length, text-gives}
use Rattle.ld_work.proofs.Passed.{by_line, gave, gave-all, gave-more, gave-next, gives, line-left, line-gathered, none-left}

-- ---- Entries that stand.

uncut : (most : ℕ) (entries : List Entry) (end : Option Fault) → IsWithin most entries end → until_end most (shown entries end) ≡ shown entries end
uncut most [] None within = refl
uncut most [] (Some fault) within = refl
uncut zero (entry ∷ []) None within = refl
uncut zero (entry ∷ []) (Some fault) within = absurd (omega arith)
uncut zero (entry ∷ other ∷ entries) end within = absurd (omega arith)
uncut (suc most) (entry ∷ entries) end within = ap (λ os. Ok entry ∷ os) (uncut most entries end (omega arith))

-- a fault, or an entry too many, stands
abbrev pub Stops : ℕ → List Entry → Option Fault → Type 0
Stops most entries end = (is_some end ≡ true) ⊎ (most < length entries)

stops : (most : ℕ) (new : List Entry) (end : Option Fault) (behind : List Outcome) → Stops most new end → until_end most (shown new end) ≡ gathered most new end behind
stops most new (Some fault) behind stop = faulted most (map Ok new) fault [] behind
stops most new None behind (inl some) = cc
stops most new None behind (inr many) = full most new [] behind many

-- ends of lines behind the end stay
stay : (most count : ℕ) (before : List Outcome) (lines : List (List Outcome)) → ((behind : List Outcome) → count ≡ length (first_entries most (before ++ behind))) → ends_behind most before lines ≡ replicate (length lines) count
stay most count before [] same = refl
stay most count before (line ∷ lines) same =
    ap (λ n. n ∷ ends_behind most (before ++ line) lines) (sym (same line))
    ∙ ap (λ ends. count ∷ ends) (stay most count (before ++ line) lines (λ behind. same (line ++ behind) ∙ ap (λ os. length (first_entries most os)) (sym (append_assoc before line behind))))

module _ (cuts : CutLaws) (most : ℕ) (new : List Entry) (outcomes : List Outcome) where
  -- entries without an end are their own first ones
  stand : length new ≤ most → Gathers most [] new None outcomes → (new ≡ first_entries most outcomes) × (None ≡ end_of most outcomes)
  stand few gathers =
      cuts.only most outcomes new None (sym (uncut most new None (omega arith)) ∙ gathers [] ∙ ap (until_end most) (append-nil outcomes))

  -- where there is an end, nothing behind it counts
  closed : (end : Option Fault) → Stops most new end → IsWithin most new end → Gathers most [] new end outcomes → (behind : List Outcome) → (new ≡ first_entries most (outcomes ++ behind)) × (end ≡ end_of most (outcomes ++ behind))
  closed end stop within gathers behind =
      cuts.only most (outcomes ++ behind) new end (sym (uncut most new end within) ∙ stops most new end behind stop ∙ gathers behind)

-- ---- The lines of the text.

module _ (most depth : ℕ) (texts : NumberedTexts) (text : TextId) where
  abbrev left : ℕ
  left = left_below depth []

  abbrev outcomes : List (List Outcome)
  outcomes = by_line texts left [] text

  abbrev so_far : ℕ → List Outcome
  so_far before = gave texts left [] text before

  -- the entries so far, and the ends of the lines so far
  pub record IsRooted (entries : List Entry) (ends : List ℕ) (before : ℕ) : Type 0 where
    pub few : length entries ≤ most
    pub count : length ends ≡ before
    pub gathers : Gathers most [] entries None (so_far before)
    pub ended : ends ++ ends_behind most (so_far before) (drop before outcomes) ≡ ends_behind most [] outcomes

  pub root-begun : IsRooted [] [] 0
  root-begun =
      let none : so_far 0 ≡ [] = ap concatenation (none-taken outcomes) in
      record {
        few = omega arith;
        count = refl;
        gathers = λ behind. ap (λ os. until_end most (os ++ behind)) (sym none);
        ended = ap (λ os. ends_behind most os (drop 0 outcomes)) none ∙ ap (ends_behind most []) (none-dropped outcomes);
      }

  is-expansion : (entries : List Entry) (ends : List ℕ) (end : Option Fault) → (entries ≡ first_entries most (concatenation outcomes)) × (end ≡ end_of most (concatenation outcomes)) → ends ≡ ends_behind most [] outcomes → record { entries = entries; line_ends = ends; end = end } ≡ neutral_expansion texts depth most [] text
  unfolding neutral_expansion
  is-expansion entries ends end firsts ended =
      ap (λ es. record { entries = es; line_ends = ends; end = end }) firsts.0
      ∙ ap (λ ls. record { entries = first_entries most (concatenation outcomes); line_ends = ls; end = end }) ended
      ∙ ap (λ e. record { entries = first_entries most (concatenation outcomes); line_ends = ends_behind most [] outcomes; end = e }) firsts.1

  module _ (carry : CarryLaws) (cuts : CutLaws) (entries : List Entry) (ends : List ℕ) (before : ℕ) (rooted : IsRooted entries ends before) where
    pub root-done : slice_get (parsed_lines texts text) before ≡ None → record { entries = entries; line_ends = ends; end = None } ≡ neutral_expansion texts depth most [] text
    root-done none =
        let whole : so_far before ≡ concatenation outcomes = gave-all carry texts left [] text before none in
        let firsts = stand cuts most entries (so_far before) rooted.few rooted.gathers in
        is-expansion entries ends None (firsts.0 ∙ ap (first_entries most) whole, firsts.1 ∙ ap (end_of most) whole) (sym (append-nil ends) ∙ ap (λ ls. ends ++ ends_behind most (so_far before) ls) (sym (none-left carry texts left [] text before none)) ∙ rooted.ended)

    module _ (new : List Entry) (line : ParsedLine) (at : slice_get (parsed_lines texts text) before ≡ Some line) where
      abbrev this : List Outcome
      this = gives texts left [] text line

      abbrev rest : List (List Outcome)
      rest = drop (suc before) outcomes

      next-is : so_far (suc before) ≡ so_far before ++ this
      next-is = gave-next carry texts left [] text before (suc before) line at refl

      step : (end : Option Fault) → Gathers most entries new end this → Gathers most [] new end (so_far (suc before))
      step end gives = line-gathered carry texts left [] text most [] entries before rooted.gathers new (suc before) line at refl end gives

      ended-is : ends ++ length (first_entries most (so_far (suc before))) ∷ ends_behind most (so_far (suc before)) rest ≡ ends_behind most [] outcomes
      ended-is =
          ap (λ os. ends ++ length (first_entries most os) ∷ ends_behind most os rest) next-is
          ∙ ap (λ ls. ends ++ ends_behind most (so_far before) ls) (sym (line-left carry texts left [] text before line at)) ∙ rooted.ended

      pub root-passed : length new ≤ most → Gathers most entries new None this → IsRooted new (ends ++ length new ∷ []) (suc before)
      root-passed few gives =
          let gathers = step None gives in
          let count : length new ≡ length (first_entries most (so_far (suc before))) = ap length (stand cuts most new (so_far (suc before)) few gathers).0 in
          record {
            few = few;
            count = length-append ends (length new ∷ []) ∙ ap (λ n. n + 1) rooted.count ∙ omega arith;
            gathers = gathers;
            ended = append_assoc ends (length new ∷ []) (ends_behind most (so_far (suc before)) rest)
                ∙ ap (λ n. ends ++ n ∷ ends_behind most (so_far (suc before)) rest) count ∙ ended-is;
          }

      rest-length : length rest ≡ length (texts.lines text) - length (ends ++ length new ∷ [])
      rest-length =
          let long : length (ends ++ length new ∷ []) ≡ suc before = length-append ends (length new ∷ []) ∙ ap (λ n. n + 1) rooted.count ∙ omega arith in
          let all : length outcomes ≡ length (texts.lines text) = ap length (text-gives carry left texts [] text) ∙ length-map (parsed_lines texts text) _ ∙ lines-length texts text in
          length-drop (suc before) outcomes ∙ ap (λ n. n - suc before) all ∙ ap (λ n. length (texts.lines text) - n) (sym long)

      pub root-stopped : (end : Option Fault) → Stops most new end → IsWithin most new end → Gathers most entries new end this → record { entries = new; line_ends = (ends ++ length new ∷ []) ++ replicate (length (texts.lines text) - length (ends ++ length new ∷ [])) (length new); end = end } ≡ neutral_expansion texts depth most [] text
      root-stopped end stop within gives =
          let close = closed cuts most new (so_far (suc before)) end stop within (step end gives) in
          let whole : so_far (suc before) ++ concatenation rest ≡ concatenation outcomes = sym (gave-more carry texts left [] text (suc before)) in
          let firsts = close (concatenation rest) in
          let count : length new ≡ length (first_entries most (so_far (suc before))) = ap length (close []).0 ∙ ap (λ os. length (first_entries most os)) (append-nil (so_far (suc before))) in
          let stays = stay most (length new) (so_far (suc before)) rest (λ behind. ap length (close behind).0) in
          let ended =
          append_assoc ends (length new ∷ []) (replicate (length (texts.lines text) - length (ends ++ length new ∷ [])) (length new))
          ∙ ap (λ n. ends ++ length new ∷ replicate n (length new)) (sym rest-length)
          ∙ ap (λ es. ends ++ length new ∷ es) (sym stays)
          ∙ ap (λ n. ends ++ n ∷ ends_behind most (so_far (suc before)) rest) count ∙ ended-is in
          is-expansion new _ end (firsts.0 ∙ ap (first_entries most) whole, firsts.1 ∙ ap (end_of most) whole) ended

pub no-end : (end : Option Fault) → is_some end ≡ false → end ≡ None
no-end None none = refl
no-end (Some fault) none = cc

-- a number more
pub filled-more : (count lines : ℕ) (ends new : List ℕ) → new ≡ ends ++ count ∷ [] → length ends < lines → new ++ replicate (lines - length new) count ≡ ends ++ replicate (lines - length ends) count
filled-more count lines ends new is fewer =
    let long : length new ≡ suc (length ends) = ap length is ∙ length-append ends (count ∷ []) ∙ omega arith in
    let one : lines - length ends ≡ suc (lines - length new) = omega arith in
    ap (λ es. es ++ replicate (lines - length new) count) is ∙ append_assoc ends (count ∷ []) (replicate (lines - length new) count) ∙ ap (λ n. ends ++ replicate n count) (sym one)
