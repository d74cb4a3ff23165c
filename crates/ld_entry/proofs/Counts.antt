-- How many entries of an answer each line gives.
use Rattle.std.proofs.Common.{◌≡◌, ◌+◌, ℕ, zero, suc, false, List, [], ◌∷◌, ◌++◌, length, map, Option, Some, None, Ok, Err, refl, ap, sym, ◌∙◌}
use Rattle.std.specs.Prelude.{slice_get, sum}
use Rattle.std.proofs.lemmas.List.{length-append}
use Rattle.std.proofs.lemmas.List.Sums.{sum_by-cons}
use Rattle.ld_names.specs.declared.file.TextId.{TextId}
use Rattle.ld_line.specs.Shown.{GiveEntries, shows}
use Rattle.ld_line.specs.declared.line.Line.{Line}
use Rattle.ld_line.specs.declared.line.Line.TheVariants.{Blank, Comment, Org, Bfc, Step, Rot, Ref, Draw}
use Rattle.ld_line.specs.declared.line.Line.TheVariants as line
use Rattle.ld_bfc.specs.LineState.{next, start}
use Rattle.ld_bfc.specs.declared.culling.State.{State}
use Rattle.ld_colour.specs.declared.colour.Colour.{Colour}
use Rattle.ld_entry.specs.Answers.{answer, entries_before, first_fault, left_below, outcome_counts, root_outcomes, unless_too_many}
use Rattle.ld_entry.specs.Carrying.{Outcome, colour_above}
use Rattle.ld_entry.specs.Laws.{CountLaw}
use Rattle.ld_entry.specs.NumberedTexts.{NumberedTexts}
use Rattle.ld_entry.specs.Outcomes.{Context, Enter, all_by_line, concatenation, context_of, line_outcomes, outcomes_from}
use Rattle.ld_entry.specs.declared.entry.Entry.{Entry}
use Rattle.ld_entry.specs.declared.entry.Fault.{Fault}
use Rattle.ld_entry.specs.declared.entry.Source.{Source}

sum-lengths : (lines : List (List Outcome)) → sum (map length lines) ≡ length (concatenation lines)
sum-lengths [] = refl
sum-lengths (line ∷ lines) =
    sum_by-cons (λ n. n) (length line) (map length lines) ∙ ap (λ n. length line + n) (sum-lengths lines) ∙ sym (length-append line (concatenation lines))

-- outcomes without a fault are entries
pub no-faults : (xs ys : List Outcome) → first_fault (xs ++ ys) ≡ None → (first_fault xs ≡ None) × (first_fault ys ≡ None)
no-faults [] ys none = (refl, none)
no-faults (Err fault ∷ xs) ys none = cc
no-faults (Ok entry ∷ xs) ys none = no-faults xs ys none

pub all-entries : (xs : List Outcome) → first_fault xs ≡ None → length xs ≡ length (entries_before xs)
all-entries [] none = refl
all-entries (Err fault ∷ xs) none = cc
all-entries (Ok entry ∷ xs) none = ap suc (all-entries xs none)

-- a line that shows nothing gives no entry
none-shown : (enter : Enter) (context : Context) (state : State) (source : Source) (line : Line) → first_fault (line_outcomes enter context state source line) ≡ None → shows line ≡ false → length (line_outcomes enter context state source line) ≡ 0
none-shown enter context state source line.Malformed none off = cc
none-shown enter context state source line.OutOfRange none off = cc
none-shown enter context state source (Draw kind word points) none off = cc
none-shown enter context state source (Ref word placement name) none off = cc
none-shown enter context state source Blank none off = refl
none-shown enter context state source Comment none off = refl
none-shown enter context state source (Org part) none off = refl
none-shown enter context state source (Bfc word) none off = refl
none-shown enter context state source Step none off = refl
none-shown enter context state source (Rot word) none off = refl

gives-entries : (enter : Enter) (context : Context) (state : State) (number : ℕ) (lines : List Line) → first_fault (concatenation (outcomes_from enter context state number lines)) ≡ None → GiveEntries lines (map length (outcomes_from enter context state number lines))
gives-entries enter context state number [] none = tt
gives-entries enter context state number (line ∷ lines) none =
    let source : Source = record { text = context.text; line = number } in
    let parts = no-faults (line_outcomes enter context state source line) (concatenation (outcomes_from enter context (next state line) (suc number) lines)) none in
    (none-shown enter context state source line parts.0, gives-entries enter context (next state line) (suc number) lines parts.1)

text-gives : (left : ℕ) (context : Context) → first_fault (concatenation (all_by_line left context)) ≡ None → GiveEntries (context.texts.lines context.text) (map length (all_by_line left context))
unfolding all_by_line
text-gives zero context none = gives-entries None context (start (context.texts.is_part context.text)) 1 (context.texts.lines context.text) none
text-gives (suc left) context none =
    gives-entries (Some (λ inner. concatenation (all_by_line left inner))) context (start (context.texts.is_part context.text)) 1 (context.texts.lines context.text) none

answered-by : (many : Option Entry) (given entries : List Entry) (end : Option Fault) → unless_too_many many given end ≡ Ok entries → (end ≡ None) × (given ≡ entries)
answered-by (Some entry) given entries end is = cc
answered-by None given entries (Some fault) is = cc
answered-by None given entries None is = let same : given ≡ entries = cc in (refl, same)

module _ (texts : NumberedTexts) (depth most : ℕ) (root : TextId) (colour : Colour) (entries : List Entry) where
  abbrev outcomes : List (List Outcome)
  outcomes = root_outcomes texts depth root colour

  all-answered : answer texts depth most root colour ≡ Ok entries → (first_fault (concatenation outcomes) ≡ None) × (entries_before (concatenation outcomes) ≡ entries)
  unfolding answer
  all-answered is =
      answered-by (slice_get (entries_before (concatenation outcomes)) most) (entries_before (concatenation outcomes)) entries (first_fault (concatenation outcomes)) is

  gives : answer texts depth most root colour ≡ Ok entries → GiveEntries (texts.lines root) (outcome_counts texts depth root colour)
  unfolding outcome_counts
  gives is = text-gives (left_below depth []) (context_of texts [] root (colour_above colour)) (all-answered is).0

  whole : answer texts depth most root colour ≡ Ok entries → sum (outcome_counts texts depth root colour) ≡ length entries
  unfolding outcome_counts
  whole is =
      let found = all-answered is in
      sum-lengths outcomes ∙ all-entries (concatenation outcomes) found.0 ∙ ap length found.1

pub counts : CountLaw
counts = record {
  lines = λ texts depth most root colour entries is. gives texts depth most root colour entries is;
  whole = λ texts depth most root colour entries is. whole texts depth most root colour entries is;
}
