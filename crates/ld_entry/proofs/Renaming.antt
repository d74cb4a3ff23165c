-- Texts that agree under other numbers give the same, with these numbers in it.
use Rattle.std.proofs.Common.{◌≡◌, ◌==◌, ◌||◌, ◌&&◌, ℕ, zero, suc, Bool, true, false, not, cond, List, [], ◌∷◌, ◌++◌, map, take, length, Option, Some, None, Result, Ok, Err, refl, ap, sym, ◌∙◌, arith}
use Rattle.std.specs.Prelude.{if◌then◌else◌, nat_lt, option_map, option_to_list, slice_get}
use Rattle.std.specs.List.{list_any}
use Rattle.std.proofs.lemmas.Bool.{eq-eqb, eqb-true, ne_eqb}
use Rattle.std.proofs.lemmas.List.{append-nil, length-map, map-append, take-map}
use Rattle.std.proofs.lemmas.List.Folds.{list_any-append}
use Rattle.std.proofs.lemmas.Option.{slice_get-map}
use Rattle.ld_names.specs.declared.file.TextId.{TextId}
use Rattle.ld_num.specs.declared.point.Placement.{Placement}
use Rattle.ld_num.specs.declared.point.Point.{Point}
use Rattle.ld_line.specs.Kind.{points_in}
use Rattle.ld_line.specs.declared.line.Line.{Line}
use Rattle.ld_line.specs.declared.line.Line.TheVariants.{Bfc, Blank, Comment, Draw, Org, Ref, Rot, Step}
use Rattle.ld_line.specs.declared.line.Line.TheVariants as line
use Rattle.ld_bfc.specs.LineState.{next, start}
use Rattle.ld_bfc.specs.declared.culling.State.{State}
use Rattle.ld_colour.specs.Colour.{colour_of}
use Rattle.ld_entry.proofs.Action.{map-concatenation}
use Rattle.ld_entry.proofs.Ways.{same_id}
use Rattle.ld_entry.specs.Agreement.{AgreeAs, renamed_above, renamed_answer, renamed_entry, renamed_expansion, renamed_fault, renamed_link, renamed_outcome, renamed_source, StandFor, StandsFor}
use Rattle.ld_entry.specs.Answers.{answer, answer_of, entries_before, first_fault, left_below, outcome_counts, unless_too_many}
use Rattle.ld_entry.specs.Carrying.{Above, above_of, at_points, beneath, carried_entry, colour_above, fault_at, Link, nothing_above, or_source, Outcome, through, through_link}
use Rattle.ld_entry.specs.Expansion.{end_of, ends_behind, expansion_of, first_entries, neutral_expansion}
use Rattle.ld_entry.specs.Heights.{found_among, height, tallest}
use Rattle.ld_entry.specs.Laws.{RenamingLaw}
use Rattle.ld_entry.specs.Learnt.{FindsInside}
use Rattle.ld_entry.specs.NumberedTexts.{NumberedTexts}
use Rattle.ld_entry.specs.Outcomes.{all, all_by_line, concatenation, Context, context_below, context_of, Enter, file_outcomes, found_outcomes, line_outcomes, outcomes_by_line, outcomes_from, outer_of, own_entry, part_outcomes}
use Rattle.ld_entry.specs.declared.entry.Entry.{Entry}
use Rattle.ld_entry.specs.declared.entry.Entry.TheVariants.{Drawn, Part}
use Rattle.ld_entry.specs.declared.entry.Fault.{Fault}
use Rattle.ld_entry.specs.declared.entry.Source.{Source}
use Rattle.ld_entry.specs.declared.entry.What.TheVariants.{Cycle}

-- ---- One entry.

module _ (rename : TextId → TextId) where
  renamed_points : Result (List Point) Source → Result (List Point) Source
  renamed_points (Ok points) = Ok points
  renamed_points (Err source) = Err (renamed_source rename source)

  or_source-renamed : (source : Source) (points : Option (List Point)) → or_source (renamed_source rename source) points ≡ renamed_points (or_source source points)
  unfolding renamed_points
  or_source-renamed source None = refl
  or_source-renamed source (Some points) = refl

  link-renamed : (link : Link) (used : ℕ) (points : Result (List Point) Source) → through_link (renamed_link rename link) used (renamed_points points) ≡ renamed_points (through_link link used points)
  unfolding renamed_points
  link-renamed link used (Ok points) = or_source-renamed link.source _
  link-renamed link used (Err source) = refl

  through-renamed : (links : List Link) (used : ℕ) (points : List Point) → through (map (renamed_link rename) links) used points ≡ renamed_points (through links used points)
  unfolding renamed_points
  through-renamed [] used points = refl
  through-renamed (link ∷ links) used points =
      ap (through_link (renamed_link rename link) used) (through-renamed links used points) ∙ link-renamed link used (through links used points)

  at_points-renamed : (entry entry' : List Point → Entry) → ((points : List Point) → entry' points ≡ renamed_entry rename (entry points)) → (points : Result (List Point) Source) → at_points entry' (renamed_points points) ≡ renamed_outcome rename (at_points entry points)
  unfolding renamed_points
  at_points-renamed entry entry' same (Ok points) = ap Ok (same points)
  at_points-renamed entry entry' same (Err source) = refl

  entry-renamed : (above : Above) (entry : Entry) → carried_entry (renamed_above rename above) (renamed_entry rename entry) ≡ renamed_outcome rename (carried_entry above entry)
  entry-renamed above (Part file colour source) = refl
  entry-renamed above (Drawn kind certified clip winding colour source points) =
      ap (at_points _) (through-renamed above.links (points_in kind) points) ∙ at_points-renamed _ _ (λ moved. refl) (through above.links (points_in kind) points)

  above-renamed : (above : Above) (state : State) (source : Source) (word : ℕ) (placement : Placement) → beneath (renamed_above rename above) (above_of (outer_of state (renamed_source rename source) word placement)) ≡ renamed_above rename (beneath above (above_of (outer_of state source word placement)))
  above-renamed above state source word placement =
      let inner = beneath above (above_of (outer_of state source word placement)) in
      ap (λ links. let a : Above = record { links = links; colour = inner.colour; below = inner.below } in a) (sym (map-append (renamed_link rename) above.links _))

-- ---- One text, where the files inside that it enters give the same.

-- what further lines give
abbrev pub further : List Line → List Line → List (List Outcome)
further [] lines' = map (λ line. []) lines'
further (line ∷ lines) [] = []
further (line ∷ lines) (line' ∷ lines') = further lines lines'

concatenation-further : (given : List (List Outcome)) (lines lines' : List Line) → concatenation (given ++ further lines lines') ≡ concatenation given
concatenation-further (first ∷ given) lines lines' = ap (λ o. first ++ o) (concatenation-further given lines lines')
concatenation-further [] [] [] = refl
concatenation-further [] [] (line' ∷ lines') = concatenation-further [] [] lines'
concatenation-further [] (line ∷ lines) [] = refl
concatenation-further [] (line ∷ lines) (line' ∷ lines') = concatenation-further [] lines lines'

pub none-further : (lines lines' : List Line) → length lines' ≡ length lines → further lines lines' ≡ []
none-further [] [] same = refl
none-further [] (line' ∷ lines') same = absurd (omega arith)
none-further (line ∷ lines) [] same = refl
none-further (line ∷ lines) (line' ∷ lines') same = none-further lines lines' (omega arith)

if-renamed : (rename : TextId → TextId) (b : Bool) (x y x' y' : List Outcome) → x' ≡ map (renamed_outcome rename) x → y' ≡ map (renamed_outcome rename) y → cond b x' y' ≡ map (renamed_outcome rename) (cond b x y)
if-renamed rename true x y x' y' same same' = same
if-renamed rename false x y x' y' same same' = same'

-- a file inside is on a way where that of the other number is on the other way
abbrev pub Tells : (TextId → Bool) → (TextId → TextId) → List TextId → Type 0
Tells inside rename way = (file : TextId) → inside file ≡ true → list_any (λ on. on.0 == (rename file).0) (map rename way) ≡ list_any (λ on. on.0 == file.0) way

module _ (inside : TextId → Bool) (rename : TextId → TextId) (texts other : NumberedTexts) (way : List TextId) (text : TextId) (above : Above) (enter enter' : Enter) (tells : Tells inside rename (way ++ text ∷ [])) (agree : (state : State) (source : Source) (word : ℕ) (placement : Placement) (file : TextId) → inside file ≡ true → file_outcomes enter' (context_of other (map rename way) (rename text) (renamed_above rename above)) state (renamed_source rename source) word placement (rename file) ≡ map (renamed_outcome rename) (file_outcomes enter (context_of texts way text above) state source word placement file)) where
  here : Context
  here = context_of texts way text above

  there : Context
  there = context_of other (map rename way) (rename text) (renamed_above rename above)

  found-renamed : (state : State) (source : Source) (word : ℕ) (placement : Placement) (found : Option TextId) → FindsInside inside found → found_outcomes enter' there state (renamed_source rename source) word placement (option_map rename found) ≡ map (renamed_outcome rename) (found_outcomes enter here state source word placement found)
  unfolding here there
  found-renamed state source word placement None within = refl
  found-renamed state source word placement (Some file) within =
      ap (λ b. cond b (fault_at Cycle (renamed_source rename source) ∷ []) (file_outcomes enter' there state (renamed_source rename source) word placement (rename file))) (ap (list_any (λ on. on.0 == (rename file).0)) (sym (map-append rename way (text ∷ []))) ∙ tells file within) ∙ if-renamed rename _ _ (file_outcomes enter here state source word placement file) _ _ refl (agree state source word placement file within)

  line-renamed : (state : State) (source : Source) (line line' : Line) → StandsFor inside rename texts other text line line' → (line_outcomes enter' there state (renamed_source rename source) line' ≡ map (renamed_outcome rename) (line_outcomes enter here state source line)) × (next state line' ≡ next state line)
  unfolding here there next
  line-renamed state source (Ref word placement (Some name)) line' stands =
      rw stands.1 (ap (found_outcomes enter' there state (renamed_source rename source) word placement) stands.2 ∙ found-renamed state source word placement (texts.found text name) stands.3, refl)
  line-renamed state source (Ref word placement None) line' stands = rw stands (refl, refl)
  line-renamed state source (Draw kind word points) line' stands = rw stands (ap (λ o. o ∷ []) (entry-renamed rename above (own_entry state source kind word points)), refl)
  line-renamed state source (Org part) line' stands = rw stands.1 (refl, refl)
  line-renamed state source line.Malformed line' stands = rw stands (refl, refl)
  line-renamed state source line.OutOfRange line' stands = rw stands (refl, refl)
  line-renamed state source line line' stands = rw stands (refl, refl)

  lines-renamed : (state : State) (number : ℕ) (lines lines' : List Line) → StandFor inside rename texts other text lines lines' → outcomes_from enter' there state number lines' ≡ map (map (renamed_outcome rename)) (outcomes_from enter here state number lines) ++ further lines lines'
  unfolding here there next
  lines-renamed state number [] [] stand = refl
  lines-renamed state number [] (line' ∷ lines') stand = rw stand.0.1 (ap (λ o. [] ∷ o) (lines-renamed state (suc number) [] lines' stand.1))
  lines-renamed state number (line ∷ lines) [] stand = elim stand [ ]
  lines-renamed state number (line ∷ lines) (line' ∷ lines') stand =
      let source : Source = record { text = text; line = number } in
      let first = line-renamed state source line line' stand.0 in
      let gives = map (renamed_outcome rename) (line_outcomes enter here state source line) in
      ap (λ o. o ∷ outcomes_from enter' there (next state line') (suc number) lines') first.0 ∙ ap (λ s. gives ∷ outcomes_from enter' there s (suc number) lines') first.1 ∙ ap (λ o. gives ∷ o) (lines-renamed (next state line) (suc number) lines lines' stand.1)

  text-renamed : other.is_part (rename text) ≡ texts.is_part text → StandFor inside rename texts other text (texts.lines text) (other.lines (rename text)) → outcomes_by_line enter' (context_of other (map rename way) (rename text) (renamed_above rename above)) ≡ map (map (renamed_outcome rename)) (outcomes_by_line enter (context_of texts way text above)) ++ further (texts.lines text) (other.lines (rename text))
  unfolding here there
  text-renamed part stand =
      ap (λ p. outcomes_from enter' there (start p) 1 (other.lines (rename text))) part ∙ lines-renamed (start (texts.is_part text)) 1 (texts.lines text) (other.lines (rename text)) stand

-- ---- All texts, by induction on how many files more the way may have.

module _ (inside : TextId → Bool) (rename : TextId → TextId) (texts other : NumberedTexts) (agrees : AgreeAs inside rename texts other) where
  same-number : (text file : TextId) → inside text ≡ true → inside file ≡ true → ((rename text).0 == (rename file).0) ≡ (text.0 == file.0)
  same-number text file in_text in_file = by (text.0 == file.0) refl
    where
      by : (b : Bool) → (text.0 == file.0) ≡ b → ((rename text).0 == (rename file).0) ≡ b
      by true is = eq-eqb _ _ (ap (λ t. (rename t).0) (same_id text file (eqb-true text.0 file.0 is)))
      by false is = ne_eqb _ _ (λ same. let equal = agrees.apart text file in_text in_file (same_id (rename text) (rename file) same) in let one : (text.0 == file.0) ≡ true = eq-eqb text.0 file.0 (ap (λ t. t.0) equal) in cc)

  tells-more : (way : List TextId) (text : TextId) → Tells inside rename way → inside text ≡ true → Tells inside rename (way ++ text ∷ [])
  tells-more way text tells within file in_file =
      ap (list_any (λ on. on.0 == (rename file).0)) (map-append rename way (text ∷ [])) ∙ list_any-append _ (map rename way) (rename text ∷ []) ∙ ap (λ b. b || ((rename text).0 == (rename file).0 || false)) (tells file in_file) ∙ ap (λ b. list_any (λ on. on.0 == file.0) way || (b || false)) (same-number text file within in_file) ∙ sym (list_any-append _ way (text ∷ []))

  part-renamed : (way : List TextId) (text file : TextId) (above : Above) (source : Source) (word : ℕ) → inside text ≡ true → inside file ≡ true → part_outcomes (context_of other (map rename way) (rename text) (renamed_above rename above)) (renamed_source rename source) word (rename file) ≡ map (renamed_outcome rename) (part_outcomes (context_of texts way text above) source word file)
  part-renamed way text file above source word in_text in_file =
      rw (agrees.is_part text in_text, agrees.is_part file in_file, agrees.target file in_file) (if-renamed rename (not (texts.is_part text) && texts.is_part file) _ _ _ _ (ap (λ o. o ∷ []) (entry-renamed rename above (Part (texts.target file) (colour_of word) source))) refl)

  abbrev pub SameAt : ℕ → Type 0
  SameAt left = (way : List TextId) (text : TextId) (above : Above) → Tells inside rename way → inside text ≡ true → all_by_line left (context_of other (map rename way) (rename text) (renamed_above rename above)) ≡ map (map (renamed_outcome rename)) (all_by_line left (context_of texts way text above)) ++ further (texts.lines text) (other.lines (rename text))

  whole-renamed : (left : ℕ) → SameAt left → (way : List TextId) (text : TextId) (above : Above) → Tells inside rename way → inside text ≡ true → all left (context_of other (map rename way) (rename text) (renamed_above rename above)) ≡ map (renamed_outcome rename) (all left (context_of texts way text above))
  whole-renamed left same way text above tells within =
      let given = all_by_line left (context_of texts way text above) in
      ap concatenation (same way text above tells within) ∙ concatenation-further (map (map (renamed_outcome rename)) given) (texts.lines text) (other.lines (rename text)) ∙ map-concatenation (renamed_outcome rename) given

  file-renamed : (left : ℕ) → SameAt left → (way : List TextId) (text : TextId) (above : Above) → Tells inside rename (way ++ text ∷ []) → inside text ≡ true → (state : State) (source : Source) (word : ℕ) (placement : Placement) (file : TextId) → inside file ≡ true → file_outcomes (Some (λ inner. all left inner)) (context_of other (map rename way) (rename text) (renamed_above rename above)) state (renamed_source rename source) word placement (rename file) ≡ map (renamed_outcome rename) (file_outcomes (Some (λ inner. all left inner)) (context_of texts way text above) state source word placement file)
  file-renamed left same way text above tells within state source word placement file in_file =
      let longer = way ++ text ∷ [] in
      let outer = outer_of state (renamed_source rename source) word placement in
      let inner = beneath above (above_of (outer_of state source word placement)) in
      let part = part_outcomes (context_of texts way text above) source word file in
      let there = context_of other (map rename way) (rename text) (renamed_above rename above) in
      let below : all left (context_below there outer (rename file)) ≡ map (renamed_outcome rename) (all left (context_of texts longer file inner)) = ap (λ w. all left (context_of other w (rename file) (beneath (renamed_above rename above) (above_of outer)))) (sym (map-append rename way (text ∷ []))) ∙ ap (λ a. all left (context_of other (map rename longer) (rename file) a)) (above-renamed rename above state source word placement) ∙ whole-renamed left same longer file inner tells in_file in
      ap (λ o. o ++ all left (context_below there outer (rename file))) (part-renamed way text file above source word within in_file) ∙ ap (λ o. map (renamed_outcome rename) part ++ o) below ∙ sym (map-append (renamed_outcome rename) part (all left (context_of texts longer file inner)))

  pub all-renamed : (left : ℕ) → SameAt left
  unfolding all_by_line
  all-renamed zero way text above tells within =
      text-renamed inside rename texts other way text above None None (tells-more way text tells within) (λ state source word placement file in_file. refl) (agrees.is_part text within) (agrees.lines text within)
  all-renamed (suc left) way text above tells within =
      let longer = tells-more way text tells within in
      text-renamed inside rename texts other way text above (Some (λ inner. all left inner)) (Some (λ inner. all left inner)) longer (file-renamed left (all-renamed left) way text above longer within) (agrees.is_part text within) (agrees.lines text within)

  -- ---- Heights.

  tallest-renamed : (text : TextId) (heights heights' : TextId → ℕ) → ((file : TextId) → inside file ≡ true → heights' (rename file) ≡ heights file) → (lines lines' : List Line) → StandFor inside rename texts other text lines lines' → tallest heights' (found_among other (rename text) lines') ≡ tallest heights (found_among texts text lines)
  tallest-renamed text heights heights' same [] [] stand = refl
  tallest-renamed text heights heights' same [] (line' ∷ lines') stand = rw stand.0.1 (tallest-renamed text heights heights' same [] lines' stand.1)
  tallest-renamed text heights heights' same (line ∷ lines) [] stand = elim stand [ ]
  tallest-renamed text heights heights' same (Ref word placement (Some name) ∷ lines) (line' ∷ lines') stand =
      rw stand.0.1 (ap (λ found. tallest heights' (option_to_list found ++ found_among other (rename text) lines')) stand.0.2 ∙ by (texts.found text name) stand.0.3 (tallest-renamed text heights heights' same lines lines' stand.1))
    where
      by : (found : Option TextId) → FindsInside inside found → tallest heights' (found_among other (rename text) lines') ≡ tallest heights (found_among texts text lines) → tallest heights' (option_to_list (option_map rename found) ++ found_among other (rename text) lines') ≡ tallest heights (option_to_list found ++ found_among texts text lines)
      by None within rest = rest
      by (Some file) within rest = rw (same file within, rest) refl
  tallest-renamed text heights heights' same (Org part ∷ lines) (line' ∷ lines') stand = rw stand.0.1 (tallest-renamed text heights heights' same lines lines' stand.1)
  tallest-renamed text heights heights' same (line ∷ lines) (line' ∷ lines') stand = rw stand.0 (tallest-renamed text heights heights' same lines lines' stand.1)

  pub heights-renamed : (bound : ℕ) (text : TextId) → inside text ≡ true → height bound other (rename text) ≡ height bound texts text
  unfolding height
  heights-renamed zero text within = refl
  heights-renamed (suc bound) text within =
      ap suc (tallest-renamed text (height bound texts) (height bound other) (λ file in_file. heights-renamed bound file in_file) (texts.lines text) (other.lines (rename text)) (agrees.lines text within))

-- ---- Answers.

module _ (rename : TextId → TextId) where
  entries-renamed : (outcomes : List Outcome) → entries_before (map (renamed_outcome rename) outcomes) ≡ map (renamed_entry rename) (entries_before outcomes)
  entries-renamed [] = refl
  entries-renamed (Err fault ∷ outcomes) = refl
  entries-renamed (Ok entry ∷ outcomes) = ap (λ es. renamed_entry rename entry ∷ es) (entries-renamed outcomes)

  fault-renamed : (outcomes : List Outcome) → first_fault (map (renamed_outcome rename) outcomes) ≡ option_map (renamed_fault rename) (first_fault outcomes)
  fault-renamed [] = refl
  fault-renamed (Err fault ∷ outcomes) = refl
  fault-renamed (Ok entry ∷ outcomes) = fault-renamed outcomes

  end-renamed : (many : Option Entry) (entries : List Entry) (end : Option Fault) → unless_too_many (option_map (renamed_entry rename) many) (map (renamed_entry rename) entries) (option_map (renamed_fault rename) end) ≡ renamed_answer rename (unless_too_many many entries end)
  end-renamed (Some (Drawn kind certified clip winding colour source points)) entries end = refl
  end-renamed (Some (Part file colour source)) entries end = refl
  end-renamed None entries None = refl
  end-renamed None entries (Some fault) = refl

  answer-renamed : (most : ℕ) (outcomes : List Outcome) → answer_of most (map (renamed_outcome rename) outcomes) ≡ renamed_answer rename (answer_of most outcomes)
  answer-renamed most outcomes =
      rw (entries-renamed outcomes, fault-renamed outcomes, slice_get-map (renamed_entry rename) (entries_before outcomes) most) (end-renamed (slice_get (entries_before outcomes) most) (entries_before outcomes) (first_fault outcomes))

  counts-renamed : (lines : List (List Outcome)) → map length (map (map (renamed_outcome rename)) lines) ≡ map length lines
  counts-renamed [] = refl
  counts-renamed (line ∷ lines) = ap (λ n. n ∷ map length (map (map (renamed_outcome rename)) lines)) (length-map line (renamed_outcome rename)) ∙ ap (λ ns. length line ∷ ns) (counts-renamed lines)

  -- ---- Expansions.

  first-renamed : (most : ℕ) (outcomes : List Outcome) → first_entries most (map (renamed_outcome rename) outcomes) ≡ map (renamed_entry rename) (first_entries most outcomes)
  first-renamed most outcomes = ap (take (suc most)) (entries-renamed outcomes) ∙ take-map (renamed_entry rename) (suc most) (entries_before outcomes)

  end-of-renamed : (most : ℕ) (outcomes : List Outcome) → end_of most (map (renamed_outcome rename) outcomes) ≡ option_map (renamed_fault rename) (end_of most outcomes)
  end-of-renamed most outcomes =
      rw (entries-renamed outcomes, fault-renamed outcomes, length-map (entries_before outcomes) (renamed_entry rename)) (by (nat_lt most (length (entries_before outcomes))))
    where
      by : (many : Bool) → (if many then None else option_map (renamed_fault rename) (first_fault outcomes)) ≡ option_map (renamed_fault rename) (if many then None else first_fault outcomes)
      by true = refl
      by false = refl

  ends-renamed : (most : ℕ) (before : List Outcome) (lines : List (List Outcome)) → ends_behind most (map (renamed_outcome rename) before) (map (map (renamed_outcome rename)) lines) ≡ ends_behind most before lines
  ends-renamed most before [] = refl
  ends-renamed most before (line ∷ lines) =
      let one : map (renamed_outcome rename) before ++ map (renamed_outcome rename) line ≡ map (renamed_outcome rename) (before ++ line) = sym (map-append (renamed_outcome rename) before line) in
      let count : length (first_entries most (map (renamed_outcome rename) (before ++ line))) ≡ length (first_entries most (before ++ line)) = ap length (first-renamed most (before ++ line)) ∙ length-map (first_entries most (before ++ line)) (renamed_entry rename) in
      ap (λ o. length (first_entries most o) ∷ ends_behind most o (map (map (renamed_outcome rename)) lines)) one ∙ ap (λ n. n ∷ ends_behind most (map (renamed_outcome rename) (before ++ line)) (map (map (renamed_outcome rename)) lines)) count ∙ ap (λ ns. length (first_entries most (before ++ line)) ∷ ns) (ends-renamed most (before ++ line) lines)

  expansion-renamed : (most : ℕ) (lines : List (List Outcome)) → expansion_of most (map (map (renamed_outcome rename)) lines) ≡ renamed_expansion rename (expansion_of most lines)
  expansion-renamed most lines =
      let whole : concatenation (map (map (renamed_outcome rename)) lines) ≡ map (renamed_outcome rename) (concatenation lines) = map-concatenation (renamed_outcome rename) lines in
      rw (whole, first-renamed most (concatenation lines), end-of-renamed most (concatenation lines), ends-renamed most [] lines) refl

pub renames : RenamingLaw
unfolding answer outcome_counts neutral_expansion
renames = record {
  outcomes = λ inside rename texts other agrees left text above within. whole-renamed inside rename texts other agrees left (all-renamed inside rename texts other agrees left) [] text above (λ file in_file. refl) within;
  answers = λ inside rename texts other agrees depth most root colour within.
      let left = left_below depth [] in
      ap (answer_of most) (whole-renamed inside rename texts other agrees left (all-renamed inside rename texts other agrees left) [] root (colour_above colour) (λ file in_file. refl) within) ∙ answer-renamed rename most (all left (context_of texts [] root (colour_above colour)));
  counts = λ inside rename texts other agrees depth root colour within many.
      let left = left_below depth [] in
      let given = all_by_line left (context_of texts [] root (colour_above colour)) in
      ap (map length) (all-renamed inside rename texts other agrees left [] root (colour_above colour) (λ file in_file. refl) within ∙ ap (λ o. map (map (renamed_outcome rename)) given ++ o) (none-further (texts.lines root) (other.lines (rename root)) many) ∙ append-nil (map (map (renamed_outcome rename)) given)) ∙ counts-renamed rename given;
  expansions = λ inside rename texts other agrees depth most text within many.
      let left = left_below depth [] in
      let given = all_by_line left (context_of texts [] text nothing_above) in
      ap (expansion_of most) (all-renamed inside rename texts other agrees left [] text nothing_above (λ file in_file. refl) within ∙ ap (λ o. map (map (renamed_outcome rename)) given ++ o) (none-further (texts.lines text) (other.lines (rename text)) many) ∙ append-nil (map (map (renamed_outcome rename)) given)) ∙ expansion-renamed rename most given;
  heights = heights-renamed;
}
