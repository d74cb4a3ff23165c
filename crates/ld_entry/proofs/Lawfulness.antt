-- Below a lawful colour all entries are lawful.
use Rattle.std.proofs.Common.{◌≡◌, ◌&&◌, ℕ, zero, suc, Bool, true, false, not, cond, List, [], ◌∷◌, drop, Option, Some, None, Result, Ok, Err, refl, ap, sym, ◌∙◌}
use Rattle.std.specs.Prelude.{All, IfOk, slice_get, ⊤}
use Rattle.std.proofs.lemmas.List.Elements.{All-append, All-cons, All-head, All-nil, All-tail}
use Rattle.ld_names.specs.Standing.{Map}
use Rattle.ld_names.specs.declared.file.FileId.{FileId}
use Rattle.ld_names.specs.declared.file.TextId.{TextId}
use Rattle.ld_num.specs.Placing.{moved}
use Rattle.ld_num.specs.declared.point.Placement.{Placement}
use Rattle.ld_num.specs.declared.point.Point.{Point}
use Rattle.ld_line.specs.Kind.{points_in}
use Rattle.ld_line.specs.declared.line.Line.{Line}
use Rattle.ld_line.specs.declared.line.Line.TheVariants.{Bfc, Blank, Comment, Draw, Org, Ref, Rot, Step}
use Rattle.ld_line.specs.declared.line.Line.TheVariants as line
use Rattle.ld_bfc.specs.LineState.{next, start}
use Rattle.ld_bfc.specs.declared.culling.State.{State}
use Rattle.ld_colour.specs.Colour.{colour_of, is_lawful, under}
use Rattle.ld_colour.specs.Laws.{LawfulColours}
use Rattle.ld_entry.proofs.Zeros.{HasZeros, HaveZeros, lines-zeros}
use Rattle.ld_entry.specs.Answers.{answer, entries_before, first_fault, left_below, unless_too_many}
use Rattle.ld_entry.specs.Carrying.{Above, at_points, carried_entry, colour_above, fault_at, Link, moved_points, onto_moved, or_source, Outcome, through, through_link, winding_turned}
use Rattle.ld_entry.specs.Lawful.{IsLawfulEntry, IsLawfulOutcome}
use Rattle.ld_entry.specs.Laws.{LawfulLaw}
use Rattle.ld_entry.specs.NumberedTexts.{standing_lines, lines_of_file, texts_over}
use Rattle.ld_entry.specs.Outcomes.{all, all_by_line, concatenation, Context, context_below, context_of, Enter, file_outcomes, found_outcomes, is_on_way, line_outcomes, outcomes_by_line, outcomes_from, outer_of, own_entry, part_outcomes}
use Rattle.ld_entry.specs.declared.entry.Entry.{Entry}
use Rattle.ld_entry.specs.declared.entry.Entry.TheVariants.{Drawn, Part}
use Rattle.ld_entry.specs.declared.entry.Fault.{Fault}
use Rattle.ld_entry.specs.declared.entry.Source.{Source}
use Rattle.ld_entry.specs.declared.entry.What.TheVariants.{Cycle, Malformed, Missing, Range, TooDeep, Unnamed}

-- ---- The points that are not used stay.

drop-onto_moved : (used : ℕ) (first : Option Point) (rest : Option (List Point)) (points there : List Point) → ((more : List Point) → rest ≡ Some more → drop used more ≡ drop used points) → onto_moved first rest ≡ Some there → drop (suc used) there ≡ drop used points
drop-onto_moved used None rest points there stays is = cc
drop-onto_moved used (Some point) None points there stays is = cc
drop-onto_moved used (Some point) (Some more) points there stays is =
    let same : there ≡ point ∷ more = cc in ap (drop (suc used)) same ∙ stays more refl

drop-moved_points : (by : Placement) (used : ℕ) (points there : List Point) → moved_points by used points ≡ Some there → drop used there ≡ drop used points
unfolding moved_points
drop-moved_points by zero points there is = cc
drop-moved_points by (suc used) [] there is = let same : there ≡ [] = cc in ap (drop (suc used)) same
drop-moved_points by (suc used) (point ∷ points) there is =
    drop-onto_moved used (moved by point) (moved_points by used points) points there (λ more same. drop-moved_points by used points more same) is

through_link-ok : (link : Link) (used : ℕ) (before : Result (List Point) Source) (points there : List Point) → ((inner : List Point) → before ≡ Ok inner → drop used inner ≡ drop used points) → through_link link used before ≡ Ok there → drop used there ≡ drop used points
through_link-ok link used (Err source) points there inside is = cc
through_link-ok link used (Ok inner) points there inside is = at (moved_points link.placement used inner) refl is
  where
    at : (o : Option (List Point)) → moved_points link.placement used inner ≡ o → or_source link.source o ≡ Ok there → drop used there ≡ drop used points
    at None moves is = cc
    at (Some moved) moves is =
        let same : moved ≡ there = cc in
        ap (drop used) (sym same) ∙ drop-moved_points link.placement used inner moved moves ∙ inside inner refl

drop-through : (links : List Link) (used : ℕ) (points there : List Point) → through links used points ≡ Ok there → drop used there ≡ drop used points
drop-through [] used points there is = let same : points ≡ there = cc in ap (drop used) (sym same)
drop-through (link ∷ links) used points there is =
    through_link-ok link used (through links used points) points there (λ inner same. drop-through links used points inner same) is

-- ---- One entry.

at_points-lawful : (entry : List Point → Entry) (there : Result (List Point) Source) → ((points : List Point) → there ≡ Ok points → IsLawfulEntry (entry points)) → IsLawfulOutcome (at_points entry there)
at_points-lawful entry (Ok points) lawful = lawful points refl
at_points-lawful entry (Err source) lawful = tt

module _ (laws : LawfulColours) where
  carried_entry-lawful : (above : Above) (entry : Entry) → is_lawful above.colour ≡ true → IsLawfulEntry entry → IsLawfulOutcome (carried_entry above entry)
  carried_entry-lawful above (Part file colour source) current lawful = laws.inherited colour above.colour lawful current
  carried_entry-lawful above (Drawn kind certified clip winding colour source points) current lawful =
      at_points-lawful (Drawn kind (certified && above.below.enable) (clip && above.below.clip) (winding_turned above.below.invert winding) (under colour above.colour) source) (through above.links (points_in kind) points) (λ there is. (laws.inherited colour above.colour lawful.0 current, drop-through above.links (points_in kind) points there is ∙ lawful.1))

  -- ---- One text, whose entered texts are lawful.

  -- a lawful colour is current, and the lines of the texts have zero where they use no point
  abbrev IsLawfulContext : Context → Type 0
  IsLawfulContext context = (is_lawful context.above.colour ≡ true) × ((text : TextId) → HaveZeros (context.texts.lines text))

  abbrev AreLawful : List Outcome → Type 0
  AreLawful outcomes = All IsLawfulOutcome outcomes

  abbrev EntersLawful : Enter → Type 0
  EntersLawful None = ⊤
  EntersLawful (Some enter) = (context : Context) → IsLawfulContext context → AreLawful (enter context)

  one : (outcome : Outcome) → IsLawfulOutcome outcome → AreLawful (outcome ∷ [])
  one outcome lawful = All-cons IsLawfulOutcome outcome [] lawful (All-nil IsLawfulOutcome)

  either : (b : Bool) (xs ys : List Outcome) → AreLawful xs → AreLawful ys → AreLawful (cond b xs ys)
  either true xs ys hx hy = hx
  either false xs ys hx hy = hy

  part-lawful : (context : Context) → IsLawfulContext context → (source : Source) (word : ℕ) (file : TextId) → AreLawful (part_outcomes context source word file)
  part-lawful context lawful source word file =
      either (not (context.texts.is_part context.text) && context.texts.is_part file) (carried_entry context.above (Part (context.texts.target file) (colour_of word) source) ∷ []) [] (one _ (carried_entry-lawful context.above (Part (context.texts.target file) (colour_of word) source) lawful.0 (laws.of_words word))) (All-nil IsLawfulOutcome)

  file_outcomes-lawful : (enter : Enter) → EntersLawful enter → (context : Context) → IsLawfulContext context → (state : State) (source : Source) (word : ℕ) (placement : Placement) (file : TextId) → AreLawful (file_outcomes enter context state source word placement file)
  file_outcomes-lawful None enters context lawful state source word placement file = one (fault_at TooDeep source) tt
  file_outcomes-lawful (Some enter) enters context lawful state source word placement file =
      All-append IsLawfulOutcome (part_outcomes context source word file) _ (part-lawful context lawful source word file) (enters (context_below context (outer_of state source word placement) file) (laws.inherited (colour_of word) context.above.colour (laws.of_words word) lawful.0, lawful.1))

  found_outcomes-lawful : (enter : Enter) → EntersLawful enter → (context : Context) → IsLawfulContext context → (state : State) (source : Source) (word : ℕ) (placement : Placement) (found : Option TextId) → AreLawful (found_outcomes enter context state source word placement found)
  found_outcomes-lawful enter enters context lawful state source word placement None = one (fault_at Missing source) tt
  found_outcomes-lawful enter enters context lawful state source word placement (Some file) =
      either (is_on_way context file) (fault_at Cycle source ∷ []) (file_outcomes enter context state source word placement file) (one (fault_at Cycle source) tt) (file_outcomes-lawful enter enters context lawful state source word placement file)

  line-lawful : (enter : Enter) → EntersLawful enter → (context : Context) → IsLawfulContext context → (state : State) (source : Source) (line : Line) → HasZeros line → AreLawful (line_outcomes enter context state source line)
  line-lawful enter enters context lawful state source line.Malformed zeros = one (fault_at Malformed source) tt
  line-lawful enter enters context lawful state source line.OutOfRange zeros = one (fault_at Range source) tt
  line-lawful enter enters context lawful state source (Draw kind word points) zeros =
      one _ (carried_entry-lawful context.above (own_entry state source kind word points) lawful.0 (laws.of_words word, zeros))
  line-lawful enter enters context lawful state source (Ref word placement None) zeros = one (fault_at Unnamed source) tt
  line-lawful enter enters context lawful state source (Ref word placement (Some name)) zeros =
      found_outcomes-lawful enter enters context lawful state source word placement (context.texts.found context.text name)
  line-lawful enter enters context lawful state source Blank zeros = All-nil IsLawfulOutcome
  line-lawful enter enters context lawful state source Comment zeros = All-nil IsLawfulOutcome
  line-lawful enter enters context lawful state source (Org part) zeros = All-nil IsLawfulOutcome
  line-lawful enter enters context lawful state source (Bfc word) zeros = All-nil IsLawfulOutcome
  line-lawful enter enters context lawful state source Step zeros = All-nil IsLawfulOutcome
  line-lawful enter enters context lawful state source (Rot word) zeros = All-nil IsLawfulOutcome

  lines-lawful : (enter : Enter) → EntersLawful enter → (context : Context) → IsLawfulContext context → (state : State) (number : ℕ) (lines : List Line) → HaveZeros lines → AreLawful (concatenation (outcomes_from enter context state number lines))
  lines-lawful enter enters context lawful state number [] zeros = All-nil IsLawfulOutcome
  lines-lawful enter enters context lawful state number (line ∷ lines) zeros =
      All-append IsLawfulOutcome (line_outcomes enter context state (record { text = context.text; line = number }) line) _ (line-lawful enter enters context lawful state (record { text = context.text; line = number }) line zeros.0) (lines-lawful enter enters context lawful (next state line) (suc number) lines zeros.1)

  text-lawful : (enter : Enter) → EntersLawful enter → (context : Context) → IsLawfulContext context → AreLawful (concatenation (outcomes_by_line enter context))
  text-lawful enter enters context lawful = lines-lawful enter enters context lawful (start (context.texts.is_part context.text)) 1 (context.texts.lines context.text) (lawful.1 context.text)

  -- ---- All texts, and their answers.

  all-lawful : (left : ℕ) (context : Context) → IsLawfulContext context → AreLawful (all left context)
  unfolding all_by_line
  all-lawful zero context lawful = text-lawful None tt context lawful
  all-lawful (suc left) context lawful = text-lawful (Some (λ inner. concatenation (all_by_line left inner))) (λ inner below. all-lawful left inner below) context lawful

  entries-lawful : (outcomes : List Outcome) → AreLawful outcomes → All IsLawfulEntry (entries_before outcomes)
  entries-lawful [] lawful = All-nil IsLawfulEntry
  entries-lawful (Err fault ∷ outcomes) lawful = All-nil IsLawfulEntry
  entries-lawful (Ok entry ∷ outcomes) lawful =
      All-cons IsLawfulEntry entry (entries_before outcomes) (All-head IsLawfulOutcome (Ok entry) outcomes lawful) (entries-lawful outcomes (All-tail IsLawfulOutcome (Ok entry) outcomes lawful))

  answer_by-lawful : (found : Option Entry) (entries : List Entry) (end : Option Fault) → All IsLawfulEntry entries → IfOk (unless_too_many found entries end) (All IsLawfulEntry)
  answer_by-lawful (Some entry) entries end lawful = tt
  answer_by-lawful None entries None lawful = lawful
  answer_by-lawful None entries (Some fault) lawful = tt

  file-zeros : (texts : Map) (file : Option FileId) → HaveZeros (lines_of_file texts file)
  file-zeros texts None = tt
  file-zeros texts (Some file) = lines-zeros (standing_lines (texts file))

  outcomes-lawful : (texts : Map) (files : List FileId) (left : ℕ) (way : List TextId) (text : TextId) (above : Above) → is_lawful above.colour ≡ true → AreLawful (all left (context_of (texts_over texts files) way text above))
  outcomes-lawful texts files left way text above current = all-lawful left (context_of (texts_over texts files) way text above) (current, λ other. file-zeros texts (slice_get files other.0))

  pub lawful : LawfulLaw
  unfolding answer
  lawful = record {
    outcomes = outcomes-lawful;
    answers = λ texts files depth most root colour current. let xs = all (left_below depth []) (context_of (texts_over texts files) [] root (colour_above colour)) in answer_by-lawful (slice_get (entries_before xs) most) (entries_before xs) (first_fault xs) (entries-lawful xs (outcomes-lawful texts files (left_below depth []) [] root (colour_above colour) current));
  }
