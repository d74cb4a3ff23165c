-- What a text gives, by what its lines come to.
use Rattle.std.proofs.Common.{◌≡◌, ◌<◌, ◌++◌, ◌⊎◌, inl, inr, ℕ, zero, suc, List, [], ◌∷◌, length, map, drop, Option, Some, None, Ok, refl, ap, sym, ◌∙◌, append_assoc}
use Rattle.std.specs.Prelude.{slice_get, slice_set}
use Rattle.std.proofs.lemmas.List.{append-nil}
use Rattle.ld_names.specs.declared.file.TextId.{TextId}
use Rattle.ld_num.specs.declared.point.Placement.{Placement}
use Rattle.ld_num.specs.declared.point.Point.{Point}
use Rattle.ld_line.specs.declared.line.Kind.{Kind}
use Rattle.ld_line.specs.declared.line.Line.{Line}
use Rattle.ld_line.specs.declared.line.Line.TheVariants.{Draw, Ref}
use Rattle.ld_bfc.specs.LineState.{face, next, start}
use Rattle.ld_bfc.specs.declared.culling.State.{State}
use Rattle.ld_colour.specs.Colour.{colour_of}
use Rattle.ld_colour.specs.Laws.{UnderLaws}
use Rattle.ld_colour.specs.declared.colour.Colour.{Colour}
use Rattle.ld_colour.specs.declared.colour.Colour.TheVariants.{Main}
use Rattle.ld_entry.specs.Answers.{until_end}
use Rattle.ld_entry.specs.Carrying.{Outcome, carried_entry, nothing_above}
use Rattle.ld_entry.specs.NumberedTexts.{NumberedTexts}
use Rattle.ld_entry.specs.Outcomes.{Enter, all, concatenation, found_outcomes, line_outcomes, outcomes_from, own_entry}
use Rattle.ld_entry.specs.declared.entry.Entry.{Entry}
use Rattle.ld_entry.specs.declared.entry.Entry.TheVariants.{Drawn}
use Rattle.ld_entry.specs.declared.entry.Fault.{Fault}
use Rattle.ld_entry.specs.declared.entry.Source.{Source}
use Rattle.ld_engine.specs.Gathering.{Gathers, alone, enter_with, gathered}
use Rattle.ld_engine.specs.Inside.Meeting.{AreMets, listed, met_found, met_of, met_outcomes, mets_from, mets_of, mets_outcomes}
use Rattle.ld_engine.specs.declared.met.Met.{Met}
use Rattle.ld_engine.proofs.Expanded.{all-is, at-line, past-lines, tinted-is}
use Rattle.ld_engine.proofs.Gathered.{full}

module _ (under : UnderLaws) (enter : Enter) (texts : NumberedTexts) (way : List TextId) where
  -- a line's own entry stays as it is below nothing
  own-kept : (state : State) (source : Source) (kind : Kind) (word : ℕ) (points : List Point) → carried_entry nothing_above (own_entry state source kind word points) ≡ Ok (own_entry state source kind word points)
  own-kept state source kind word points =
      tinted-is Main (own_entry state source kind word points) ∙ ap (λ (colour : Colour). Ok (Drawn kind (face state).0 (face state).1 (face state).2 colour source points)) (under.right_unit (colour_of word))

  found-gives : (state : State) (source : Source) (word : ℕ) (placement : Placement) (file : Option TextId) → found_outcomes enter (alone texts way source.text) state source word placement file ≡ mets_outcomes enter texts way (met_found (record { state = state; source = source; colour = word; placement = placement }) file ∷ [])
  found-gives state source word placement None = refl
  found-gives state source word placement (Some file) =
      sym (append-nil (found_outcomes enter (alone texts way source.text) state source word placement (Some file)))

  pub line-gives : (state : State) (source : Source) (l : Line) → line_outcomes enter (alone texts way source.text) state source l ≡ mets_outcomes enter texts way (listed (met_of texts state source l))
  line-gives state source (Draw kind word points) = ap (λ o. o ∷ []) (own-kept state source kind word points)
  line-gives state source (Ref word placement (Some name)) = found-gives state source word placement (texts.found source.text name)
  line-gives state source (Ref word placement None) = refl
  line-gives state source l = refl

  both-give : (mets more : List Met) → mets_outcomes enter texts way (mets ++ more) ≡ mets_outcomes enter texts way mets ++ mets_outcomes enter texts way more
  both-give [] more = refl
  both-give (met ∷ mets) more =
      ap (λ os. met_outcomes enter texts way met ++ os) (both-give mets more) ∙ sym (append_assoc (met_outcomes enter texts way met) (mets_outcomes enter texts way mets) (mets_outcomes enter texts way more))

  lines-give : (text : TextId) (state : State) (number : ℕ) (lines : List Line) → concatenation (outcomes_from enter (alone texts way text) state number lines) ≡ mets_outcomes enter texts way (mets_from texts text state number lines)
  lines-give text state number [] = refl
  lines-give text state number (l ∷ lines) =
      let source : Source = record { text = text; line = number } in
      let first = listed (met_of texts state source l) in
      ap (λ os. os ++ concatenation (outcomes_from enter (alone texts way text) (next state l) (suc number) lines)) (line-gives state source l)
      ∙ ap (λ os. mets_outcomes enter texts way first ++ os) (lines-give text (next state l) (suc number) lines)
      ∙ sym (both-give first (mets_from texts text (next state l) (suc number) lines))

text-gives : UnderLaws → (left : ℕ) (texts : NumberedTexts) (way : List TextId) (text : TextId) → all left (alone texts way text) ≡ mets_outcomes (enter_with left) texts way (mets_of texts text)
unfolding mets_of
text-gives under left texts way text =
    all-is left (alone texts way text) ∙ lines-give under (enter_with left) texts way text (start (texts.is_part text)) 1 (texts.lines text)

none-dropped : {A : Type 0} (xs : List A) → drop 0 xs ≡ xs
none-dropped [] = refl
none-dropped (x ∷ xs) = refl

-- ---- A text is gone through.

module _ (most left : ℕ) (texts : NumberedTexts) (way : List TextId) (text : TextId) (old : List Entry) where
  -- what is left, by the number of those before it
  abbrev pub mets_left : ℕ → List Outcome
  mets_left before = mets_outcomes (enter_with left) texts way (drop before (mets_of texts text))

  -- what is gathered so far, and what is left
  abbrev pub IsGathered : List Entry → ℕ → Type 0
  IsGathered entries before =
      (behind : List Outcome) → gathered most entries None (mets_left before ++ behind) ≡ gathered most old None (all left (alone texts way text) ++ behind)

  pub begun : UnderLaws → IsGathered old 0
  begun under behind =
      ap (λ mets. gathered most old None (mets_outcomes (enter_with left) texts way mets ++ behind)) (none-dropped (mets_of texts text))
      ∙ sym (ap (λ os. gathered most old None (os ++ behind)) (text-gives under left texts way text))

  pub overfull : (entries : List Entry) (before : ℕ) → most < length entries → IsGathered entries before → Gathers most old entries None (all left (alone texts way text))
  overfull entries before many so_far behind = full most entries behind (mets_left before ++ behind) many ∙ so_far behind

  pub done : (entries : List Entry) (before : ℕ) → slice_get (mets_of texts text) before ≡ None → IsGathered entries before → Gathers most old entries None (all left (alone texts way text))
  done entries before none so_far behind =
      sym (ap (λ mets. gathered most entries None (mets_outcomes (enter_with left) texts way mets ++ behind)) (past-lines (mets_of texts text) before none)) ∙ so_far behind

  module _ (entries new : List Entry) (before number : ℕ) (met : Met) (at : slice_get (mets_of texts text) before ≡ Some met) (next_is : number ≡ suc before) (so_far : IsGathered entries before) where
    abbrev met_gives : List Outcome
    met_gives = met_outcomes (enter_with left) texts way met

    left-is : mets_left before ≡ met_gives ++ mets_left number
    left-is =
        ap (mets_outcomes (enter_with left) texts way) (at-line (mets_of texts text) before met at)
        ∙ ap (λ n. met_gives ++ mets_outcomes (enter_with left) texts way (drop n (mets_of texts text))) (sym next_is)

    assoc : (behind : List Outcome) → mets_left before ++ behind ≡ met_gives ++ (mets_left number ++ behind)
    assoc behind = ap (λ os. os ++ behind) left-is ∙ append_assoc met_gives (mets_left number) behind

    pub met-done : Gathers most entries new None met_gives → IsGathered new number
    met-done step behind =
        step (mets_left number ++ behind) ∙ sym (ap (λ os. until_end most (map Ok entries ++ os)) (assoc behind)) ∙ so_far behind

    pub met-ended : (fault : Fault) → Gathers most entries new (Some fault) met_gives → Gathers most old new (Some fault) (all left (alone texts way text))
    met-ended fault step behind =
        step (mets_left number ++ behind) ∙ sym (ap (λ os. until_end most (map Ok entries ++ os)) (assoc behind)) ∙ so_far behind

-- ---- A text is read.

module _ (texts : NumberedTexts) (text : TextId) where
  -- what was read so far, and what is left
  abbrev pub IsRead : List Met → State → ℕ → Type 0
  IsRead mets state before = mets ++ mets_from texts text state (suc before) (drop before (texts.lines text)) ≡ mets_of texts text

  pub read-begun : (state : State) → state ≡ start (texts.is_part text) → IsRead [] state 0
  unfolding mets_of
  read-begun state is =
      ap (λ s. mets_from texts text s 1 (drop 0 (texts.lines text))) is ∙ ap (mets_from texts text (start (texts.is_part text)) 1) (none-dropped (texts.lines text))

  pub read-done : (mets : List Met) (state : State) (before : ℕ) → slice_get (texts.lines text) before ≡ None → IsRead mets state before → mets ≡ mets_of texts text
  read-done mets state before none so_far =
      sym (append-nil mets) ∙ sym (ap (λ lines. mets ++ mets_from texts text state (suc before) lines) (past-lines (texts.lines text) before none)) ∙ so_far

  pub read-more : (mets new : List Met) (state after : State) (before number : ℕ) (l : Line) → slice_get (texts.lines text) before ≡ Some l → number ≡ suc before → after ≡ next state l → new ≡ mets ++ listed (met_of texts state (record { text = text; line = number }) l) → IsRead mets state before → IsRead new after number
  read-more mets new state after before number l at next_is follows grown so_far =
      let rest = mets_from texts text (next state l) (suc number) (drop number (texts.lines text)) in
      let first = listed (met_of texts state (record { text = text; line = number }) l) in
      ap (λ s. new ++ mets_from texts text s (suc number) (drop number (texts.lines text))) follows
      ∙ ap (λ ms. ms ++ rest) grown ∙ append_assoc mets first rest
      ∙ ap (λ n. mets ++ (listed (met_of texts state (record { text = text; line = n }) l) ++ mets_from texts text (next state l) (suc n) (drop n (texts.lines text)))) next_is
      ∙ sym (ap (λ lines. mets ++ mets_from texts text state (suc before) lines) (at-line (texts.lines text) before l at)) ∙ so_far

-- ---- The texts that were read.

none-behind : {A : Type 0} (xs : List (Option A)) (n : ℕ) (a : A) → slice_get (xs ++ None ∷ []) n ≡ Some (Some a) → slice_get xs n ≡ Some (Some a)
none-behind [] zero a is = cc
none-behind [] (suc n) a is = cc
none-behind (x ∷ xs) zero a is = is
none-behind (x ∷ xs) (suc n) a is = none-behind xs n a is

pub place-kept : (texts : NumberedTexts) (lists new : List (Option (List Met))) → new ≡ lists ++ None ∷ [] → AreMets texts lists → AreMets texts new
place-kept texts lists new grown are text mets at =
    are text mets (none-behind lists text.0 mets (ap (λ all. slice_get all text.0) (sym grown) ∙ at))

put-at : {A : Type 0} (xs : List (Option A)) (n k : ℕ) (new a : A) → slice_get (slice_set xs n (Some new)) k ≡ Some (Some a) → ((k ≡ n) × (a ≡ new)) ⊎ (slice_get xs k ≡ Some (Some a))
put-at [] zero zero new a is = cc
put-at [] zero (suc k) new a is = cc
put-at [] (suc n) zero new a is = cc
put-at [] (suc n) (suc k) new a is = cc
put-at (x ∷ xs) zero zero new a is = inl (refl, cc)
put-at (x ∷ xs) zero (suc k) new a is = inr is
put-at (x ∷ xs) (suc n) zero new a is = inr is
put-at (x ∷ xs) (suc n) (suc k) new a is = by (put-at xs n k new a is)
  where
    by : ((k ≡ n) × (a ≡ new)) ⊎ (slice_get xs k ≡ Some (Some a)) → ((suc k ≡ suc n) × (a ≡ new)) ⊎ (slice_get xs k ≡ Some (Some a))
    by (inl same) = inl (ap suc same.0, same.1)
    by (inr there) = inr there

pub list-put : (texts : NumberedTexts) (lists new : List (Option (List Met))) (text : TextId) (mets : List Met) → new ≡ slice_set lists text.0 (Some mets) → mets ≡ mets_of texts text → AreMets texts lists → AreMets texts new
list-put texts lists new text mets grown is are other given at = by (put-at lists text.0 other.0 mets given (ap (λ all. slice_get all other.0) (sym grown) ∙ at))
  where
    by : ((other.0 ≡ text.0) × (given ≡ mets)) ⊎ (slice_get lists other.0 ≡ Some (Some given)) → given ≡ mets_of texts other
    by (inl same) = same.1 ∙ is ∙ ap (λ n. mets_of texts (record { 0 = n })) (sym same.0)
    by (inr there) = are other given there

pub nothing-read : (texts : NumberedTexts) (lists : List (Option (List Met))) → lists ≡ [] → AreMets texts lists
nothing-read texts lists none text mets at = by text.0 (ap (λ all. slice_get all text.0) (sym none) ∙ at)
  where
    by : (n : ℕ) → slice_get [] n ≡ Some (Some mets) → mets ≡ mets_of texts text
    by zero is = cc
    by (suc n) is = cc
