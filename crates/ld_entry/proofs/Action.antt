-- What stands further out acts on each outcome alone.
use Rattle.std.proofs.Common.{◌≡◌, ◌&&◌, ℕ, zero, suc, Bool, true, false, not, cond, List, [], ◌∷◌, ◌++◌, map, Option, Some, None, Result, Ok, Err, refl, ap, sym, ◌∙◌, append_assoc}
use Rattle.std.specs.Prelude.{⊤}
use Rattle.std.proofs.lemmas.List.{append-nil, map-append}
use Rattle.ld_names.specs.declared.file.TextId.{TextId}
use Rattle.ld_num.specs.declared.point.Placement.{Placement}
use Rattle.ld_num.specs.declared.point.Point.{Point}
use Rattle.ld_line.specs.Kind.{points_in}
use Rattle.ld_line.specs.declared.line.Kind.{Kind}
use Rattle.ld_line.specs.declared.line.Line.{Line}
use Rattle.ld_line.specs.declared.line.Line.TheVariants.{Bfc, Blank, Comment, Draw, Org, Ref, Rot, Step}
use Rattle.ld_line.specs.declared.line.Line.TheVariants as line
use Rattle.ld_line.specs.declared.line.Winding.{Winding}
use Rattle.ld_line.specs.declared.line.Winding.TheVariants.{Ccw, Cw}
use Rattle.ld_bfc.specs.Laws.{WithLaws}
use Rattle.ld_bfc.specs.LineState.{next, start}
use Rattle.ld_bfc.specs.Passing.{differ}
use Rattle.ld_bfc.specs.declared.culling.State.{State}
use Rattle.ld_colour.specs.Colour.{colour_of, under}
use Rattle.ld_colour.specs.Laws.{UnderLaws}
use Rattle.ld_colour.specs.declared.colour.Colour.{Colour}
use Rattle.ld_entry.specs.Carrying.{Above, above_of, at_points, beneath, carried_entry, carried_outcome, Link, nothing_above, Outcome, through, through_link, winding_turned}
use Rattle.ld_entry.specs.Laws.{ActionLaw, CarryLaws, further_below}
use Rattle.ld_entry.specs.NumberedTexts.{NumberedTexts}
use Rattle.ld_entry.specs.Outcomes.{all, all_by_line, concatenation, Context, context_below, context_of, Enter, file_outcomes, found_outcomes, line_outcomes, outcomes_by_line, outcomes_from, outer_of, own_entry, part_outcomes, reference_outcomes}
use Rattle.ld_entry.specs.declared.entry.Entry.{Entry}
use Rattle.ld_entry.specs.declared.entry.Entry.TheVariants.{Drawn, Part}
use Rattle.ld_entry.specs.declared.entry.Source.{Source}

-- ---- Flags, windings and links compose.

pub and-true : (b : Bool) → (b && true) ≡ b
and-true true = refl
and-true false = refl

and-turned : (a b c : Bool) → (a && (b && c)) ≡ ((a && c) && b)
and-turned true true true = refl
and-turned true true false = refl
and-turned true false true = refl
and-turned true false false = refl
and-turned false b c = refl

winding_turned-differ : (a b : Bool) (winding : Winding) → winding_turned (differ a b) winding ≡ winding_turned a (winding_turned b winding)
winding_turned-differ true true Ccw = refl
winding_turned-differ true true Cw = refl
winding_turned-differ true false winding = refl
winding_turned-differ false b winding = refl

-- points that come through inner links, through further ones
through_more : List Link → ℕ → Result (List Point) Source → Result (List Point) Source
through_more links used (Ok points) = through links used points
through_more links used (Err source) = Err source

through_more-none : (used : ℕ) (points : Result (List Point) Source) → points ≡ through_more [] used points
unfolding through_more
through_more-none used (Ok points) = refl
through_more-none used (Err source) = refl

through_more-one : (link : Link) (links : List Link) (used : ℕ) (points : Result (List Point) Source) → through_link link used (through_more links used points) ≡ through_more (link ∷ links) used points
unfolding through_more
through_more-one link links used (Ok points) = refl
through_more-one link links used (Err source) = refl

through-append : (outer inner : List Link) (used : ℕ) (points : List Point) → through (outer ++ inner) used points ≡ through_more outer used (through inner used points)
through-append [] inner used points = through_more-none used (through inner used points)
through-append (link ∷ outer) inner used points =
    ap (through_link link used) (through-append outer inner used points) ∙ through_more-one link outer used (through inner used points)

pub map-concatenation : {A B : Type 0} (f : A → B) (xs : List (List A)) → concatenation (map (map f) xs) ≡ map f (concatenation xs)
map-concatenation f [] = refl
map-concatenation f (x ∷ xs) = ap (λ ys. map f x ++ ys) (map-concatenation f xs) ∙ sym (map-append f x (concatenation xs))

-- ---- By the laws of colours and of what references pass down.

module _ (unders : UnderLaws) (withs : WithLaws) where
  pub beneath-assoc : (a b c : Above) → beneath (beneath a b) c ≡ beneath a (beneath b c)
  beneath-assoc a b c = rw (append_assoc a.links b.links c.links, unders.associative c.colour b.colour a.colour, withs.associative a.below b.below c.below) refl

  pub beneath-nothing : (a : Above) → beneath a nothing_above ≡ a
  beneath-nothing a = rw (append-nil a.links, withs.right_unit a.below) refl

  pub nothing-beneath : (a : Above) → beneath nothing_above a ≡ a
  nothing-beneath a = rw (unders.right_unit a.colour, withs.left_unit a.below) refl

  -- ---- One entry.

  at_points-beneath : (outer inner : Above) (kind : Kind) (certified clip : Bool) (winding : Winding) (colour : Colour) (source : Source) (points : Result (List Point) Source) → at_points (Drawn kind (certified && (outer.below.enable && inner.below.enable)) (clip && (outer.below.clip && inner.below.clip)) (winding_turned (differ outer.below.invert inner.below.invert) winding) (under colour (under inner.colour outer.colour)) source) (through_more outer.links (points_in kind) points) ≡ carried_outcome outer (at_points (Drawn kind (certified && inner.below.enable) (clip && inner.below.clip) (winding_turned inner.below.invert winding) (under colour inner.colour) source) points)
  unfolding through_more
  at_points-beneath outer inner kind certified clip winding colour source (Err place) = refl
  at_points-beneath outer inner kind certified clip winding colour source (Ok points) =
      rw (unders.associative colour inner.colour outer.colour, and-turned certified outer.below.enable inner.below.enable, and-turned clip outer.below.clip inner.below.clip, winding_turned-differ outer.below.invert inner.below.invert winding) refl

  pub carried_entry-beneath : (outer inner : Above) (entry : Entry) → carried_entry (beneath outer inner) entry ≡ carried_outcome outer (carried_entry inner entry)
  carried_entry-beneath outer inner (Part file colour source) = ap (λ c. Ok (Part file c source)) (unders.associative colour inner.colour outer.colour)
  carried_entry-beneath outer inner (Drawn kind certified clip winding colour source points) =
      ap (at_points (Drawn kind (certified && (outer.below.enable && inner.below.enable)) (clip && (outer.below.clip && inner.below.clip)) (winding_turned (differ outer.below.invert inner.below.invert) winding) (under colour (under inner.colour outer.colour)) source)) (through-append outer.links inner.links (points_in kind) points) ∙ at_points-beneath outer inner kind certified clip winding colour source (through inner.links (points_in kind) points)

  carried_outcome-beneath : (outer inner : Above) (outcome : Outcome) → carried_outcome (beneath outer inner) outcome ≡ carried_outcome outer (carried_outcome inner outcome)
  carried_outcome-beneath outer inner (Ok entry) = carried_entry-beneath outer inner entry
  carried_outcome-beneath outer inner (Err fault) = refl

  carried_outcome-nothing : (outcome : Outcome) → carried_outcome nothing_above outcome ≡ outcome
  carried_outcome-nothing (Ok (Part file colour source)) = rw (unders.right_unit colour) refl
  carried_outcome-nothing (Ok (Drawn kind certified clip winding colour source points)) = rw (unders.right_unit colour, and-true certified, and-true clip) refl
  carried_outcome-nothing (Err fault) = refl

  pub carries : CarryLaws
  carries = record { associative = λ a b c. sym (beneath-assoc a b c); left_unit = nothing-beneath; right_unit = beneath-nothing; nothing = carried_outcome-nothing; composed = carried_outcome-beneath; own_colour = λ above file code source. refl }

  -- ---- One text, under any `enter` on which what stands further out acts.

  abbrev pub Acts : Above → Enter → Type 0
  Acts outer None = ⊤
  Acts outer (Some enter) = (context : Context) → enter (further_below outer context) ≡ map (carried_outcome outer) (enter context)

  if_part : (outer : Above) (b : Bool) (x y : List Outcome) → x ≡ map (carried_outcome outer) y → cond b x [] ≡ map (carried_outcome outer) (cond b y [])
  if_part outer true x y same = same
  if_part outer false x y same = refl

  part-acted : (outer : Above) (context : Context) (source : Source) (word : ℕ) (file : TextId) → part_outcomes (further_below outer context) source word file ≡ map (carried_outcome outer) (part_outcomes context source word file)
  part-acted outer context source word file =
      if_part outer (not (context.texts.is_part context.text) && context.texts.is_part file) _ (carried_entry context.above (Part (context.texts.target file) (colour_of word) source) ∷ []) (ap (λ o. o ∷ []) (carried_entry-beneath outer context.above (Part (context.texts.target file) (colour_of word) source)))

  file_outcomes-acted : (outer : Above) (enter : Enter) → Acts outer enter → (context : Context) (state : State) (source : Source) (word : ℕ) (placement : Placement) (file : TextId) → file_outcomes enter (further_below outer context) state source word placement file ≡ map (carried_outcome outer) (file_outcomes enter context state source word placement file)
  file_outcomes-acted outer None acts context state source word placement file = refl
  file_outcomes-acted outer (Some enter) acts context state source word placement file =
      let reference = outer_of state source word placement in
      let inner : Context = context_below context reference file in
      let part = part_outcomes context source word file in
      let below : Above → Context = λ above. record inner { above = above } in
      let same : enter (context_below (further_below outer context) reference file) ≡ map (carried_outcome outer) (enter inner) = ap (λ above. enter (below above)) (beneath-assoc outer context.above (above_of reference)) ∙ acts inner in
      ap (λ o. o ++ enter (context_below (further_below outer context) reference file)) (part-acted outer context source word file) ∙ ap (λ o. map (carried_outcome outer) part ++ o) same ∙ sym (map-append (carried_outcome outer) part (enter inner))

  unless_fault : (outer : Above) (b : Bool) (e : Outcome) (x y : List Outcome) → carried_outcome outer e ≡ e → x ≡ map (carried_outcome outer) y → cond b (e ∷ []) x ≡ map (carried_outcome outer) (cond b (e ∷ []) y)
  unless_fault outer true e x y stays same = ap (λ o. o ∷ []) (sym stays)
  unless_fault outer false e x y stays same = same

  found_outcomes-acted : (outer : Above) (enter : Enter) → Acts outer enter → (context : Context) (state : State) (source : Source) (word : ℕ) (placement : Placement) (found : Option TextId) → found_outcomes enter (further_below outer context) state source word placement found ≡ map (carried_outcome outer) (found_outcomes enter context state source word placement found)
  found_outcomes-acted outer enter acts context state source word placement None = refl
  found_outcomes-acted outer enter acts context state source word placement (Some file) =
      unless_fault outer _ _ _ (file_outcomes enter context state source word placement file) refl (file_outcomes-acted outer enter acts context state source word placement file)

  reference_outcomes-acted : (outer : Above) (enter : Enter) → Acts outer enter → (context : Context) (state : State) (source : Source) (word : ℕ) (placement : Placement) (name : Option (List ℕ)) → reference_outcomes enter (further_below outer context) state source word placement name ≡ map (carried_outcome outer) (reference_outcomes enter context state source word placement name)
  reference_outcomes-acted outer enter acts context state source word placement None = refl
  reference_outcomes-acted outer enter acts context state source word placement (Some name) =
      found_outcomes-acted outer enter acts context state source word placement (context.texts.found context.text name)

  line-acted : (outer : Above) (enter : Enter) → Acts outer enter → (context : Context) (state : State) (source : Source) (line : Line) → line_outcomes enter (further_below outer context) state source line ≡ map (carried_outcome outer) (line_outcomes enter context state source line)
  line-acted outer enter acts context state source line.Malformed = refl
  line-acted outer enter acts context state source line.OutOfRange = refl
  line-acted outer enter acts context state source (Draw kind word points) = ap (λ o. o ∷ []) (carried_entry-beneath outer context.above (own_entry state source kind word points))
  line-acted outer enter acts context state source (Ref word placement name) = reference_outcomes-acted outer enter acts context state source word placement name
  line-acted outer enter acts context state source Blank = refl
  line-acted outer enter acts context state source Comment = refl
  line-acted outer enter acts context state source (Org part) = refl
  line-acted outer enter acts context state source (Bfc word) = refl
  line-acted outer enter acts context state source Step = refl
  line-acted outer enter acts context state source (Rot word) = refl

  lines-acted : (outer : Above) (enter : Enter) → Acts outer enter → (context : Context) (state : State) (number : ℕ) (lines : List Line) → outcomes_from enter (further_below outer context) state number lines ≡ map (map (carried_outcome outer)) (outcomes_from enter context state number lines)
  lines-acted outer enter acts context state number [] = refl
  lines-acted outer enter acts context state number (line ∷ lines) =
      let source : Source = record { text = context.text; line = number } in
      ap (λ o. o ∷ outcomes_from enter (further_below outer context) (next state line) (suc number) lines) (line-acted outer enter acts context state source line) ∙ ap (λ o. map (carried_outcome outer) (line_outcomes enter context state source line) ∷ o) (lines-acted outer enter acts context (next state line) (suc number) lines)

  text-acted : (outer : Above) (enter : Enter) → Acts outer enter → (context : Context) → outcomes_by_line enter (further_below outer context) ≡ map (map (carried_outcome outer)) (outcomes_by_line enter context)
  text-acted outer enter acts context = lines-acted outer enter acts context (start (context.texts.is_part context.text)) 1 (context.texts.lines context.text)

  -- ---- All texts, by induction on how many files more the way may have.

  all_by_line-acted : (outer : Above) (left : ℕ) (context : Context) → all_by_line left (further_below outer context) ≡ map (map (carried_outcome outer)) (all_by_line left context)
  unfolding all_by_line
  all_by_line-acted outer zero context = text-acted outer None tt context
  all_by_line-acted outer (suc left) context =
      text-acted outer (Some (λ inner. concatenation (all_by_line left inner))) (λ inner. ap concatenation (all_by_line-acted outer left inner) ∙ map-concatenation (carried_outcome outer) (all_by_line left inner)) context

  pub all-below : (above : Above) (left : ℕ) (texts : NumberedTexts) (way : List TextId) (text : TextId) → all left (context_of texts way text above) ≡ map (carried_outcome above) (all left (context_of texts way text nothing_above))
  all-below above left texts way text =
      let bare = context_of texts way text nothing_above in
      ap (λ a. all left (context_of texts way text a)) (sym (beneath-nothing above)) ∙ ap concatenation (all_by_line-acted above left bare) ∙ map-concatenation (carried_outcome above) (all_by_line left bare)

  pub acted : ActionLaw
  acted = record { further = all_by_line-acted; from_nothing = all-below }
