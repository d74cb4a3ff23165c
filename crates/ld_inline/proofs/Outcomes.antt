-- What the lines of an inlined text give: the flat entries.
use Rattle.std.proofs.Common.{◌≡◌, ◌&&◌, ℕ, suc, Bool, true, false, List, [], ◌∷◌, ◌++◌, map, Option, Some, None, Ok, Err, refl, ap, sym, ◌∙◌, append_assoc}
use Rattle.std.specs.Prelude.{All}
use Rattle.std.specs.List.{fold}
use Rattle.std.proofs.Math.Bool.{and-true}
use Rattle.std.proofs.lemmas.List.Elements.{All-head, All-tail}
use Rattle.ld_names.specs.declared.file.TextId.{TextId}
use Rattle.ld_num.specs.declared.point.Point.{Point}
use Rattle.ld_line.specs.declared.line.Kind.{Kind}
use Rattle.ld_line.specs.declared.line.Line.{Line}
use Rattle.ld_line.specs.declared.line.Line.TheVariants.{Draw}
use Rattle.ld_line.specs.declared.line.RotWord.{RotWord}
use Rattle.ld_line.specs.declared.line.Winding.{Winding}
use Rattle.ld_line.specs.declared.line.Winding.TheVariants.{Ccw}
use Rattle.ld_bfc.specs.LineState.{next, start}
use Rattle.ld_bfc.specs.declared.culling.Cert.TheVariants.{Yes}
use Rattle.ld_bfc.specs.declared.culling.State.{State}
use Rattle.ld_colour.specs.Colour.{colour_of, under}
use Rattle.ld_colour.specs.Laws.{UnderLaws}
use Rattle.ld_colour.specs.Table.{Counting, FindsRgb}
use Rattle.ld_colour.specs.declared.colour.Colour.{Colour}
use Rattle.ld_colour.specs.declared.colour.Colour.TheVariants.{Main}
use Rattle.ld_entry.specs.Carrying.{Outcome, carried_entry, colour_above}
use Rattle.ld_entry.specs.Lawful.{IsLawfulEntry}
use Rattle.ld_entry.specs.NumberedTexts.{NumberedTexts}
use Rattle.ld_entry.specs.Outcomes.{Context, context_of, outcomes_from, own_entry}
use Rattle.ld_entry.specs.declared.entry.Entry.{Entry}
use Rattle.ld_entry.specs.declared.entry.Entry.TheVariants.{Drawn, Part}
use Rattle.ld_entry.specs.declared.entry.Source.{Source}
use Rattle.ld_steps.specs.Parts.{entries_in}
use Rattle.ld_steps.specs.declared.step.StepPart.{StepPart}
use Rattle.ld_steps.specs.declared.step.Turn.{Turn}
use Rattle.ld_inline.specs.Flat.{Shape, flat_colour, flat_points, flat_shape, shape_of}
use Rattle.ld_inline.specs.Inside.Shown.{IsShown}
use Rattle.ld_inline.specs.Text.{stands_behind, step_rotation}
use Rattle.ld_inline.proofs.Said.{All-range, colour_again, colour_number, said, said_clip, said_entries, said_entry, said_rotation, said_steps}

-- an outcome without its source
abbrev pub unsourced : Outcome → Option Shape
unsourced (Ok entry) = shape_of entry
unsourced (Err fault) = None

-- what lines give, without sources
abbrev pub Seen : Type 0
Seen = List (List (Option Shape))

abbrev pub seen : List (List Outcome) → Seen
seen lines = map (map unsourced) lines

abbrev pub seen_clip : Bool → Bool → Seen
seen_clip true false = [] ∷ []
seen_clip false true = [] ∷ []
seen_clip stands wanted = []

abbrev pub flat_entry : Counting → Kind → Bool → Bool → Winding → Colour → List Point → Shape
flat_entry table kind certified clip winding colour points =
    flat_shape table (record { kind = kind; certified = certified; clip = clip; winding = winding; colour = colour; points = points })

abbrev pub seen_entry : Counting → Bool → Entry → Seen
seen_entry table stands (Drawn kind certified clip winding colour source points) = seen_clip stands (certified && clip) ++ (Some (flat_entry table kind certified clip winding colour points) ∷ []) ∷ []
seen_entry table stands (Part file colour source) = []

abbrev pub seen_entries : Counting → Bool → List Entry → Seen
seen_entries table stands [] = []
seen_entries table stands (entry ∷ entries) = seen_entry table stands entry ++ seen_entries table (stands_behind stands entry) entries

abbrev pub seen_steps : Counting → List Entry → Bool → List StepPart → Seen
seen_steps table entries stands [] = []
seen_steps table entries stands (step ∷ steps) =
    seen_entries table stands (entries_in entries step) ++ [] ∷ seen_steps table entries (fold stands_behind stands (entries_in entries step)) steps

-- the state behind the first statement
abbrev pub at : Bool → Bool → Bool → State
at part clip drawn = record { part = part; cert = Yes; clip = clip; winding = Ccw; invert_next = false; drawn = drawn }

module _ (under_laws : UnderLaws) (table : Counting) (finds : FindsRgb table) (texts : NumberedTexts) (text : TextId) where
  abbrev pub context : Context
  context = context_of texts [] text (colour_above Main)

  abbrev pub read : State → ℕ → List Line → Seen
  read state number lines = seen (outcomes_from None context state number lines)

  drawn_again : (part drawn : Bool) (source sourced : Source) (kind : Kind) (certified clip : Bool) (winding : Winding) (colour : Colour) (points : List Point) → IsShown (Drawn kind certified clip winding colour sourced points) → IsLawfulEntry (Drawn kind certified clip winding colour sourced points) → unsourced (carried_entry (colour_above Main) (own_entry (at part (certified && clip) drawn) source kind (colour_number table colour) (flat_points kind winding points))) ≡ Some (flat_entry table kind certified clip winding colour points)
  drawn_again part drawn source sourced kind certified clip winding colour points shown lawful =
      let colours : under (colour_of (colour_number table colour)) Main ≡ flat_colour table colour = under_laws.right_unit (colour_of (colour_number table colour)) ∙ colour_again table finds colour (lawful.0, shown.0) in
      let clips : (certified && clip) && true ≡ (certified && clip) = and-true (certified && clip) in
      λ i. Some (record { kind = kind; certified = true; clip = clips i; winding = Ccw; colour = colours i; points = flat_points kind winding points })

  clip_again : (stands wanted part drawn : Bool) (number : ℕ) (behind : List Line) (all : Seen) → ((number' : ℕ) → read (at part wanted drawn) number' behind ≡ all) → read (at part stands drawn) number (said_clip stands wanted ++ behind) ≡ seen_clip stands wanted ++ all
  unfolding next
  clip_again true true part drawn number behind all k = k number
  clip_again true false part drawn number behind all k = ap (λ ls. [] ∷ ls) (k (suc number))
  clip_again false true part drawn number behind all k = ap (λ ls. [] ∷ ls) (k (suc number))
  clip_again false false part drawn number behind all k = k number

  draw_again : (part clip drawn : Bool) (number : ℕ) (kind : Kind) (word : ℕ) (points : List Point) (shape : Option Shape) (behind : List Line) (all : Seen) → unsourced (carried_entry (colour_above Main) (own_entry (at part clip drawn) (record { text = text; line = number }) kind word points)) ≡ shape → read (at part clip true) (suc number) behind ≡ all → read (at part clip drawn) number (Draw kind word points ∷ behind) ≡ (shape ∷ []) ∷ all
  unfolding next
  draw_again part clip drawn number kind word points shape behind all is rest =
      ap (λ s. (s ∷ []) ∷ read (at part clip true) (suc number) behind) is ∙ ap (λ ls. (shape ∷ []) ∷ ls) rest

  entry_again : (entry : Entry) (part stands drawn : Bool) (number : ℕ) (behind : List Line) (all : Seen) → IsShown entry → IsLawfulEntry entry → ((drawn' : Bool) (number' : ℕ) → read (at part (stands_behind stands entry) drawn') number' behind ≡ all) → read (at part stands drawn) number (said_entry table stands entry ++ behind) ≡ seen_entry table stands entry ++ all
  entry_again (Part file colour source) part stands drawn number behind all shown lawful k = k drawn number
  entry_again (Drawn kind certified clip winding colour source points) part stands drawn number behind all shown lawful k =
      let line = Draw kind (colour_number table colour) (flat_points kind winding points) in
      let shape = flat_entry table kind certified clip winding colour points in
      ap (read (at part stands drawn) number) (append_assoc (said_clip stands (certified && clip)) (line ∷ []) behind)
      ∙ clip_again stands (certified && clip) part drawn number (line ∷ behind) ((Some shape ∷ []) ∷ all)
      (λ number'. draw_again part (certified && clip) drawn number' kind (colour_number table colour) (flat_points kind winding points) (Some shape) behind all (drawn_again part drawn (record { text = text; line = number' }) source kind certified clip winding colour points shown lawful) (k true (suc number')))
      ∙ sym (append_assoc (seen_clip stands (certified && clip)) ((Some shape ∷ []) ∷ []) all)

  entries_again : (entries : List Entry) (part stands drawn : Bool) (number : ℕ) (behind : List Line) (all : Seen) → All IsShown entries → All IsLawfulEntry entries → ((drawn' : Bool) (number' : ℕ) → read (at part (fold stands_behind stands entries) drawn') number' behind ≡ all) → read (at part stands drawn) number (said_entries table stands entries ++ behind) ≡ seen_entries table stands entries ++ all
  entries_again [] part stands drawn number behind all shown lawful k = k drawn number
  entries_again (entry ∷ entries) part stands drawn number behind all shown lawful k =
      let next_stands = stands_behind stands entry in
      ap (read (at part stands drawn) number) (append_assoc (said_entry table stands entry) (said_entries table next_stands entries) behind)
      ∙ entry_again entry part stands drawn number (said_entries table next_stands entries ++ behind) (seen_entries table next_stands entries ++ all) (All-head IsShown entry entries shown) (All-head IsLawfulEntry entry entries lawful)
      (λ drawn' number'. entries_again entries part next_stands drawn' number' behind all (All-tail IsShown entry entries shown) (All-tail IsLawfulEntry entry entries lawful) k)
      ∙ sym (append_assoc (seen_entry table stands entry) (seen_entries table next_stands entries) all)

  rotation_again : (rotation : Option RotWord) (part stands drawn : Bool) (number : ℕ) (behind : List Line) (all : Seen) → read (at part stands drawn) (suc number) behind ≡ all → read (at part stands drawn) number (said_rotation rotation ∷ behind) ≡ [] ∷ all
  unfolding next
  rotation_again None part stands drawn number behind all is = ap (λ ls. [] ∷ ls) is
  rotation_again (Some word) part stands drawn number behind all is = ap (λ ls. [] ∷ ls) is

  steps_again : (entries : List Entry) (steps : List StepPart) (view : List Turn) (part stands drawn : Bool) (number : ℕ) → All IsShown entries → All IsLawfulEntry entries → read (at part stands drawn) number (said_steps table entries view stands steps) ≡ seen_steps table entries stands steps
  steps_again entries [] view part stands drawn number shown lawful = refl
  steps_again entries (step ∷ steps) view part stands drawn number shown lawful =
      let own = entries_in entries step in
      let behind = fold stands_behind stands own in
      entries_again own part stands drawn number (said_rotation (step_rotation view step.view) ∷ said_steps table entries step.view behind steps) ([] ∷ seen_steps table entries behind steps) (All-range IsShown entries step shown) (All-range IsLawfulEntry entries step lawful)
      (λ drawn' number'. rotation_again (step_rotation view step.view) part behind drawn' number' (said_steps table entries step.view behind steps) (seen_steps table entries behind steps) (steps_again entries steps step.view part behind drawn' (suc number') shown lawful))

  pub text_again : (entries : List Entry) (steps : List StepPart) (part : Bool) → All IsShown entries → All IsLawfulEntry entries → read (start part) 1 (said table entries steps) ≡ [] ∷ seen_steps table entries true steps
  unfolding next
  text_again entries steps part shown lawful = ap (λ ls. [] ∷ ls) (steps_again entries steps [] part true false 2 shown lawful)
