-- The steps of an inlined text, by the flat entries that its lines give.
use Rattle.std.proofs.Common.{◌≡◌, ◌+◌, ◌-◌, ◌≤◌, ◌&&◌, ℕ, Bool, true, false, List, [], ◌∷◌, ◌++◌, length, map, take, drop, Option, Some, None, refl, ap, sym, ◌∙◌, arith, append_assoc, append-nil}
use Rattle.std.specs.Prelude.{sum}
use Rattle.std.specs.List.{fold, list_any}
use Rattle.std.proofs.Math.Seq.{drop-length}
use Rattle.std.proofs.lemmas.List.{drop-take, length-append, length-map, map-append, take-append-drop, take-take, take_all, take_at}
use Rattle.std.proofs.lemmas.List.Elements.{filter_map-append}
use Rattle.std.proofs.lemmas.List.Sums.{fold-append, sum_by-append, sum_by-cons}
use Rattle.ld_line.specs.Shown.{shows}
use Rattle.ld_line.specs.declared.line.Line.{Line}
use Rattle.ld_line.specs.declared.line.Line.TheVariants.{Bfc, Draw}
use Rattle.ld_line.specs.declared.line.BfcWord.TheVariants.{Certify}
use Rattle.ld_line.specs.declared.line.RotWord.{RotWord}
use Rattle.ld_line.specs.declared.line.Winding.TheVariants.{Ccw}
use Rattle.ld_colour.specs.Table.{Counting}
use Rattle.ld_entry.specs.Outcomes.{concatenation}
use Rattle.ld_entry.specs.declared.entry.Entry.{Entry}
use Rattle.ld_entry.specs.declared.entry.Entry.TheVariants.{Drawn, Part}
use Rattle.ld_steps.specs.Laws.{AreNextViews, AreSteps, Cover}
use Rattle.ld_steps.specs.Parts.{entries_in, step_part, step_parts}
use Rattle.ld_steps.specs.Steps.{last_end, last_lines, last_number, step_ends, step_lines, steps_between, steps_of}
use Rattle.ld_steps.specs.View.{view_behind, viewed}
use Rattle.ld_steps.specs.declared.step.StepPart.{StepPart}
use Rattle.ld_steps.specs.declared.step.Turn.{Turn}
use Rattle.ld_inline.specs.Flat.{Shape, flat_points, flat_shape, flat_step, shape_of, shapes_of}
use Rattle.ld_inline.specs.Text.{stands_behind, step_rotation}
use Rattle.ld_inline.proofs.Outcomes.{flat_entry, seen_clip, seen_entries, seen_steps}
use Rattle.ld_inline.proofs.Said.{colour_number, said, said_clip, said_entries, said_entry, said_rotation, said_steps}
use Rattle.ld_inline.proofs.Views.{rotated_by, view_again}

-- ---- Lists.

concatenation-append : {A : Type 0} (xs ys : List (List A)) → concatenation (xs ++ ys) ≡ concatenation xs ++ concatenation ys
concatenation-append [] ys = refl
concatenation-append (x ∷ xs) ys = ap (λ zs. x ++ zs) (concatenation-append xs ys) ∙ sym (append_assoc x (concatenation xs) (concatenation ys))

sum-append : (xs ys : List ℕ) → sum (xs ++ ys) ≡ sum xs + sum ys
sum-append xs ys = sum_by-append (λ n. n) xs ys

sum-lengths : {A : Type 0} (lines : List (List A)) → sum (map length lines) ≡ length (concatenation lines)
sum-lengths [] = refl
sum-lengths (line ∷ lines) =
    sum_by-cons (λ n. n) (length line) (map length lines) ∙ ap (λ n. length line + n) (sum-lengths lines) ∙ sym (length-append line (concatenation lines))

-- ---- The entries of lines.

clip-empty : (stands wanted : Bool) → concatenation (seen_clip stands wanted) ≡ []
clip-empty true true = refl
clip-empty true false = refl
clip-empty false true = refl
clip-empty false false = refl

-- the flat shapes of entries
abbrev pub flats : Counting → List Entry → List (Option Shape)
flats table entries = map Some (map (flat_shape table) (shapes_of entries))

pub entries-seen : (table : Counting) (stands : Bool) (entries : List Entry) → concatenation (seen_entries table stands entries) ≡ flats table entries
entries-seen table stands [] = refl
entries-seen table stands (Part file colour source ∷ entries) = entries-seen table stands entries
entries-seen table stands (Drawn kind certified clip winding colour source points ∷ entries) =
    let shape : Option Shape = Some (flat_entry table kind certified clip winding colour points) in
    let clips = seen_clip stands (certified && clip) in
    let rest = seen_entries table (certified && clip) entries in
    concatenation-append (clips ++ (shape ∷ []) ∷ []) rest
    ∙ ap (λ xs. xs ++ concatenation rest) (concatenation-append clips ((shape ∷ []) ∷ []) ∙ ap (λ xs. xs ++ shape ∷ []) (clip-empty stands (certified && clip)))
    ∙ ap (λ xs. shape ∷ xs) (entries-seen table (certified && clip) entries)

flats-count : (table : Counting) (entries : List Entry) → length (flats table entries) ≡ length (shapes_of entries)
flats-count table entries = length-map (map (flat_shape table) (shapes_of entries)) Some ∙ length-map (shapes_of entries) (flat_shape table)

entries-count : (table : Counting) (stands : Bool) (entries : List Entry) → sum (map length (seen_entries table stands entries)) ≡ length (shapes_of entries)
entries-count table stands entries = sum-lengths (seen_entries table stands entries) ∙ ap length (entries-seen table stands entries) ∙ flats-count table entries

-- the entries up to a step's end
up_to : (entries : List Entry) (step : StepPart) → step.first ≤ step.end → take step.end entries ≡ take step.first entries ++ entries_in entries step
up_to entries step within =
    let whole : step.first + (step.end - step.first) ≡ step.end = omega arith in
    let inner : take (step.end - step.first) (drop step.first entries) ≡ drop step.first (take step.end entries) = sym (drop-take step.first (step.end - step.first) entries) ∙ ap (λ n. drop step.first (take n entries)) whole in
    sym (take-append-drop step.first (take step.end entries)) ∙ ap (λ xs. xs ++ drop step.first (take step.end entries)) (take-take step.first step.end entries within) ∙ ap (λ xs. take step.first entries ++ xs) (sym inner)

shapes_up_to : (entries : List Entry) (step : StepPart) → step.first ≤ step.end → shapes_of (take step.end entries) ≡ shapes_of (take step.first entries) ++ shapes_of (entries_in entries step)
shapes_up_to entries step within = ap shapes_of (up_to entries step within) ∙ filter_map-append shape_of (take step.first entries) (entries_in entries step)

flats_up_to : (table : Counting) (entries : List Entry) (step : StepPart) → step.first ≤ step.end → flats table (take step.end entries) ≡ flats table (take step.first entries) ++ flats table (entries_in entries step)
flats_up_to table entries step within =
    let before = shapes_of (take step.first entries) in
    let own = shapes_of (entries_in entries step) in
    ap (λ ss. map Some (map (flat_shape table) ss)) (shapes_up_to entries step within) ∙ ap (map Some) (map-append (flat_shape table) before own) ∙ map-append Some (map (flat_shape table) before) (map (flat_shape table) own)

-- all steps together give all flat entries
pub steps-seen : (table : Counting) (entries : List Entry) (from : ℕ) (stands : Bool) (steps : List StepPart) → Cover from (length entries) steps → flats table (take from entries) ++ concatenation (seen_steps table entries stands steps) ≡ flats table entries
steps-seen table entries from stands [] cover =
    append-nil (flats table (take from entries)) ∙ ap (flats table) (take_all from entries (omega (arith, cover)))
steps-seen table entries from stands (step ∷ steps) cover =
    let own = seen_entries table stands (entries_in entries step) in
    let rest = seen_steps table entries (fold stands_behind stands (entries_in entries step)) steps in
    let first : from ≡ step.first = sym cover.0 in
    ap (λ n. flats table (take n entries) ++ concatenation (own ++ [] ∷ rest)) first
    ∙ ap (λ xs. flats table (take step.first entries) ++ xs) (concatenation-append own ([] ∷ rest) ∙ ap (λ xs. xs ++ concatenation rest) (entries-seen table stands (entries_in entries step)))
    ∙ sym (append_assoc (flats table (take step.first entries)) (flats table (entries_in entries step)) (concatenation rest))
    ∙ ap (λ xs. xs ++ concatenation rest) (sym (flats_up_to table entries step cover.1))
    ∙ steps-seen table entries step.end (fold stands_behind stands (entries_in entries step)) steps cover.2

-- ---- The lines of steps.

none-more : (before : ℕ) (behind : List Line) → step_lines before behind ≡ step_lines (before + 0) behind
none-more before behind = let same : before ≡ before + 0 = omega arith in ap (λ n. step_lines n behind) same

clip-lines : (before : ℕ) (stands wanted : Bool) (behind : List Line) → step_lines before (said_clip stands wanted ++ behind) ≡ step_lines (before + length (said_clip stands wanted)) behind
clip-lines before true true behind = none-more before behind
clip-lines before true false behind = refl
clip-lines before false true behind = refl
clip-lines before false false behind = none-more before behind

entry-lines : (table : Counting) (before : ℕ) (stands : Bool) (entry : Entry) (behind : List Line) → step_lines before (said_entry table stands entry ++ behind) ≡ step_lines (before + length (said_entry table stands entry)) behind
entry-lines table before stands (Part file colour source) behind = none-more before behind
entry-lines table before stands (Drawn kind certified clip winding colour source points) behind =
    let clips = said_clip stands (certified && clip) in
    let line = Draw kind (colour_number table colour) (flat_points kind winding points) in
    let size = length-append clips (line ∷ []) in
    let same : before + length clips + 1 ≡ before + length (clips ++ line ∷ []) = omega (arith, size) in
    ap (step_lines before) (append_assoc clips (line ∷ []) behind) ∙ clip-lines before stands (certified && clip) (line ∷ behind) ∙ ap (λ n. step_lines n behind) same

entries-lines : (table : Counting) (before : ℕ) (stands : Bool) (entries : List Entry) (behind : List Line) → step_lines before (said_entries table stands entries ++ behind) ≡ step_lines (before + length (said_entries table stands entries)) behind
entries-lines table before stands [] behind = none-more before behind
entries-lines table before stands (entry ∷ entries) behind =
    let own = said_entry table stands entry in
    let rest = said_entries table (stands_behind stands entry) entries in
    let size = length-append own rest in
    let same : before + length own + length rest ≡ before + length (own ++ rest) = omega (arith, size) in
    ap (step_lines before) (append_assoc own rest behind) ∙ entry-lines table before stands entry (rest ++ behind) ∙ entries-lines table (before + length own) (stands_behind stands entry) entries behind ∙ ap (λ n. step_lines n behind) same

rotation-line : (before : ℕ) (rotation : Option RotWord) (behind : List Line) → step_lines before (said_rotation rotation ∷ behind) ≡ (before + 1) ∷ step_lines (before + 1) behind
rotation-line before None behind = refl
rotation-line before (Some word) behind = refl

-- the number of the line that ends a step
abbrev step_end : Counting → List Entry → Bool → StepPart → ℕ → ℕ
step_end table entries stands step before = before + length (said_entries table stands (entries_in entries step)) + 1

more-lines : (table : Counting) (entries : List Entry) (view : List Turn) (stands : Bool) (step : StepPart) (steps : List StepPart) (before : ℕ) → step_lines before (said_steps table entries view stands (step ∷ steps)) ≡ step_end table entries stands step before ∷ step_lines (step_end table entries stands step before) (said_steps table entries step.view (fold stands_behind stands (entries_in entries step)) steps)
more-lines table entries view stands step steps before =
    let rotation = step_rotation view step.view in
    let behind = said_steps table entries step.view (fold stands_behind stands (entries_in entries step)) steps in
    entries-lines table before stands (entries_in entries step) (said_rotation rotation ∷ behind) ∙ rotation-line (before + length (said_entries table stands (entries_in entries step))) rotation behind

last-line : (table : Counting) (entries : List Entry) (view : List Turn) (stands : Bool) (steps : List StepPart) (before : ℕ) → last_number before (step_lines before (said_steps table entries view stands steps)) ≡ before + length (said_steps table entries view stands steps)
last-line table entries view stands [] before = omega arith
last-line table entries view stands (step ∷ steps) before =
    let own = said_entries table stands (entries_in entries step) in
    let behind = said_steps table entries step.view (fold stands_behind stands (entries_in entries step)) steps in
    let size = length-append own (said_rotation (step_rotation view step.view) ∷ behind) in
    let same : step_end table entries stands step before + length behind ≡ before + length (own ++ said_rotation (step_rotation view step.view) ∷ behind) = omega (arith, size) in
    ap (last_number before) (more-lines table entries view stands step steps before) ∙ last-line table entries step.view (fold stands_behind stands (entries_in entries step)) steps (step_end table entries stands step before) ∙ same

-- steps end with their step lines, and nothing stands behind the last one
ends-are : (table : Counting) (entries : List Entry) (step : StepPart) (steps : List StepPart) → step_ends (said table entries (step ∷ steps)) ≡ step_lines 1 (said_steps table entries [] true (step ∷ steps))
ends-are table entries step steps =
    let lines = said_steps table entries [] true (step ∷ steps) in
    let whole = said table entries (step ∷ steps) in
    let ends = more-lines table entries [] true step steps 1 in
    let last : last_number 0 (step_lines 1 lines) ≡ length whole = ap (last_number 0) ends ∙ ap (last_number 1) (sym ends) ∙ last-line table entries [] true (step ∷ steps) 1 ∙ omega arith in
    let none : list_any shows (last_lines whole) ≡ false = ap (λ n. list_any shows (drop n whole)) last ∙ ap (list_any shows) (drop-length whole) in
    ap (λ some. step_lines 1 lines ++ last_end (step_lines 1 lines) some (length whole)) none
    ∙ ap (λ es. step_lines 1 lines ++ last_end es false (length whole)) ends
    ∙ append-nil (step_lines 1 lines)

-- ---- Views.

clip-view : (stands wanted : Bool) (view : List Turn) → fold viewed view (said_clip stands wanted) ≡ view
clip-view true true view = refl
clip-view true false view = refl
clip-view false true view = refl
clip-view false false view = refl

entries-view : (table : Counting) (stands : Bool) (entries : List Entry) (view : List Turn) → fold viewed view (said_entries table stands entries) ≡ view
entries-view table stands [] view = refl
entries-view table stands (Part file colour source ∷ entries) view = entries-view table stands entries view
entries-view table stands (Drawn kind certified clip winding colour source points ∷ entries) view =
    let clips = said_clip stands (certified && clip) in
    let line = Draw kind (colour_number table colour) (flat_points kind winding points) in
    let rest = said_entries table (certified && clip) entries in
    fold-append viewed view (clips ++ line ∷ []) rest
    ∙ ap (λ v. fold viewed v rest) (fold-append viewed view clips (line ∷ []) ∙ clip-view stands (certified && clip) view)
    ∙ entries-view table (certified && clip) entries view

rotation-view : (rotation : Option RotWord) (view : List Turn) → viewed view (said_rotation rotation) ≡ rotated_by rotation view
rotation-view None view = refl
rotation-view (Some word) view = refl

-- ---- Ranges.

clip-size : (stands wanted : Bool) → length (seen_clip stands wanted) ≡ length (said_clip stands wanted)
clip-size true true = refl
clip-size true false = refl
clip-size false true = refl
clip-size false false = refl

-- each line gives something, if only nothing
entries-size : (table : Counting) (stands : Bool) (entries : List Entry) → length (seen_entries table stands entries) ≡ length (said_entries table stands entries)
entries-size table stands [] = refl
entries-size table stands (Part file colour source ∷ entries) = entries-size table stands entries
entries-size table stands (Drawn kind certified clip winding colour source points ∷ entries) =
    let shape : Option Shape = Some (flat_entry table kind certified clip winding colour points) in
    let line = Draw kind (colour_number table colour) (flat_points kind winding points) in
    let seen_clips = seen_clip stands (certified && clip) in
    let said_clips = said_clip stands (certified && clip) in
    let rest = entries-size table (certified && clip) entries in
    omega (arith, rest, clip-size stands (certified && clip), length-append (seen_clips ++ (shape ∷ []) ∷ []) (seen_entries table (certified && clip) entries), length-append seen_clips ((shape ∷ []) ∷ []), length-append (said_clips ++ line ∷ []) (said_entries table (certified && clip) entries), length-append said_clips (line ∷ []))

-- steps counted in flat entries, from so many on
abbrev step_ranges : List Entry → ℕ → List StepPart → List StepPart
step_ranges entries from [] = []
step_ranges entries from (step ∷ steps) =
    record { first = from; end = from + length (shapes_of (entries_in entries step)); view = step.view } ∷ step_ranges entries (from + length (shapes_of (entries_in entries step))) steps

-- one range more
one_range : (first first' end end' : ℕ) (view view' : List Turn) (more more' : List StepPart) → first ≡ first' → end ≡ end' → view ≡ view' → more ≡ more' → record { first = first; end = end; view = view } ∷ more ≡ record { first = first'; end = end'; view = view' } ∷ more'
one_range first first' end end' view view' more more' firsts ends views rest =
    λ i. record { first = firsts i; end = ends i; view = views i } ∷ rest i

module _ (table : Counting) (entries : List Entry) (whole : List Line) (counts : List ℕ) where
  -- where a step begins behind so many lines, and these lines are done, with these counts
  record Done (before from : ℕ) (view : List Turn) (done : List Line) (so_far : List ℕ) : Type 0 where
    size : length so_far ≡ length done
    begins : sum (take before counts) ≡ from
    given : sum so_far ≡ from
    seen : fold viewed [] done ≡ view

  abbrev Marks : List StepPart → Type 0
  Marks steps =
      (stands : Bool) (view : List Turn) (before from : ℕ) (done : List Line) (so_far : List ℕ) → Done before from view done so_far → whole ≡ done ++ said_steps table entries view stands steps → counts ≡ so_far ++ map length (seen_steps table entries stands steps) → AreNextViews view (map (λ step. step.view) steps) → map (step_part counts) (steps_between whole before (step_lines (length done) (said_steps table entries view stands steps))) ≡ step_ranges entries from steps

  next_done : (step : StepPart) (stands : Bool) (view : List Turn) (before from : ℕ) (done : List Line) (so_far rest : List ℕ) → Done before from view done so_far → counts ≡ (so_far ++ map length (seen_entries table stands (entries_in entries step)) ++ 0 ∷ []) ++ rest → rotated_by (step_rotation view step.view) view ≡ step.view → Done (step_end table entries stands step (length done)) (from + length (shapes_of (entries_in entries step))) step.view (done ++ said_entries table stands (entries_in entries step) ++ said_rotation (step_rotation view step.view) ∷ []) (so_far ++ map length (seen_entries table stands (entries_in entries step)) ++ 0 ∷ [])
  next_done step stands view before from done so_far rest d are rotates =
      let own = entries_in entries step in
      let lines = said_entries table stands own in
      let own_counts = map length (seen_entries table stands own) in
      let rotation = said_rotation (step_rotation view step.view) in
      let size_lines = length-append (done ++ lines) (rotation ∷ []) in
      let size_done = length-append done lines in
      let size_counts = length-append (so_far ++ own_counts) (0 ∷ []) in
      let size_so_far = length-append so_far own_counts in
      let size_own : length own_counts ≡ length lines = length-map (seen_entries table stands own) length ∙ entries-size table stands own in
      let size_all : length (so_far ++ own_counts ++ 0 ∷ []) ≡ step_end table entries stands step (length done) = omega (arith, size_counts, size_so_far, size_own, d.size) in
      let total : sum (so_far ++ own_counts ++ 0 ∷ []) ≡ from + length (shapes_of own) = omega (arith, sum-append (so_far ++ own_counts) (0 ∷ []), sum-append so_far own_counts, d.given, entries-count table stands own) in
      record {
        size = omega (arith, size_all, size_lines, size_done);
        begins = ap (λ ns. sum (take (step_end table entries stands step (length done)) ns)) are ∙ ap sum (take_at (so_far ++ own_counts ++ 0 ∷ []) rest (step_end table entries stands step (length done)) size_all) ∙ total;
        given = total;
        seen = fold-append viewed [] (done ++ lines) (rotation ∷ []) ∙ ap (λ v. viewed v rotation) (fold-append viewed [] done lines ∙ ap (λ v. fold viewed v lines) d.seen ∙ entries-view table stands own view) ∙ rotation-view (step_rotation view step.view) view ∙ rotates;
      }

  marks : (steps : List StepPart) → Marks steps
  marks [] stands view before from done so_far d whole_is counts_are views = refl
  marks (step ∷ steps) stands view before from done so_far d whole_is counts_are views =
      let own = entries_in entries step in
      let behind = fold stands_behind stands own in
      let lines = said_entries table stands own in
      let rotation = said_rotation (step_rotation view step.view) in
      let more = said_steps table entries step.view behind steps in
      let own_seen = seen_entries table stands own in
      let more_seen = seen_steps table entries behind steps in
      let done' = done ++ lines ++ rotation ∷ [] in
      let so_far' = so_far ++ map length own_seen ++ 0 ∷ [] in
      let end = step_end table entries stands step (length done) in
      let from' = from + length (shapes_of own) in
      let size : length done' ≡ end = omega (arith, length-append (done ++ lines) (rotation ∷ []), length-append done lines) in
      let whole' : whole ≡ done' ++ more = whole_is ∙ sym (append_assoc (done ++ lines) (rotation ∷ []) more ∙ append_assoc done lines (rotation ∷ more)) in
      let counts' : counts ≡ so_far' ++ map length more_seen = counts_are ∙ ap (λ ns. so_far ++ ns) (map-append length own_seen ([] ∷ more_seen)) ∙ sym (append_assoc (so_far ++ map length own_seen) (0 ∷ []) (map length more_seen) ∙ append_assoc so_far (map length own_seen) (0 ∷ map length more_seen)) in
      let d' = next_done step stands view before from done so_far (map length more_seen) d counts' (view_again view step.view views.0) in
      let first : sum (take (before + 1 - 1) counts) ≡ from = let same : before + 1 - 1 ≡ before = omega arith in ap (λ n. sum (take n counts)) same ∙ d.begins in
      let seen : view_behind whole end ≡ step.view = ap (λ w. fold viewed [] (take end w)) whole' ∙ ap (fold viewed []) (take_at done' more end size) ∙ d'.seen in
      let rest : map (step_part counts) (steps_between whole end (step_lines end more)) ≡ step_ranges entries from' steps = ap (λ n. map (step_part counts) (steps_between whole end (step_lines n more))) (sym size) ∙ marks steps behind step.view end from' done' so_far' d' whole' counts' views.1 in
      ap (λ es. map (step_part counts) (steps_between whole before es)) (more-lines table entries view stands step steps (length done))
      ∙ one_range (sum (take (before + 1 - 1) counts)) from (sum (take end counts)) from' (view_behind whole end) step.view (map (step_part counts) (steps_between whole end (step_lines end more))) (step_ranges entries from' steps) first d'.begins seen rest

ranges-flat : (entries : List Entry) (from : ℕ) (steps : List StepPart) → Cover from (length entries) steps → step_ranges entries (length (shapes_of (take from entries))) steps ≡ map (flat_step entries) steps
ranges-flat entries from [] cover = refl
ranges-flat entries from (step ∷ steps) cover =
    let own = shapes_of (entries_in entries step) in
    let before = shapes_of (take step.first entries) in
    let first : from ≡ step.first = sym cover.0 in
    let end : length before + length own ≡ length (shapes_of (take step.end entries)) = sym (ap length (shapes_up_to entries step cover.1) ∙ length-append before own) in
    ap (λ n. step_ranges entries (length (shapes_of (take n entries))) (step ∷ steps)) first
    ∙ one_range (length before) (length before) (length before + length own) (length (shapes_of (take step.end entries))) step.view step.view (step_ranges entries (length before + length own) steps) (map (flat_step entries) steps) refl end refl
    (ap (λ n. step_ranges entries n steps) end ∙ ranges-flat entries step.end steps cover.2)

-- the steps that are read are the flat ones
pub parts-again : (table : Counting) (entries : List Entry) (steps : List StepPart) → AreSteps (length entries) steps → step_parts (said table entries steps) (map length ([] ∷ seen_steps table entries true steps)) ≡ map (flat_step entries) steps
unfolding step_parts steps_of
parts-again table entries [] are = absurd (are.some refl)
parts-again table entries (step ∷ steps) are =
    let whole = said table entries (step ∷ steps) in
    let counts = map length ([] ∷ seen_steps table entries true (step ∷ steps)) in
    ap (λ es. map (step_part counts) (steps_between whole 0 es)) (ends-are table entries step steps)
    ∙ marks table entries whole counts (step ∷ steps) true [] 0 0 (Bfc (Certify Ccw) ∷ []) (0 ∷ []) (record { size = refl; begins = refl; given = refl; seen = refl }) refl refl are.views
    ∙ ranges-flat entries 0 (step ∷ steps) are.cover
