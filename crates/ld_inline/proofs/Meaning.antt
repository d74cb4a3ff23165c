-- The inlined text means the flat answer.
use Rattle.std.proofs.Common.{◌≡◌, ◌≤◌, ℕ, true, cond, List, [], ◌∷◌, ◌++◌, length, map, Some, None, Ok, Err, refl, ap, sym, ◌∙◌, arith}
use Rattle.std.specs.Prelude.{All}
use Rattle.std.proofs.lemmas.List.{length-map, map-append}
use Rattle.std.proofs.lemmas.Option.{slice_get_past}
use Rattle.std.proofs.lemmas.Slice.Eq.{bytes_eq-Decides}
use Rattle.ld_names.specs.Standing.{file_in, known_map, same_file}
use Rattle.ld_names.specs.declared.file.Folder.TheVariants.{Model}
use Rattle.ld_line.specs.Cut.{lines_of}
use Rattle.ld_line.specs.Reading.{line_of}
use Rattle.ld_bfc.specs.LineState.{start}
use Rattle.ld_colour.specs.Laws.{UnderLaws}
use Rattle.ld_colour.specs.Table.{Counting, FindsRgb}
use Rattle.ld_colour.specs.declared.colour.Colour.TheVariants.{Main}
use Rattle.ld_entry.specs.Answers.{answer, answer_by, answer_of, entries_before, first_fault, left_below, outcome_counts, unless_too_many}
use Rattle.ld_entry.specs.Carrying.{Outcome, colour_above}
use Rattle.ld_entry.specs.Lawful.{IsLawfulEntry}
use Rattle.ld_entry.specs.NumberedTexts.{NumberedTexts, standing_lines}
use Rattle.ld_entry.specs.Outcomes.{all_by_line, concatenation, context_of, outcomes_from}
use Rattle.ld_entry.specs.declared.entry.Entry.{Entry}
use Rattle.ld_steps.specs.Laws.{AreSteps}
use Rattle.ld_steps.specs.Parts.{step_parts}
use Rattle.ld_steps.specs.declared.step.StepPart.{StepPart}
use Rattle.ld_inline.specs.Flat.{Shape, flat, flat_shape, shape_of, shapes_of}
use Rattle.ld_inline.specs.Inside.Shown.{AreShownSteps, IsShown}
use Rattle.ld_inline.specs.Meaning.{MeansFlat, ReadsAs, first_text, only_text}
use Rattle.ld_inline.specs.Text.{written_text}
use Rattle.ld_inline.proofs.Outcomes.{seen, seen_steps, text_again, unsourced}
use Rattle.ld_inline.proofs.Said.{Reads, said, text_says}
use Rattle.ld_inline.proofs.StepsAgain.{flats, parts-again, steps-seen}

-- ---- Outcomes and what is seen of them.

unsourced-all : (lines : List (List Outcome)) → map unsourced (concatenation lines) ≡ concatenation (seen lines)
unsourced-all [] = refl
unsourced-all (line ∷ lines) = map-append unsourced line (concatenation lines) ∙ ap (λ xs. map unsourced line ++ xs) (unsourced-all lines)

lengths-seen : (lines : List (List Outcome)) → map length lines ≡ map length (seen lines)
lengths-seen [] = refl
lengths-seen (line ∷ lines) = ap (λ n. n ∷ map length lines) (sym (length-map line unsourced)) ∙ ap (λ ns. length (map unsourced line) ∷ ns) (lengths-seen lines)

-- outcomes that show entries alone have no fault
entries-alone : (outcomes : List Outcome) (shapes : List Shape) → map unsourced outcomes ≡ map Some shapes → (first_fault outcomes ≡ None) × (map shape_of (entries_before outcomes) ≡ map Some shapes)
entries-alone [] [] is = (refl, refl)
entries-alone [] (shape ∷ shapes) is = cc
entries-alone (Ok entry ∷ outcomes) [] is = cc
entries-alone (Err fault ∷ outcomes) [] is = cc
entries-alone (Err fault ∷ outcomes) (shape ∷ shapes) is = cc
entries-alone (Ok entry ∷ outcomes) (shape ∷ shapes) is =
    let head : shape_of entry ≡ Some shape = cc in
    let tail : map unsourced outcomes ≡ map Some shapes = cc in
    let rest = entries-alone outcomes shapes tail in
    (rest.0, ap (λ x. x ∷ map shape_of (entries_before outcomes)) head ∙ ap (λ xs. Some shape ∷ xs) rest.1)

-- so many entries without a fault are answered
answered-all : (most : ℕ) (outcomes : List Outcome) → first_fault outcomes ≡ None → length (entries_before outcomes) ≤ most → answer_of most outcomes ≡ Ok (entries_before outcomes)
answered-all most outcomes none few =
    ap (λ end. answer_by most (entries_before outcomes) end) none ∙ ap (λ found. unless_too_many found (entries_before outcomes) None) (slice_get_past (entries_before outcomes) most few)

-- ---- The only text.

same-itself : (name : List ℕ) → same_file (file_in (Model 1) name) (file_in (Model 1) name) ≡ true
unfolding same_file
same-itself name = (bytes_eq-Decides name name).1 refl

only-known : (name : List ℕ) (lines : List (List ℕ)) → known_map ((file_in (Model 1) name, Some lines) ∷ []) (file_in (Model 1) name) ≡ Some (Some lines)
unfolding known_map
only-known name lines = ap (λ b. cond b (Some (Some lines)) None) (same-itself name)

only-lines : (name : List ℕ) (lines : List (List ℕ)) → (only_text name lines).lines first_text ≡ map line_of lines
only-lines name lines = ap (λ text. map line_of (standing_lines text)) (only-known name lines)

-- ---- All of it.

module _ (reads : Reads) (under_laws : UnderLaws) (table : Counting) (finds : FindsRgb table) (entries : List Entry) (steps : List StepPart) (shown : All IsShown entries) (turns : AreShownSteps [] steps) (are : AreSteps (length entries) steps) where
  -- what lines that say the text give
  only-seen : (texts : NumberedTexts) → All IsLawfulEntry entries → texts.lines first_text ≡ said table entries steps → seen (all_by_line (left_below 1 []) (context_of texts [] first_text (colour_above Main))) ≡ [] ∷ seen_steps table entries true steps
  unfolding all_by_line
  only-seen texts lawful lines =
      ap (λ ls. seen (outcomes_from None (context_of texts [] first_text (colour_above Main)) (start (texts.is_part first_text)) 1 ls)) lines
      ∙ text_again under_laws table finds texts first_text entries steps (texts.is_part first_text) shown lawful

  reads-flat : (texts : NumberedTexts) (most : ℕ) → All IsLawfulEntry entries → length (shapes_of entries) ≤ most → texts.lines first_text ≡ said table entries steps → ReadsAs (flat entries steps table) texts most
  unfolding answer flat outcome_counts
  reads-flat texts most lawful few lines =
      let by_line = all_by_line (left_below 1 []) (context_of texts [] first_text (colour_above Main)) in
      let outcomes = concatenation by_line in
      let given : seen by_line ≡ [] ∷ seen_steps table entries true steps = only-seen texts lawful lines in
      let shapes : map unsourced outcomes ≡ flats table entries = unsourced-all by_line ∙ ap concatenation given ∙ steps-seen table entries 0 true steps are.cover in
      let alone = entries-alone outcomes (map (flat_shape table) (shapes_of entries)) shapes in
      let size : length (entries_before outcomes) ≡ length (shapes_of entries) = sym (length-map (entries_before outcomes) shape_of) ∙ ap length alone.1 ∙ length-map (map (flat_shape table) (shapes_of entries)) Some ∙ length-map (shapes_of entries) (flat_shape table) in
      record {
        entries = entries_before outcomes;
        answered = answered-all most outcomes alone.0 (omega (arith, size, few));
        same_entries = alone.1;
        same_steps = ap (λ ls. step_parts ls (map length by_line)) lines ∙ ap (step_parts (said table entries steps)) (lengths-seen by_line ∙ ap (map length) given) ∙ parts-again table entries steps are;
      }

  pub means-flat : (text : List ℕ) → text ≡ written_text table entries steps → MeansFlat entries steps table text
  means-flat text is lawful name most few =
      let lines : (only_text name (lines_of text)).lines first_text ≡ said table entries steps = only-lines name (lines_of text) ∙ ap (λ bytes. map line_of (lines_of bytes)) is ∙ text_says reads table finds entries steps shown lawful turns in
      reads-flat (only_text name (lines_of text)) most lawful few lines
