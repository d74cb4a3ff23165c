-- Texts that agree on a set that no reference leaves give the same there: the renaming that changes nothing.
use Rattle.std.proofs.Common.{◌≡◌, ◌==◌, ℕ, Bool, true, List, [], ◌∷◌, ◌++◌, length, map, Option, Some, None, Ok, Err, refl, ap, sym, ◌∙◌, subst}
use Rattle.std.specs.Prelude.{option_map}
use Rattle.std.specs.List.{list_any}
use Rattle.std.proofs.lemmas.List.{append-nil, map-id}
use Rattle.ld_names.specs.declared.file.TextId.{TextId}
use Rattle.ld_line.specs.declared.line.Line.{Line}
use Rattle.ld_line.specs.declared.line.Line.TheVariants.{Org, Ref}
use Rattle.ld_entry.proofs.Renaming.{all-renamed, heights-renamed, none-further}
use Rattle.ld_entry.specs.Agreement.{Agree, AgreeAs, FindsSame, renamed_above, renamed_link, renamed_outcome, StandFor}
use Rattle.ld_entry.specs.Answers.{answer, answer_of, left_below, outcome_counts}
use Rattle.ld_entry.specs.Carrying.{Above, colour_above, nothing_above, Outcome}
use Rattle.ld_entry.specs.Expansion.{expansion_of, neutral_expansion}
use Rattle.ld_entry.specs.Laws.{AgreementLaw}
use Rattle.ld_entry.specs.NumberedTexts.{NumberedTexts}
use Rattle.ld_entry.specs.Outcomes.{all_by_line, concatenation, context_of}
use Rattle.ld_entry.specs.declared.entry.Entry.TheVariants.{Drawn, Part}

itself : TextId → TextId
itself text = text

-- ---- What nothing changes.

map-stays : {A : Type 0} (f : A → A) → ((x : A) → f x ≡ x) → (xs : List A) → map f xs ≡ xs
map-stays f stays [] = refl
map-stays f stays (x ∷ xs) = ap (λ y. y ∷ map f xs) (stays x) ∙ ap (λ ys. x ∷ ys) (map-stays f stays xs)

outcome-stays : (outcome : Outcome) → renamed_outcome itself outcome ≡ outcome
unfolding itself
outcome-stays (Ok (Drawn kind certified clip winding colour source points)) = refl
outcome-stays (Ok (Part file colour source)) = refl
outcome-stays (Err fault) = refl

above-stays : (above : Above) → renamed_above itself above ≡ above
unfolding itself
above-stays above =
    ap (λ links. let a : Above = record { links = links; colour = above.colour; below = above.below } in a) (map-stays (renamed_link itself) (λ link. refl) above.links)

found-stays : (found : Option TextId) → found ≡ option_map itself found
unfolding itself
found-stays None = refl
found-stays (Some text) = refl

-- ---- So these texts agree under the same numbers.

lines-stand : (inside : TextId → Bool) (texts other : NumberedTexts) (text : TextId) (lines : List Line) → FindsSame inside texts other text lines → StandFor inside itself texts other text lines lines
unfolding itself
lines-stand inside texts other text [] same = tt
lines-stand inside texts other text (Ref word placement (Some name) ∷ lines) same =
    ((name, refl, same.0 ∙ found-stays (texts.found text name), same.1), lines-stand inside texts other text lines same.2)
lines-stand inside texts other text (Org part ∷ lines) same = ((part, refl), lines-stand inside texts other text lines same)
lines-stand inside texts other text (line ∷ lines) same = (refl, lines-stand inside texts other text lines same)

agree-itself : (inside : TextId → Bool) (texts other : NumberedTexts) → Agree inside texts other → AgreeAs inside itself texts other
unfolding itself
agree-itself inside texts other agree = record {
  lines = λ text within. subst (StandFor inside itself texts other text (texts.lines text)) (sym (agree.lines text within)) (lines-stand inside texts other text (texts.lines text) (agree.finds text within));
  is_part = agree.is_part;
  target = agree.target;
  apart = λ text file in_text in_file same. same;
}

all-agree : (inside : TextId → Bool) (texts other : NumberedTexts) → Agree inside texts other → (left : ℕ) (way : List TextId) (text : TextId) (above : Above) → inside text ≡ true → all_by_line left (context_of other way text above) ≡ all_by_line left (context_of texts way text above)
unfolding itself
all-agree inside texts other agree left way text above within =
    let given = all_by_line left (context_of texts way text above) in
    let none = none-further (texts.lines text) (other.lines text) (ap length (agree.lines text within)) in
    ap (λ w. all_by_line left (context_of other w text above)) (sym (map-id way)) ∙ ap (λ a. all_by_line left (context_of other (map itself way) text a)) (sym (above-stays above)) ∙ all-renamed inside itself texts other (agree-itself inside texts other agree) left way text above (λ file in_file. ap (list_any (λ on. on.0 == file.0)) (map-id way)) within ∙ ap (λ o. map (map (renamed_outcome itself)) given ++ o) none ∙ append-nil (map (map (renamed_outcome itself)) given) ∙ map-stays (map (renamed_outcome itself)) (map-stays (renamed_outcome itself) outcome-stays) given

pub agrees : AgreementLaw
unfolding answer neutral_expansion outcome_counts itself
agrees = record {
  outcomes = all-agree;
  answers = λ inside texts other agree depth most root colour within. ap (λ lines. answer_of most (concatenation lines)) (all-agree inside texts other agree (left_below depth []) [] root (colour_above colour) within);
  expansions = λ inside texts other agree depth most way text within. ap (expansion_of most) (all-agree inside texts other agree (left_below depth way) way text nothing_above within);
  counts = λ inside texts other agree depth root colour within. ap (map length) (all-agree inside texts other agree (left_below depth []) [] root (colour_above colour) within);
  heights = λ inside texts other agree bound text within. heights-renamed inside itself texts other (agree-itself inside texts other agree) bound text within;
}
