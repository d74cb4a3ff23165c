-- Below a text that is low under a way, no reference comes back to the way or is too deep.
use Rattle.std.proofs.Common.{◌≡◌, ◌≤◌, ◌<◌, ◌==◌, ◌||◌, ℕ, zero, suc, Bool, true, false, List, [], ◌∷◌, ◌++◌, Option, Some, None, refl, ap, ◌∙◌, arith}
use Rattle.std.specs.Prelude.{option_to_list}
use Rattle.std.specs.List.{Contains, list_any}
use Rattle.std.proofs.lemmas.Bool.{eqb-true}
use Rattle.std.proofs.lemmas.List.Elements.{Contains-append_left, Contains-append_right}
use Rattle.ld_names.specs.declared.file.TextId.{TextId}
use Rattle.ld_num.specs.declared.point.Placement.{Placement}
use Rattle.ld_line.specs.declared.line.Line.{Line}
use Rattle.ld_line.specs.declared.line.Line.TheVariants.{Ref}
use Rattle.ld_bfc.specs.LineState.{next, start}
use Rattle.ld_bfc.specs.declared.culling.State.{State}
use Rattle.ld_entry.proofs.Heights.{AreFrom, lowers, way-from}
use Rattle.ld_entry.specs.Answers.{left_below}
use Rattle.ld_entry.specs.Carrying.{Above, above_of, beneath, nothing_above}
use Rattle.ld_entry.specs.Expansion.{expansion_of, neutral_expansion}
use Rattle.ld_entry.specs.Heights.{found_among, found_by, height, IsLow, IsWalk}
use Rattle.ld_entry.specs.Laws.{WayLaw}
use Rattle.ld_entry.specs.NumberedTexts.{NumberedTexts}
use Rattle.ld_entry.specs.Outcomes.{all, all_by_line, concatenation, context_of, Enter, file_outcomes, found_outcomes, line_outcomes, outcomes_by_line, outcomes_from, outer_of, part_outcomes}
use Rattle.ld_entry.specs.declared.entry.Source.{Source}

-- ---- What is lower than all on the way is not on it.

pub same_id : (text other : TextId) → text.0 ≡ other.0 → text ≡ other
same_id text other is = ap (λ (n : ℕ). let id : TextId = record { 0 = n } in id) is

pub not_on : (heights : TextId → ℕ) (least : ℕ) (file : TextId) (way : List TextId) → AreFrom heights least way → heights file < least → list_any (λ text. text.0 == file.0) way ≡ false
not_on heights least file [] all below = refl
not_on heights least file (text ∷ way) all below = by (text.0 == file.0) refl (not_on heights least file way all.1 below)
  where
    by : (b : Bool) → (text.0 == file.0) ≡ b → list_any (λ on. on.0 == file.0) way ≡ false → (b || list_any (λ on. on.0 == file.0) way) ≡ false
    by true is rest = let same = ap heights (same_id text file (eqb-true text.0 file.0 is)) in absurd (omega (arith, all.0))
    by false is rest = rest

pub from-append : (heights : TextId → ℕ) (least : ℕ) (way : List TextId) (text : TextId) → AreFrom heights least way → least ≤ heights text → AreFrom heights least (way ++ text ∷ [])
from-append heights least [] text all last = (last, tt)
from-append heights least (first ∷ way) text all last = (all.0, from-append heights least way text all.1 last)

from-less : (heights : TextId → ℕ) (less least : ℕ) (way : List TextId) → less ≤ least → AreFrom heights least way → AreFrom heights less way
from-less heights less least [] le all = tt
from-less heights less least (text ∷ way) le all = (omega (arith, all.0), from-less heights less least way le all.1)

-- ---- One text under two ways, where the lower files that it enters give the same.

module _ (heights : TextId → ℕ) (texts : NumberedTexts) (text : TextId) (above : Above) (way other : List TextId) (enter enter' : Enter) (clear : AreFrom heights (heights text) way) (clear' : AreFrom heights (heights text) other) (agree : (state : State) (source : Source) (word : ℕ) (placement : Placement) (file : TextId) → heights file < heights text → file_outcomes enter (context_of texts way text above) state source word placement file ≡ file_outcomes enter' (context_of texts other text above) state source word placement file) where
  abbrev pub AreLower : List TextId → Type 0
  AreLower files = (file : TextId) → Contains files file → heights file < heights text

  found-same : (state : State) (source : Source) (word : ℕ) (placement : Placement) (found : Option TextId) → AreLower (option_to_list found) → found_outcomes enter (context_of texts way text above) state source word placement found ≡ found_outcomes enter' (context_of texts other text above) state source word placement found
  found-same state source word placement None lower = refl
  found-same state source word placement (Some file) lower =
      let low = lower file (0, omega arith, refl) in
      rw (not_on heights (heights text) file (way ++ text ∷ []) (from-append heights (heights text) way text clear (omega arith)) low, not_on heights (heights text) file (other ++ text ∷ []) (from-append heights (heights text) other text clear' (omega arith)) low) (agree state source word placement file low)

  lines-same : (state : State) (number : ℕ) (lines : List Line) → AreLower (found_among texts text lines) → outcomes_from enter (context_of texts way text above) state number lines ≡ outcomes_from enter' (context_of texts other text above) state number lines
  lines-same state number [] lower = refl
  lines-same state number (Ref word placement (Some name) ∷ lines) lower =
      let source : Source = record { text = text; line = number } in
      let found = texts.found text name in
      let rest = found_among texts text lines in
      ap (λ o. o ∷ outcomes_from enter (context_of texts way text above) (next state (Ref word placement (Some name))) (suc number) lines) (found-same state source word placement found (λ file at. lower file (Contains-append_left (option_to_list found) rest file at))) ∙ ap (λ o. found_outcomes enter' (context_of texts other text above) state source word placement found ∷ o) (lines-same (next state (Ref word placement (Some name))) (suc number) lines (λ file at. lower file (Contains-append_right (option_to_list found) rest file at)))
  lines-same state number (line ∷ lines) lower =
      ap (λ o. line_outcomes enter (context_of texts way text above) state (record { text = text; line = number }) line ∷ o) (lines-same (next state line) (suc number) lines lower)

  text-same : AreLower (found_by texts text) → outcomes_by_line enter (context_of texts way text above) ≡ outcomes_by_line enter' (context_of texts other text above)
  text-same lower = lines-same (start (texts.is_part text)) 1 (texts.lines text) lower

-- ---- All texts, by induction on a bound of the height.

pub same-below : (texts : NumberedTexts) (depth most left left' : ℕ) (way other : List TextId) (text : TextId) (above : Above) → height (suc depth) texts text ≤ most → height (suc depth) texts text ≤ depth → most ≤ suc left → most ≤ suc left' → AreFrom (height (suc depth) texts) (height (suc depth) texts text) way → AreFrom (height (suc depth) texts) (height (suc depth) texts text) other → all_by_line left (context_of texts way text above) ≡ all_by_line left' (context_of texts other text above)
unfolding all_by_line height
same-below texts depth zero left left' way other text above within low fits fits' clear clear' = absurd (omega arith)
same-below texts depth (suc most) zero zero way other text above within low fits fits' clear clear' =
    text-same (height (suc depth) texts) texts text above way other None None clear clear' (λ state source word placement file below. absurd (omega arith)) (λ file refers. lowers texts depth text file refers low)
same-below texts depth (suc most) zero (suc left') way other text above within low fits fits' clear clear' =
    text-same (height (suc depth) texts) texts text above way other None (Some (λ inner. all left' inner)) clear clear' (λ state source word placement file below. absurd (omega arith)) (λ file refers. lowers texts depth text file refers low)
same-below texts depth (suc most) (suc left) zero way other text above within low fits fits' clear clear' =
    text-same (height (suc depth) texts) texts text above way other (Some (λ inner. all left inner)) None clear clear' (λ state source word placement file below. absurd (omega arith)) (λ file refers. lowers texts depth text file refers low)
same-below texts depth (suc most) (suc left) (suc left') way other text above within low fits fits' clear clear' =
    text-same (height (suc depth) texts) texts text above way other (Some (λ inner. all left inner)) (Some (λ inner. all left' inner)) clear clear' (λ state source word placement file below. ap (λ o. part_outcomes (context_of texts way text above) source word file ++ concatenation o) (same-below texts depth most left left' (way ++ text ∷ []) (other ++ text ∷ []) file (beneath above (above_of (outer_of state source word placement))) (omega arith) (omega arith) (omega arith) (omega arith) (from-append (height (suc depth) texts) _ way text (from-less (height (suc depth) texts) _ _ way (omega arith) clear) (omega arith)) (from-append (height (suc depth) texts) _ other text (from-less (height (suc depth) texts) _ _ other (omega arith) clear') (omega arith)))) (λ file refers. lowers texts depth text file refers low)

way-outcomes : (texts : NumberedTexts) (depth : ℕ) (way : List TextId) (text : TextId) (above : Above) → IsWalk texts (way ++ text ∷ []) → IsLow texts depth way text → all_by_line (left_below depth way) (context_of texts way text above) ≡ all_by_line (left_below depth []) (context_of texts [] text above)
way-outcomes texts depth way text above walk low =
    let within : height (suc depth) texts text ≤ depth = omega arith in
    same-below texts depth (height (suc depth) texts text) (left_below depth way) (left_below depth []) way [] text above (omega arith) within (omega arith) (omega arith) (way-from texts depth (height (suc depth) texts text) way text walk within (omega arith)) tt

pub ways : WayLaw
unfolding neutral_expansion
ways = record {
  outcomes = way-outcomes;
  expansions = λ texts depth most way text walk low. ap (expansion_of most) (way-outcomes texts depth way text nothing_above walk low);
}
