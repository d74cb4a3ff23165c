-- The expansion of a low text by itself for what a reference to it gives.
use Rattle.std.proofs.Common.{◌≡◌, ◌≤◌, ◌<◌, ◌==◌, ℕ, suc, false, List, [], ◌∷◌, ◌++◌, map, length, Some, ⊎_elim, ap, sym, ◌∙◌, arith}
use Rattle.std.specs.List.{list_any}
use Rattle.std.proofs.lemmas.Bool.{cases_lt}
use Rattle.std.proofs.lemmas.List.{length-append}
use Rattle.ld_names.specs.declared.file.TextId.{TextId}
use Rattle.ld_num.specs.declared.point.Placement.{Placement}
use Rattle.ld_bfc.specs.Laws.{WithLaws}
use Rattle.ld_bfc.specs.declared.culling.State.{State}
use Rattle.ld_colour.specs.Laws.{UnderLaws}
use Rattle.ld_entry.proofs.Action.{all-below, nothing-beneath}
use Rattle.ld_entry.proofs.Cuts.{cuts}
use Rattle.ld_entry.proofs.Heights.{lowers, way-from}
use Rattle.ld_entry.proofs.Ways.{from-append, not_on, ways}
use Rattle.ld_entry.specs.Answers.{left_below, until_end}
use Rattle.ld_entry.specs.Carrying.{above_of, beneath, carried_outcome, nothing_above, Outcome}
use Rattle.ld_entry.specs.Expansion.{neutral_expansion}
use Rattle.ld_entry.specs.Heights.{height, IsLow, IsWalk, Refers}
use Rattle.ld_entry.specs.Laws.{ReuseLaw, shown_by}
use Rattle.ld_entry.specs.NumberedTexts.{NumberedTexts}
use Rattle.ld_entry.specs.Outcomes.{all, context_of, found_outcomes, outer_of, part_outcomes}
use Rattle.ld_entry.specs.declared.entry.Source.{Source}

-- outcomes with the same cut, between others
between : (most : ℕ) (before xs ys behind : List Outcome) → until_end most xs ≡ until_end most ys → until_end most (before ++ (xs ++ behind)) ≡ until_end most (before ++ (ys ++ behind))
between most before xs ys behind same =
    sym (cuts.behind most before (xs ++ behind)) ∙ ap (λ zs. until_end most (before ++ zs)) (sym (cuts.in_front most xs behind) ∙ ap (λ zs. until_end most (zs ++ behind)) same ∙ cuts.in_front most ys behind) ∙ cuts.behind most before (ys ++ behind)

alone : (texts : NumberedTexts) (depth most : ℕ) (way : List TextId) (text : TextId) → IsWalk texts (way ++ text ∷ []) → IsLow texts depth way text → until_end most (all (left_below depth way) (context_of texts way text nothing_above)) ≡ shown_by (neutral_expansion texts depth most [] text)
unfolding neutral_expansion
alone texts depth most way text walk low =
    sym (cuts.shown most (all (left_below depth way) (context_of texts way text nothing_above))) ∙ ap shown_by (ways.expansions texts depth most way text walk low)

-- the last two texts of a walk
last-refers : (texts : NumberedTexts) (way : List TextId) (text file : TextId) → IsWalk texts ((way ++ text ∷ []) ++ file ∷ []) → IsWalk texts (way ++ text ∷ []) × Refers texts text file
last-refers texts [] text file walk = (tt, walk.0)
last-refers texts (first ∷ []) text file walk = ((walk.0, tt), walk.1.0)
last-refers texts (first ∷ second ∷ way) text file walk =
    let rest = last-refers texts (second ∷ way) text file walk.1 in
    ((walk.0, rest.0), rest.1)

-- what refers to a text below the depth is higher
higher : (texts : NumberedTexts) (depth : ℕ) (text file : TextId) → Refers texts text file → height (suc depth) texts file < depth → height (suc depth) texts file < height (suc depth) texts text
higher texts depth text file refers low =
    ⊎_elim (λ (high : depth < height (suc depth) texts text). omega arith) (λ (within : height (suc depth) texts text ≤ depth). lowers texts depth text file refers within) (cases_lt depth (height (suc depth) texts text))

-- a low file is not on the way to it
clear : (texts : NumberedTexts) (depth : ℕ) (way : List TextId) (text file : TextId) → IsWalk texts ((way ++ text ∷ []) ++ file ∷ []) → IsLow texts depth (way ++ text ∷ []) file → list_any (λ on. on.0 == file.0) (way ++ text ∷ []) ≡ false
clear texts depth way text file walk low =
    let heights = height (suc depth) texts in
    let long : length (way ++ text ∷ []) ≡ suc (length way) = length-append way (text ∷ []) ∙ omega arith in
    let last = last-refers texts way text file walk in
    let here : suc (heights file) ≤ heights text = higher texts depth text file last.1 (omega arith) in
    not_on heights (suc (heights file)) file (way ++ text ∷ []) (from-append heights (suc (heights file)) way text (way-from texts depth (suc (heights file)) way text last.0 (omega arith) here) here) (omega arith)

module _ (unders : UnderLaws) (withs : WithLaws) where
  entered : (texts : NumberedTexts) (depth most left : ℕ) (way : List TextId) (text file : TextId) (state : State) (source : Source) (word : ℕ) (placement : Placement) (before behind : List Outcome) → left_below depth way ≡ suc left → IsWalk texts ((way ++ text ∷ []) ++ file ∷ []) → IsLow texts depth (way ++ text ∷ []) file → until_end most (before ++ (found_outcomes (Some (λ inner. all left inner)) (context_of texts way text nothing_above) state source word placement (Some file) ++ behind)) ≡ until_end most (before ++ ((part_outcomes (context_of texts way text nothing_above) source word file ++ map (carried_outcome (above_of (outer_of state source word placement))) (shown_by (neutral_expansion texts depth most [] file))) ++ behind))
  entered texts depth most left way text file state source word placement before behind more walk low =
      let longer = way ++ text ∷ [] in
      let above = above_of (outer_of state source word placement) in
      let part = part_outcomes (context_of texts way text nothing_above) source word file in
      let gives : List Outcome = all left (context_of texts longer file nothing_above) in
      let shows = shown_by (neutral_expansion texts depth most [] file) in
      let long : length longer ≡ suc (length way) = length-append way (text ∷ []) ∙ omega arith in
      let at : left ≡ left_below depth longer = omega arith in
      let carried : all left (context_of texts longer file (beneath nothing_above above)) ≡ map (carried_outcome above) gives = ap (λ a. all left (context_of texts longer file a)) (nothing-beneath unders withs above) ∙ all-below unders withs above left texts longer file in
      let enters : found_outcomes (Some (λ inner. all left inner)) (context_of texts way text nothing_above) state source word placement (Some file) ≡ part ++ map (carried_outcome above) gives = rw (clear texts depth way text file walk low) (ap (λ o. part ++ o) carried) in
      let kept : until_end most gives ≡ shows = ap (λ n. until_end most (all n (context_of texts longer file nothing_above))) at ∙ alone texts depth most longer file walk low in
      let same : until_end most (map (carried_outcome above) gives) ≡ until_end most (map (carried_outcome above) shows) = sym (cuts.below most above gives) ∙ ap (λ o. until_end most (map (carried_outcome above) o)) kept in
      ap (λ o. until_end most (before ++ (o ++ behind))) enters ∙ between most before (part ++ map (carried_outcome above) gives) (part ++ map (carried_outcome above) shows) behind (sym (cuts.behind most part (map (carried_outcome above) gives)) ∙ ap (λ o. until_end most (part ++ o)) same ∙ cuts.behind most part (map (carried_outcome above) shows))

  pub reuses : ReuseLaw
  reuses = record { alone = alone; entered = entered }
