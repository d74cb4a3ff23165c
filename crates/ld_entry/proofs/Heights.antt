-- Heights go down along references.
use Rattle.std.proofs.Common.{◌≡◌, ◌≤◌, ◌<◌, ◌++◌, ℕ, zero, suc, min, Bool, true, List, [], ◌∷◌, length, Some, ⊎_elim, refl, ap, sym, ◌∙◌, arith}
use Rattle.std.specs.Prelude.{option_to_list, slice_get, ⊤}
use Rattle.std.specs.List.{Contains}
use Rattle.std.proofs.lemmas.Bool.{cases_lt}
use Rattle.std.proofs.lemmas.List.Elements.{Contains-append_right}
use Rattle.ld_names.specs.declared.file.TextId.{TextId}
use Rattle.ld_num.specs.declared.point.Placement.{Placement}
use Rattle.ld_line.specs.declared.line.Line.{Line}
use Rattle.ld_line.specs.declared.line.Line.TheVariants.{Ref}
use Rattle.ld_entry.specs.Heights.{found_among, found_by, height, IsWalk, Refers, tallest}
use Rattle.ld_entry.specs.Laws.{HeightLaws, LowerLaw, WalkLaws}
use Rattle.ld_entry.specs.NumberedTexts.{NumberedTexts}

-- ---- Walks.

-- a first line adds what it finds to what the others find
pub found_among-more : (texts : NumberedTexts) (text other : TextId) (line : Line) (lines : List Line) → Contains (found_among texts text lines) other → Contains (found_among texts text (line ∷ lines)) other
found_among-more texts text other (Ref word placement (Some name)) lines found = Contains-append_right (option_to_list (texts.found text name)) (found_among texts text lines) other found
found_among-more texts text other line lines found = found

found_among-at : (texts : NumberedTexts) (text other : TextId) (word : ℕ) (placement : Placement) (name : List ℕ) → texts.found text name ≡ Some other → (lines : List Line) (index : ℕ) → slice_get lines index ≡ Some (Ref word placement (Some name)) → Contains (found_among texts text lines) other
found_among-at texts text other word placement name finds [] index at = cc
found_among-at texts text other word placement name finds (line ∷ lines) zero at =
    let is : line ≡ Ref word placement (Some name) = cc in
    rw (is, finds) (0, omega arith, refl)
found_among-at texts text other word placement name finds (line ∷ lines) (suc index) at =
    found_among-more texts text other line lines (found_among-at texts text other word placement name finds lines index at)

walk-longer : (texts : NumberedTexts) (way : List TextId) (text other : TextId) → IsWalk texts (way ++ text ∷ []) → Refers texts text other → IsWalk texts ((way ++ text ∷ []) ++ other ∷ [])
walk-longer texts [] text other walk refers = (refers, tt)
walk-longer texts (first ∷ []) text other walk refers = (walk.0, (refers, tt))
walk-longer texts (first ∷ second ∷ way) text other walk refers = (walk.0, walk-longer texts (second ∷ way) text other walk.1 refers)

pub walks : WalkLaws
walks = record {
  refers = λ texts text other index word placement name at finds. found_among-at texts text other word placement name finds (texts.lines text) index at;
  longer = walk-longer;
}

-- ---- The equation of heights, up to a cap.

tallest-found : (heights : TextId → ℕ) (texts : List TextId) (other : TextId) → Contains texts other → heights other ≤ tallest heights texts
tallest-found heights [] other found = absurd (omega (arith, found.1))
tallest-found heights (text ∷ texts) other (zero, within, is) = let same = ap heights is in omega arith
tallest-found heights (text ∷ texts) other (suc place, within, is) = let rest = tallest-found heights texts other (place, omega arith, is) in omega arith

tallest-capped : (cap : ℕ) (heights heights' : TextId → ℕ) (texts : List TextId) → ((other : TextId) → Contains texts other → min cap (heights other) ≡ heights' other) → min cap (tallest heights texts) ≡ tallest heights' texts
tallest-capped cap heights heights' [] same = omega arith
tallest-capped cap heights heights' (text ∷ texts) same =
    let here : min cap (heights text) ≡ heights' text = same text (0, omega arith, refl) in
    let rest = tallest-capped cap heights heights' texts (λ other found. same other (suc found.0, omega (arith, found.1), found.2)) in omega arith

-- the same height at two bounds
height-capped : (texts : NumberedTexts) (bound : ℕ) (text : TextId) → min bound (height (suc bound) texts text) ≡ height bound texts text
unfolding height
height-capped texts zero text = omega arith
height-capped texts (suc bound) text =
    let same = tallest-capped bound (height (suc bound) texts) (height bound texts) (found_by texts text) (λ other found. height-capped texts bound other) in omega arith

height-over : (texts : NumberedTexts) (cap : ℕ) (text : TextId) → height cap texts text ≡ min cap (suc (tallest (height cap texts) (found_by texts text)))
unfolding height
height-over texts zero text = omega arith
height-over texts (suc bound) text =
    let same = tallest-capped bound (height (suc bound) texts) (height bound texts) (found_by texts text) (λ other found. height-capped texts bound other) in omega arith

module _ (inside : TextId → Bool) (texts : NumberedTexts) (cap : ℕ) (heights : TextId → ℕ) (stays : (text other : TextId) → inside text ≡ true → Refers texts text other → inside other ≡ true) (are : (text : TextId) → inside text ≡ true → heights text ≡ min cap (suc (tallest heights (found_by texts text)))) where
  one-below : (bound : ℕ) → bound ≤ cap → (text : TextId) → inside text ≡ true → min bound (heights text) ≡ height bound texts text
  unfolding height
  one-below zero within text in_text = omega arith
  one-below (suc bound) within text in_text =
      let at = are text in_text in
      let same = tallest-capped bound heights (height bound texts) (found_by texts text) (λ other found. one-below bound (omega arith) other (stays text other in_text found)) in omega arith

  one : (text : TextId) → inside text ≡ true → heights text ≡ height cap texts text
  one text in_text =
      let at = are text in_text in
      let same = one-below cap (omega arith) text in_text in omega arith

-- ---- Heights and walks.

longest : (texts : NumberedTexts) (cap : ℕ) (text : TextId) (rest : List TextId) → IsWalk texts (text ∷ rest) → min cap (suc (length rest)) ≤ height cap texts text
unfolding height
longest texts zero text rest walk = omega arith
longest texts (suc cap) text [] walk = omega arith
longest texts (suc cap) text (next ∷ rest) walk =
    let below = longest texts cap next rest walk.1 in
    let found = tallest-found (height cap texts) (found_by texts text) next walk.0 in omega (arith, below, found)

-- the tallest of some texts is the height of one of them
tallest-one : (heights : TextId → ℕ) (texts : List TextId) → (1 ≤ tallest heights texts) → (other : TextId) × Contains texts other × (heights other ≡ tallest heights texts)
tallest-one heights [] some = absurd (omega arith)
tallest-one heights (text ∷ texts) some =
    ⊎_elim (λ (less : heights text < tallest heights texts). let rest = tallest-one heights texts (omega arith) in (rest.0, (suc rest.1.0, omega (arith, rest.1.1), rest.1.2), rest.2 ∙ omega arith)) (λ (no_less : tallest heights texts ≤ heights text). (text, (0, omega arith, refl), omega arith)) (cases_lt (heights text) (tallest heights texts))

-- a walk from a text that has as many texts as its height
abbrev Longest : NumberedTexts → ℕ → TextId → Type 0
Longest texts bound text = (rest : List TextId) × IsWalk texts (text ∷ rest) × (height (suc bound) texts text ≡ suc (length rest))

none-tall : (texts : NumberedTexts) (files : List TextId) → tallest (height zero texts) files ≡ 0
unfolding height
none-tall texts [] = refl
none-tall texts (file ∷ files) = omega (arith, none-tall texts files)

walk-on : (texts : NumberedTexts) (bound : ℕ) (text : TextId) → ((other : TextId) → Longest texts bound other) → Longest texts (suc bound) text
unfolding height
walk-on texts bound text below =
    ⊎_elim (λ (some : 0 < tallest (height (suc bound) texts) (found_by texts text)). let found = tallest-one (height (suc bound) texts) (found_by texts text) (omega arith) in let rest = below found.0 in (found.0 ∷ rest.0, (found.1, rest.1), ap suc (sym found.2 ∙ rest.2))) (λ (none : tallest (height (suc bound) texts) (found_by texts text) ≤ 0). ([], tt, omega arith)) (cases_lt 0 (tallest (height (suc bound) texts) (found_by texts text)))

walk-of : (texts : NumberedTexts) (bound : ℕ) (text : TextId) → Longest texts bound text
unfolding height
walk-of texts zero text = ([], tt, ap suc (none-tall texts (found_by texts text)))
walk-of texts (suc bound) text = walk-on texts bound text (walk-of texts bound)

pub levels : HeightLaws
levels = record { longest = longest; walk = walk-of; over = height-over; one = one }

-- ---- So what a text finds is lower.

pub lowers : LowerLaw
unfolding height
lowers texts depth text other refers low =
    let found = tallest-found (height depth texts) (found_by texts text) other refers in
    let same = height-capped texts depth other in omega (arith, low, found)

-- ---- And what leads to a text is no lower, up to the depth.

abbrev pub AreFrom : (TextId → ℕ) → ℕ → List TextId → Type 0
AreFrom heights least [] = ⊤
AreFrom heights least (text ∷ texts) = (least ≤ heights text) × AreFrom heights least texts

referring-from : (texts : NumberedTexts) (depth least : ℕ) (text other : TextId) → Refers texts text other → least ≤ depth → least ≤ height (suc depth) texts other → least ≤ height (suc depth) texts text
referring-from texts depth least text other refers within from =
    ⊎_elim (λ (high : depth < height (suc depth) texts text). omega arith) (λ (low : height (suc depth) texts text ≤ depth). let below = lowers texts depth text other refers low in omega arith) (cases_lt depth (height (suc depth) texts text))

pub way-from : (texts : NumberedTexts) (depth least : ℕ) (way : List TextId) (text : TextId) → IsWalk texts (way ++ text ∷ []) → least ≤ depth → least ≤ height (suc depth) texts text → AreFrom (height (suc depth) texts) least way
way-from texts depth least [] text walk within from = tt
way-from texts depth least (first ∷ []) text walk within from = (referring-from texts depth least first text walk.0 within from, tt)
way-from texts depth least (first ∷ second ∷ way) text walk within from =
    let rest = way-from texts depth least (second ∷ way) text walk.1 within from in
    (referring-from texts depth least first second walk.0 within rest.0, rest)
