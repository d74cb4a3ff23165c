-- What a graph that agrees with texts says of them.
use Rattle.std.proofs.Common.{◌≡◌, ◌≤◌, ℕ, suc, max, List, [], ◌∷◌, map, Option, Some, refl, ap, sym, ◌∙◌, arith}
use Rattle.std.specs.Prelude.{unwrap_or, IsSome, None}
use Rattle.ld_names.specs.declared.file.TextId.{TextId}
use Rattle.ld_names.specs.Standing.{Known, known_map}
use Rattle.ld_line.specs.Reading.{line_of}
use Rattle.ld_texts.specs.Known.{AreDistinct, file_at, lines_at}
use Rattle.ld_texts.specs.Laws.{NumbersAgree}
use Rattle.ld_texts.specs.Learning.{Texts}
use Rattle.ld_texts.specs.Reach.{lines_in}
use Rattle.ld_entry.specs.Heights.{found_among, height as height_by_lines, Refers, tallest}
use Rattle.ld_entry.specs.Laws.{FoundLaw}
use Rattle.ld_entry.specs.NumberedTexts.{known_files, known_texts, NumberedTexts}
use Rattle.ld_graph.specs.Agreeing.{Agrees, items_of_known}
use Rattle.ld_graph.specs.Items.{web_of}
use Rattle.ld_graph.specs.Seen.{Graph}
use Rattle.ld_graph.specs.Web.{height}
use Rattle.ld_cache.specs.GraphLaws.{GraphsAgree, known_web}
use Rattle.ld_work.specs.Inside.Agreeing.{AgreesWith, height_in}
use Rattle.ld_work.specs.Inside.Rounds.{AreAt}
use Rattle.ld_work.specs.Inside.Staleness.{height_of}
use Rattle.ld_work.proofs.Numbered.{files-at, lines-seen, map-at}

module _ (laws : GraphsAgree) (found : FoundLaw) (numbers : NumbersAgree) (texts : Texts) (distinct : AreDistinct texts.known) where
  -- what is referred to stands
  stands : (text other : TextId) → Refers (known_texts texts.known) text other → (lines : List (List ℕ)) × (lines_at texts.known other.0 ≡ Some lines)
  stands text other refers =
      let there = found (known_map texts.known) (known_files texts.known) text other refers in
      let at : file_at texts.known other.0 ≡ Some there.0 = sym (files-at texts.known other.0) ∙ there.1 in
      let same : Some (lines_at texts.known other.0) ≡ Some (Some there.2.0) = sym (map-at numbers texts.known distinct other.0 there.0 at) ∙ there.2.1 in
      (there.2.0, ap (λ o. unwrap_or o None) same)

  pub agreed : (graph : Graph) (depth : ℕ) → Agrees graph texts → graph.depth ≡ depth → AgreesWith graph depth texts
  agreed graph depth agrees deep =
      record {
        items = agrees;
        heights = λ text other refers. by other (stands text other refers);
        targets = (laws.targets texts.known distinct).same;
      }
    where
      by : (other : TextId) → ((lines : List (List ℕ)) × (lines_at texts.known other.0 ≡ Some lines)) → height_in graph other ≡ height_by_lines (suc depth) (known_texts texts.known) other
      by other (lines, is) =
          ap (λ items. height (web_of items) (suc graph.depth) other.0) agrees
          ∙ ap (λ d. height (known_web texts.known) (suc d) other.0) deep
          ∙ (laws.heights texts.known distinct).present (suc depth) other lines is

-- ---- Heights, those of absent texts too.

no-lines : (texts : NumberedTexts) (bound : ℕ) (text : TextId) → texts.lines text ≡ [] → height_by_lines (suc bound) texts text ≡ 1
unfolding height_by_lines
no-lines texts bound text none = ap (λ ls. suc (tallest (height_by_lines bound texts) (found_among texts text ls))) none

some-height : (texts : NumberedTexts) (bound : ℕ) (text : TextId) → 1 ≤ height_by_lines (suc bound) texts text
unfolding height_by_lines
some-height texts bound text = omega arith

module _ (laws : GraphsAgree) (known : Known) (distinct : AreDistinct known) (graph : Graph) (depth : ℕ) (items : graph.items ≡ items_of_known known) (deep : graph.depth ≡ depth) where
  in-graph : (text : TextId) → height_in graph text ≡ height (known_web known) (suc depth) text.0
  in-graph text = ap (λ is. height (web_of is) (suc graph.depth) text.0) items ∙ ap (λ d. height (known_web known) (suc d) text.0) deep

  -- the height of a text that is there
  pub there-height : (text : TextId) → IsSome (lines_at known text.0) → height_in graph text ≡ height_of known depth text
  there-height text there = by (lines_at known text.0) refl there
    where
      by : (standing : Option (List (List ℕ))) → lines_at known text.0 ≡ standing → IsSome standing → height_in graph text ≡ height_of known depth text
      by None is there = cc
      by (Some lines) is there = in-graph text ∙ (laws.heights known distinct).present (suc depth) text lines is

module _ (laws : GraphsAgree) (numbers : NumbersAgree) (known : Known) (distinct : AreDistinct known) (graph : Graph) (depth : ℕ) (items : graph.items ≡ items_of_known known) (deep : graph.depth ≡ depth) where
  -- an absent text has height 0 in a graph, and 1 by its lines
  by-lines : (text : TextId) → height_of known depth text ≡ max 1 (height_in graph text)
  by-lines text = by (lines_at known text.0) refl
    where
      by : (standing : Option (List (List ℕ))) → lines_at known text.0 ≡ standing → height_of known depth text ≡ max 1 (height_in graph text)
      by (Some lines) is =
          let same = in-graph laws known distinct graph depth items deep text ∙ (laws.heights known distinct).present (suc depth) text lines is in
          let some = some-height (known_texts known) depth text in
          omega arith
      by None is =
          let low = in-graph laws known distinct graph depth items deep text ∙ (laws.heights known distinct).absent (suc depth) text is in
          let one = no-lines (known_texts known) depth text (lines-seen numbers known distinct text.0 ∙ ap (λ lines. map line_of (lines_in lines)) is) in
          omega arith

  pub one-level : (n : ℕ) (texts : List TextId) → AreAt (height_in graph) n texts → AreAt (height_of known depth) (max 1 n) texts
  one-level n [] at = tt
  one-level n (text ∷ texts) at = (by-lines text ∙ ap (max 1) at.0, one-level n texts at.1)
