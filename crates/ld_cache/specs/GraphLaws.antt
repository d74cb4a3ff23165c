-- What heights, targets and dirt of a graph say of the texts as an expansion sees them.
use Rattle.std.specs.Prelude.{◌≡◌, ◌↔◌, ◌&&◌, ℕ, Bool, true, not, List, [], map, length, nat_lt, Some, None, unwrap_or}
use Rattle.ld_names.specs.Standing.{Known}
use Rattle.ld_names.specs.declared.file.TextId.{TextId}
use Rattle.ld_texts.specs.Editing.{AreKnown, edited, files_in}
use Rattle.ld_texts.specs.Known.{AreDistinct, file_at, lines_at}
use Rattle.ld_texts.specs.declared.edit.Edit.{Edit}
use Rattle.ld_entry.specs.Agreement.{Agree}
use Rattle.ld_entry.specs.Expansion.{neutral_expansion}
use Rattle.ld_entry.specs.Heights.{found_by, height as height_by_lines}
use Rattle.ld_entry.specs.NumberedTexts.{known_texts}
use Rattle.ld_graph.specs.Agreeing.{items_of_known}
use Rattle.ld_graph.specs.AgreeingLaws.{IsDirtied}
use Rattle.ld_graph.specs.Dirt.{is_dirty}
use Rattle.ld_graph.specs.Items.{web_of}
use Rattle.ld_graph.specs.Moving.{target_of}
use Rattle.ld_graph.specs.Web.{Reaches, Web, children_of, height}

-- the web of the known texts
abbrev pub known_web : Known → Web
known_web known = web_of (items_of_known known)

-- a present text refers by its lines to what it refers to in the graph, and so it has the same height; an absent one has
-- height 0 in the graph
pub record HeightsAgree (known : Known) : Type 0 where
  pub refers : (text : TextId) (lines : List (List ℕ)) → lines_at known text.0 ≡ Some lines → found_by (known_texts known) text ≡ map (λ id. record { 0 = id }) (unwrap_or (children_of (known_web known) text.0) [])
  pub present : (bound : ℕ) (text : TextId) (lines : List (List ℕ)) → lines_at known text.0 ≡ Some lines → height (known_web known) bound text.0 ≡ height_by_lines bound (known_texts known) text
  pub absent : (bound : ℕ) (text : TextId) → lines_at known text.0 ≡ None → height (known_web known) bound text.0 ≡ 0

-- the target of a text is that by its lines, and a walk leads to it
pub record TargetsAgree (known : Known) : Type 0 where
  pub same : (text : TextId) → target_of known text (file_at known text.0) ≡ (known_texts known).target text
  pub reached : (text : TextId) → Reaches (known_web known) (λ other. other ≡ (target_of known text (file_at known text.0)).0) text.0

-- a known text that the dirt lacks
abbrev pub is_clean : Known → List Bool → TextId → Bool
is_clean known dirty text = nat_lt text.0 (length known) && not (is_dirty dirty text)

-- the texts that the dirt of an edit lacks agree before and after it, so that their expansions stay
pub record CleanTextsAgree (known : Known) (edit : Edit) (dirty : List Bool) : Type 0 where
  pub agree : Agree (is_clean known dirty) (known_texts known) (known_texts (edited known edit))
  pub expansions : (depth most : ℕ) (way : List TextId) (text : TextId) → is_clean known dirty text ≡ true → neutral_expansion (known_texts (edited known edit)) depth most way text ≡ neutral_expansion (known_texts known) depth most way text

abbrev pub DirtKeepsOthers : Type 0
DirtKeepsOthers = (known : Known) (edit : Edit) (dirty : List Bool) → AreDistinct known → AreKnown known (files_in edit) → ((text : TextId) → (is_dirty dirty text ≡ true) ↔ IsDirtied known edit text.0) → CleanTextsAgree known edit dirty

-- where no file is known twice
pub record GraphsAgree : Type 0 where
  pub heights : (known : Known) → AreDistinct known → HeightsAgree known
  pub targets : (known : Known) → AreDistinct known → TargetsAgree known
  pub dirt : DirtKeepsOthers
