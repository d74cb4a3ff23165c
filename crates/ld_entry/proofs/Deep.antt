-- How the way and the depth decide what references give, and which part entries they give.
use Rattle.std.proofs.Common.{◌≡◌, ◌≤◌, ◌<◌, ℕ, suc, Bool, true, false, List, [], ◌∷◌, ◌++◌, length, Some, None, refl, ap, ◌∙◌, length-append, arith}
use Rattle.std.specs.Prelude.{◌&&◌, not, if◌then◌else◌, slice_get}
use Rattle.ld_names.specs.declared.file.TextId.{TextId}
use Rattle.ld_num.specs.declared.point.Placement.{Placement}
use Rattle.ld_line.specs.declared.line.Line.TheVariants.{Ref}
use Rattle.ld_bfc.specs.declared.culling.State.{State}
use Rattle.ld_entry.specs.Answers.{left_below}
use Rattle.ld_entry.specs.Carrying.{Above, above_of, beneath, fault_at, Outcome}
use Rattle.ld_entry.specs.Laws.{DepthLaw, IsReference, line_source, LineLaws, PartLaw, state_at}
use Rattle.ld_entry.specs.NumberedTexts.{NumberedTexts}
use Rattle.ld_entry.specs.Outcomes.{all, all_by_line, Context, context_of, Enter, enter_with, file_outcomes, found_outcomes, is_on_way, outer_of, part_outcomes}
use Rattle.ld_entry.specs.declared.entry.Source.{Source}
use Rattle.ld_entry.specs.declared.entry.What.TheVariants.{Cycle, TooDeep}

longer : (way : List TextId) (text : TextId) → length (way ++ text ∷ []) ≡ suc (length way)
longer way text = length-append way (text ∷ []) ∙ omega arith

module _ (context : Context) (state : State) (source : Source) (word : ℕ) (placement : Placement) (file : TextId) where
  on-way : (enter : Enter) → is_on_way context file ≡ true → found_outcomes enter context state source word placement (Some file) ≡ fault_at Cycle source ∷ []
  on-way enter on = rw on refl

  not-on-way : (enter : Enter) → is_on_way context file ≡ false → found_outcomes enter context state source word placement (Some file) ≡ file_outcomes enter context state source word placement file
  not-on-way enter off = rw off refl

module _ (lines : LineLaws) (texts : NumberedTexts) (depth : ℕ) (way : List TextId) (text : TextId) (above : Above) (index word : ℕ) (placement : Placement) (file : TextId) (is : IsReference texts text index word placement file) where
  abbrev context : Context
  context = context_of texts way text above

  abbrev state : State
  state = state_at texts text index

  abbrev source : Source
  source = line_source text index

  -- what the line of the reference gives
  given : (left : ℕ) → slice_get (all_by_line left context) index ≡ Some (found_outcomes (enter_with left) context state source word placement (Some file))
  given left = ap (λ all. slice_get all index) (lines.all_lines left context) ∙ lines.line (enter_with left) context index (Ref word placement (Some is.name)) is.line ∙ ap (λ one. Some (found_outcomes (enter_with left) context state source word placement one)) is.finds

  by-left : (left : ℕ) → left_below depth way ≡ left → slice_get (all_by_line (left_below depth way) context) index ≡ Some (found_outcomes (enter_with left) context state source word placement (Some file))
  by-left left at = ap (λ n. slice_get (all_by_line n context) index) at ∙ given left

  pub enters : is_on_way context file ≡ false → length (way ++ text ∷ []) < depth → slice_get (all_by_line (left_below depth way) context) index ≡ Some (part_outcomes context source word file ++ all (left_below depth (way ++ text ∷ [])) (context_of texts (way ++ text ∷ []) file (beneath above (above_of (outer_of state source word placement)))))
  enters off few =
      let left : left_below depth way ≡ suc (left_below depth (way ++ text ∷ [])) = omega (arith, few, longer way text) in
      by-left (suc (left_below depth (way ++ text ∷ []))) left ∙ ap Some (not-on-way context state source word placement file (enter_with (suc (left_below depth (way ++ text ∷ [])))) off)

  pub too-deep : is_on_way context file ≡ false → depth ≤ length (way ++ text ∷ []) → slice_get (all_by_line (left_below depth way) context) index ≡ Some (fault_at TooDeep source ∷ [])
  too-deep off full =
      let left : left_below depth way ≡ 0 = omega (arith, full, longer way text) in
      by-left 0 left ∙ ap Some (not-on-way context state source word placement file None off)

  pub cycles : is_on_way context file ≡ true → slice_get (all_by_line (left_below depth way) context) index ≡ Some (fault_at Cycle source ∷ [])
  cycles on = given (left_below depth way) ∙ ap Some (on-way context state source word placement file (enter_with (left_below depth way)) on)

pub deep : LineLaws → DepthLaw
deep lines = record {
  enters = λ texts depth way text above index word placement file is off few. enters lines texts depth way text above index word placement file is off few;
  too_deep = λ texts depth way text above index word placement file is off full. too-deep lines texts depth way text above index word placement file is off full;
  cycle = λ texts depth way text above index word placement file is on. cycles lines texts depth way text above index word placement file is on;
}

-- ---- Part entries.

no-part : (part : Bool) (some : List Outcome) → (if not part && false then some else []) ≡ []
no-part true some = refl
no-part false some = refl

pub parts : PartLaw
parts = record {
  entry = λ context source word file here there. rw (here, there) refl;
  in_part = λ context source word file here. rw here refl;
  of_no_part = λ context source word file there. rw there (no-part (context.texts.is_part context.text) _);
}
