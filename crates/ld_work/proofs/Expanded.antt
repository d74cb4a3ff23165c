-- The steps of an expansion.
use Rattle.std.proofs.Common.{◌≡◌, ◌-◌, false, cond, ℕ, suc, List, [], ◌∷◌, ◌++◌, length, map, take, drop, Option, Some, None, Ok, Err, refl, ap, ◌∙◌, append_assoc, arith}
use Rattle.std.proofs.lemmas.List.{length-append}
use Rattle.std.proofs.Math.Seq.{take-append_seam}
use Rattle.ld_names.specs.declared.file.TextId.{TextId}
use Rattle.ld_num.specs.declared.point.Placement.{Placement}
use Rattle.ld_bfc.specs.declared.culling.State.{State}
use Rattle.ld_entry.specs.Carrying.{Above, above_of, Outcome, beneath, carried_outcome, fault_at, nothing_above}
use Rattle.ld_entry.specs.Laws.{ActionLaw, CarryLaws}
use Rattle.ld_entry.specs.NumberedTexts.{NumberedTexts}
use Rattle.ld_entry.specs.Outcomes.{Context, all, is_on_way, part_outcomes, outer_of, found_outcomes}
use Rattle.ld_entry.specs.declared.entry.Entry.{Entry}
use Rattle.ld_entry.specs.declared.entry.Fault.{Fault}
use Rattle.ld_entry.specs.declared.entry.Source.{Source}
use Rattle.ld_entry.specs.declared.entry.What.TheVariants.{Cycle}
use Rattle.ld_work.specs.Inside.Gathering.{CarriesFrom, Extends, alone, enter_with}

-- ---- A reference.

module _ (texts : NumberedTexts) (way : List TextId) (left : ℕ) (state : State) (source : Source) (word : ℕ) (placement : Placement) (file : TextId) where
  abbrev here : Context
  here = alone texts way source.text

  abbrev gives : List Outcome
  gives = found_outcomes (enter_with left) here state source word placement (Some file)

  pub entered-gives : CarryLaws → ActionLaw → (further : ℕ) → is_on_way here file ≡ false → left ≡ suc further → gives ≡ part_outcomes here source word file ++ map (carried_outcome (above_of (outer_of state source word placement))) (all further (alone texts (way ++ source.text ∷ []) file))
  entered-gives carry action further off more =
      let passed = above_of (outer_of state source word placement) in
      ap (λ n. found_outcomes (enter_with n) here state source word placement (Some file)) more
      ∙ ap (λ on. cond on (fault_at Cycle source ∷ []) (part_outcomes here source word file ++ all further (record { texts = texts; way = way ++ source.text ∷ []; text = file; above = beneath nothing_above passed }))) off
      ∙ ap (λ above. part_outcomes here source word file ++ all further (record { texts = texts; way = way ++ source.text ∷ []; text = file; above = above })) (carry.left_unit passed)
      ∙ ap (λ os. part_outcomes here source word file ++ os) (action.from_nothing passed further texts (way ++ source.text ∷ []) file)

-- entries that begin with those of before
pub extends-all : (above : Above) (base new : List Entry) (behind : List Outcome) → map Ok new ≡ map Ok base ++ behind → Extends base new
extends-all above [] new behind is = (new, refl)
extends-all above (entry ∷ base) [] behind is = cc
extends-all above (entry ∷ base) (first ∷ new) behind is =
    let same : first ≡ entry = cc in
    let rest = extends-all above base new behind (cc) in
    (rest.0, ap (λ e. e ∷ new) same ∙ ap (λ es. entry ∷ es) rest.1)

pub extends-some : (base new : List Entry) (fault : Fault) (rest behind : List Outcome) → map Ok new ++ Err fault ∷ rest ≡ map Ok base ++ behind → Extends base new
extends-some [] new fault rest behind is = (new, refl)
extends-some (entry ∷ base) [] fault rest behind is = cc
extends-some (entry ∷ base) (first ∷ new) fault rest behind is =
    let same : first ≡ entry = cc in
    let more = extends-some base new fault rest behind (cc) in
    (more.0, ap (λ e. e ∷ new) same ∙ ap (λ es. entry ∷ es) more.1)

pub extends-carried : (above : Above) (base sub new : List Entry) (refusal : Option Fault) → CarriesFrom above (length base) (base ++ sub) new refusal → Extends base new
extends-carried above base sub new None all =
    extends-all above base new (map (carried_outcome above) (map Ok (drop (length base) (base ++ sub)))) (all ∙ ap (λ es. map Ok es ++ map (carried_outcome above) (map Ok (drop (length base) (base ++ sub)))) (take-append_seam base sub))
extends-carried above base sub new (Some fault) some =
    extends-some base new fault some.0 (map (carried_outcome above) (map Ok (drop (length base) (base ++ sub)))) (some.1 ∙ ap (λ es. map Ok es ++ map (carried_outcome above) (map Ok (drop (length base) (base ++ sub)))) (take-append_seam base sub))

pub extends-on : (old mid new : List Entry) → Extends old mid → Extends mid new → Extends old new
extends-on old mid new first second = (first.0 ++ second.0, second.1 ∙ ap (λ es. es ++ second.0) first.1 ∙ append_assoc old first.0 second.0)

-- the way without its last text
pub popped : (items way : List TextId) (text : TextId) → items ≡ way ++ text ∷ [] → take (length items - 1) items ≡ way
popped items way text is =
    let long : length (way ++ text ∷ []) ≡ suc (length way) = length-append way (text ∷ []) ∙ omega arith in
    let before : length (way ++ text ∷ []) - 1 ≡ length way = omega arith in
    ap (λ xs. take (length xs - 1) xs) is ∙ ap (λ n. take n (way ++ text ∷ [])) before ∙ take-append_seam way (text ∷ [])
