-- The steps of an expansion.
use Rattle.std.proofs.Common.{◌≡◌, ◌-◌, ◌&&◌, ℕ, zero, suc, Bool, true, false, cond, List, [], ◌∷◌, ◌++◌, length, map, drop, Option, Some, None, Ok, Err, refl, ap, sym, ◌∙◌, append_assoc}
use Rattle.std.specs.Prelude.{slice_get}
use Rattle.std.proofs.lemmas.List.{append-nil}
use Rattle.std.proofs.Math.Seq.{take-append_seam}
use Rattle.ld_names.specs.declared.file.TextId.{TextId}
use Rattle.ld_num.specs.declared.point.Placement.{Placement}
use Rattle.ld_bfc.specs.declared.culling.State.{State}
use Rattle.ld_colour.specs.Laws.{UnderLaws}
use Rattle.ld_colour.specs.Colour.{under}
use Rattle.ld_colour.specs.declared.colour.Colour.{Colour}
use Rattle.ld_entry.specs.Answers.{answer, answer_of, answer_by, until_end, entries_before, first_fault}
use Rattle.ld_entry.specs.Carrying.{Above, above_of, Outcome, beneath, carried_outcome, carried_entry, colour_above, fault_at, nothing_above}
use Rattle.ld_entry.specs.Laws.{ActionLaw, CutLaws, tinted_entry}
use Rattle.ld_entry.specs.NumberedTexts.{NumberedTexts}
use Rattle.ld_entry.specs.Outcomes.{Context, all, all_by_line, outcomes_by_line, context_of, is_on_way, concatenation, part_outcomes, outer_of, found_outcomes}
use Rattle.ld_entry.specs.declared.entry.Entry.{Entry}
use Rattle.ld_entry.specs.declared.entry.Entry.TheVariants.{Drawn, Part}
use Rattle.ld_entry.specs.declared.entry.Fault.{Fault}
use Rattle.ld_entry.specs.declared.entry.Source.{Source}
use Rattle.ld_entry.specs.declared.entry.What.TheVariants.{Cycle, TooDeep}
use Rattle.ld_engine.specs.Gathering.{CarriesFrom, Extends, Gathers, alone, enter_with, unless_fault}

-- ---- A reference.

module _ (texts : NumberedTexts) (way : List TextId) (left : ℕ) (state : State) (source : Source) (word : ℕ) (placement : Placement) (file : TextId) where
  abbrev here : Context
  here = alone texts way source.text

  abbrev gives : List Outcome
  gives = found_outcomes (enter_with left) here state source word placement (Some file)

  pub on_way-gives : is_on_way here file ≡ true → gives ≡ fault_at Cycle source ∷ []
  on_way-gives on = rw on refl

  pub too_deep-gives : is_on_way here file ≡ false → left ≡ 0 → gives ≡ fault_at TooDeep source ∷ []
  too_deep-gives off none =
      ap (λ n. found_outcomes (enter_with n) here state source word placement (Some file)) none ∙ rw off refl

  -- what is passed down stands above the file, below nothing
  first-below : UnderLaws → beneath nothing_above (above_of (outer_of state source word placement)) ≡ above_of (outer_of state source word placement)
  first-below under = rw (under.right_unit (above_of (outer_of state source word placement)).colour) refl

  pub entered-gives : UnderLaws → ActionLaw → (further : ℕ) → is_on_way here file ≡ false → left ≡ suc further → gives ≡ part_outcomes here source word file ++ map (carried_outcome (above_of (outer_of state source word placement))) (all further (alone texts (way ++ source.text ∷ []) file))
  entered-gives under action further off more =
      let passed = above_of (outer_of state source word placement) in
      ap (λ n. found_outcomes (enter_with n) here state source word placement (Some file)) more
      ∙ ap (λ on. cond on (fault_at Cycle source ∷ []) (part_outcomes here source word file ++ all further (record { texts = texts; way = way ++ source.text ∷ []; text = file; above = beneath nothing_above passed }))) off
      ∙ ap (λ above. part_outcomes here source word file ++ all further (record { texts = texts; way = way ++ source.text ∷ []; text = file; above = above })) (first-below under)
      ∙ ap (λ os. part_outcomes here source word file ++ os) (action.from_nothing passed further texts (way ++ source.text ∷ []) file)

-- entries that begin with those of before
pub extends-all : (above : Above) (base new : List Entry) (behind : List Outcome) → map Ok new ≡ map Ok base ++ behind → Extends base new
extends-all above [] new behind is = (new, refl)
extends-all above (entry ∷ base) [] behind is = cc
extends-all above (entry ∷ base) (first ∷ new) behind is =
    let same : first ≡ entry = cc in
    let rest = extends-all above base new behind (cc) in
    (rest.0, ap (λ e. e ∷ new) same ∙ ap (λ es. entry ∷ es) rest.1)

pub extends-some : (base new : List Entry) (fault : Fault) (rest behind : List Outcome) → map Ok new ++ Err fault ∷ rest ≡ map Ok base ++ behind → Extends base new
extends-some [] new fault rest behind is = (new, refl)
extends-some (entry ∷ base) [] fault rest behind is = cc
extends-some (entry ∷ base) (first ∷ new) fault rest behind is =
    let same : first ≡ entry = cc in
    let more = extends-some base new fault rest behind (cc) in
    (more.0, ap (λ e. e ∷ new) same ∙ ap (λ es. entry ∷ es) more.1)

pub extends-carried : (above : Above) (base sub new : List Entry) (refusal : Option Fault) → CarriesFrom above (length base) (base ++ sub) new refusal → Extends base new
extends-carried above base sub new None all =
    extends-all above base new (map (carried_outcome above) (map Ok (drop (length base) (base ++ sub)))) (all ∙ ap (λ es. map Ok es ++ map (carried_outcome above) (map Ok (drop (length base) (base ++ sub)))) (take-append_seam base sub))
extends-carried above base sub new (Some fault) some =
    extends-some base new fault some.0 (map (carried_outcome above) (map Ok (drop (length base) (base ++ sub)))) (some.1 ∙ ap (λ es. map Ok es ++ map (carried_outcome above) (map Ok (drop (length base) (base ++ sub)))) (take-append_seam base sub))

pub extends-on : (old mid new : List Entry) → Extends old mid → Extends mid new → Extends old new
extends-on old mid new first second = (first.0 ++ second.0, second.1 ∙ ap (λ es. es ++ second.0) first.1 ∙ append_assoc old first.0 second.0)

-- ---- A text.

pub all-is : (left : ℕ) (context : Context) → all left context ≡ concatenation (outcomes_by_line (enter_with left) context)
unfolding all_by_line
all-is zero context = refl
all-is (suc left) context = refl

pub at-line : {A : Type 0} (xs : List A) (n : ℕ) (x : A) → slice_get xs n ≡ Some x → drop n xs ≡ x ∷ drop (suc n) xs
at-line [] n x is = cc
at-line (y ∷ xs) zero x is = let same : y ≡ x = cc in ap (λ z. z ∷ xs) same
at-line (y ∷ xs) (suc n) x is = at-line xs n x is

pub past-lines : {A : Type 0} (xs : List A) (n : ℕ) → slice_get xs n ≡ None → drop n xs ≡ []
past-lines [] zero is = refl
past-lines [] (suc n) is = refl
past-lines (y ∷ xs) zero is = cc
past-lines (y ∷ xs) (suc n) is = past-lines xs n is

-- ---- An answer.

and-true : (b : Bool) → (b && true) ≡ b
and-true true = refl
and-true false = refl

-- a colour alone changes nothing but the colour
pub tinted-is : (colour : Colour) (entry : Entry) → carried_entry (colour_above colour) entry ≡ Ok (tinted_entry colour entry)
tinted-is colour (Drawn kind certified clip winding own source points) =
    ap (λ (is : Bool). Ok (Drawn kind is (clip && true) winding (under own colour) source points)) (and-true certified) ∙ ap (λ (is : Bool). Ok (Drawn kind certified is winding (under own colour) source points)) (and-true clip)
tinted-is colour (Part file own source) = refl

all-tinted : (colour : Colour) (entries : List Entry) → map (carried_outcome (colour_above colour)) (map Ok entries) ≡ map Ok (map (tinted_entry colour) entries)
all-tinted colour [] = refl
all-tinted colour (entry ∷ entries) =
    ap (λ o. o ∷ map (carried_outcome (colour_above colour)) (map Ok entries)) (tinted-is colour entry) ∙ ap (λ os. Ok (tinted_entry colour entry) ∷ os) (all-tinted colour entries)

ends-carried : (above : Above) (entries : List Entry) (end : Option Fault) → map (carried_outcome above) (map Ok entries ++ unless_fault end []) ≡ map (carried_outcome above) (map Ok entries) ++ unless_fault end []
ends-carried above [] None = refl
ends-carried above [] (Some fault) = refl
ends-carried above (entry ∷ entries) end = ap (λ os. carried_outcome above (Ok entry) ∷ os) (ends-carried above entries end)

entries-of : (entries : List Entry) (end : Option Fault) → entries_before (map Ok entries ++ unless_fault end []) ≡ entries
entries-of [] None = refl
entries-of [] (Some fault) = refl
entries-of (entry ∷ entries) end = ap (λ es. entry ∷ es) (entries-of entries end)

fault-of : (entries : List Entry) (end : Option Fault) → first_fault (map Ok entries ++ unless_fault end []) ≡ end
fault-of [] None = refl
fault-of [] (Some fault) = refl
fault-of (entry ∷ entries) end = fault-of entries end

pub answered-is : CutLaws → ActionLaw → (texts : NumberedTexts) (depth most left : ℕ) (root : TextId) (colour : Colour) (entries : List Entry) (end : Option Fault) → left ≡ depth - 1 → Gathers most [] entries end (all left (alone texts [] root)) → answer_by most (map (tinted_entry colour) entries) end ≡ answer texts depth most root colour
unfolding answer
answered-is cuts action texts depth most left root colour entries end is gives =
    let above = colour_above colour in
    let shown = map Ok entries ++ unless_fault end [] in
    let outcomes = all left (alone texts [] root) in
    let same : until_end most shown ≡ until_end most outcomes = gives [] ∙ ap (until_end most) (append-nil outcomes) in
    let below : answer_of most (map (carried_outcome above) shown) ≡ answer_of most (map (carried_outcome above) outcomes) =
    sym (cuts.answers most (map (carried_outcome above) shown)) ∙ ap (answer_of most) (sym (cuts.below most above shown) ∙ ap (λ os. until_end most (map (carried_outcome above) os)) same ∙ cuts.below most above outcomes) ∙ cuts.answers most (map (carried_outcome above) outcomes) in
    let tinted_shown : map (carried_outcome above) shown ≡ map Ok (map (tinted_entry colour) entries) ++ unless_fault end [] = ends-carried above entries end ∙ ap (λ os. os ++ unless_fault end []) (all-tinted colour entries) in
    sym (ap (λ es. answer_by most es (first_fault (map Ok (map (tinted_entry colour) entries) ++ unless_fault end []))) (entries-of (map (tinted_entry colour) entries) end) ∙ ap (answer_by most (map (tinted_entry colour) entries)) (fault-of (map (tinted_entry colour) entries) end))
    ∙ sym (ap (answer_of most) tinted_shown) ∙ below
    ∙ ap (answer_of most) (sym (action.from_nothing above left texts [] root))
    ∙ ap (λ n. answer_of most (all n (context_of texts [] root above))) is
