-- Outcomes gathered one after another, and entries carried where they stand.
use Rattle.std.proofs.Common.{◌≡◌, ◌<◌, ◌+◌, ℕ, zero, suc, List, [], ◌∷◌, ◌++◌, length, map, take, drop, Option, Some, None, Ok, Err, refl, ap, sym, ◌∙◌, append_assoc, arith}
use Rattle.std.specs.Option.{option_or}
use Rattle.std.proofs.lemmas.List.{append-nil, map-append}
use Rattle.std.proofs.Math.Seq.{drop-append_seam, take-append_seam}
use Rattle.ld_entry.specs.Answers.{until_end}
use Rattle.ld_entry.specs.Carrying.{Above, Outcome, carried_outcome, carried_entry}
use Rattle.ld_entry.specs.declared.entry.Entry.{Entry}
use Rattle.ld_entry.specs.declared.entry.Fault.{Fault}
use Rattle.ld_entry.specs.Laws.{CutLaws}
use Rattle.ld_engine.specs.Gathering.{CarriesFrom, Gathers, gathered, unless_fault}

-- ---- Entries carried where they stand.

module _ (above : Above) where
  -- an entry is refused
  pub refused : (entries : List Entry) (index : ℕ) (entry : Entry) (fault : Fault) (all : List Outcome) → drop index entries ≡ entry ∷ drop (suc index) entries → carried_entry above entry ≡ Err fault → map Ok (take index entries) ++ map (carried_outcome above) (map Ok (drop index entries)) ≡ all → (rest : List Outcome) × (map Ok (take index entries) ++ Err fault ∷ rest ≡ all)
  refused entries index entry fault all here refuses is = (
    map (carried_outcome above) (map Ok (drop (suc index) entries)),
    ap (λ outcome. map Ok (take index entries) ++ outcome ∷ map (carried_outcome above) (map Ok (drop (suc index) entries))) (sym refuses)
        ∙ ap (λ es. map Ok (take index entries) ++ map (carried_outcome above) (map Ok es)) (sym here) ∙ is,
  )

-- ---- Steps.

-- behind an entry too many nothing counts
pub full : (most : ℕ) (entries : List Entry) (xs ys : List Outcome) → most < length entries → until_end most (map Ok entries ++ xs) ≡ until_end most (map Ok entries ++ ys)
full most [] xs ys many = absurd (omega arith)
full zero (entry ∷ entries) xs ys many = refl
full (suc most) (entry ∷ entries) xs ys many = ap (λ zs. Ok entry ∷ zs) (full most entries xs ys (omega arith))

-- behind a fault nothing counts
pub faulted : (most : ℕ) (before : List Outcome) (fault : Fault) (xs ys : List Outcome) → until_end most (before ++ Err fault ∷ xs) ≡ until_end most (before ++ Err fault ∷ ys)
faulted most [] fault xs ys = refl
faulted most (Err x ∷ before) fault xs ys = refl
faulted zero (Ok entry ∷ before) fault xs ys = refl
faulted (suc most) (Ok entry ∷ before) fault xs ys = ap (λ zs. Ok entry ∷ zs) (faulted most before fault xs ys)

-- nothing is given
pub nothing-gathered : (most : ℕ) (entries : List Entry) → Gathers most entries entries None []
nothing-gathered most entries behind = refl

-- a fault is given
pub fault-gathered : (most : ℕ) (entries : List Entry) (end : Option Fault) (fault : Fault) (outcomes : List Outcome) → end ≡ Some fault → outcomes ≡ Err fault ∷ [] → Gathers most entries entries end outcomes
fault-gathered most entries end fault outcomes ends is behind =
    ap (λ e. gathered most entries e behind) ends ∙ faulted most (map Ok entries) fault [] behind ∙ ap (λ os. until_end most (map Ok entries ++ (os ++ behind))) (sym is)

-- one step after another
pub then-gathered : (most : ℕ) (old mid new : List Entry) (end : Option Fault) (first second : List Outcome) → Gathers most old mid None first → Gathers most mid new end second → Gathers most old new end (first ++ second)
then-gathered most old mid new end first second one two behind =
    two behind ∙ one (second ++ behind) ∙ ap (λ os. until_end most (map Ok old ++ os)) (sym (append_assoc first second behind))

-- an entry too many stands
pub full-gathered : (most : ℕ) (old new : List Entry) (first second : List Outcome) → most < length new → Gathers most old new None first → Gathers most old new None (first ++ second)
full-gathered most old new first second many one behind =
    full most new behind (second ++ behind) many ∙ one (second ++ behind) ∙ ap (λ os. until_end most (map Ok old ++ os)) (sym (append_assoc first second behind))

-- ---- What stands behind the entries of before.

-- cut alike behind the entries, cut alike
pub cut-from : (old : List Entry) (most left : ℕ) (xs ys : List Outcome) → most ≡ length old + left → until_end most (map Ok old ++ xs) ≡ until_end most (map Ok old ++ ys) → until_end left xs ≡ until_end left ys
cut-from [] most left xs ys is same = let all : left ≡ most = omega arith in ap (λ n. until_end n xs) all ∙ same ∙ sym (ap (λ n. until_end n ys) all)
cut-from (entry ∷ old) zero left xs ys is same = absurd (omega arith)
cut-from (entry ∷ old) (suc most) left xs ys is same =
    let rest : until_end most (map Ok old ++ xs) ≡ until_end most (map Ok old ++ ys) = cc in cut-from old most left xs ys (omega arith) rest

pub cut-onto : (old : List Entry) (most left : ℕ) (xs ys : List Outcome) → most ≡ length old + left → until_end left xs ≡ until_end left ys → until_end most (map Ok old ++ xs) ≡ until_end most (map Ok old ++ ys)
cut-onto [] most left xs ys is same = let all : most ≡ left = omega arith in ap (λ n. until_end n xs) all ∙ same ∙ sym (ap (λ n. until_end n ys) all)
cut-onto (entry ∷ old) zero left xs ys is same = absurd (omega arith)
cut-onto (entry ∷ old) (suc most) left xs ys is same =
    ap (λ zs. Ok entry ∷ zs) (cut-onto old most left xs ys (omega arith) same)

-- the end of an expansion, and what follows it
pub end-behind : (most : ℕ) (entries : List Entry) (end : Option Fault) (behind : List Outcome) → until_end most (map Ok entries ++ (unless_fault end [] ++ behind)) ≡ gathered most entries end behind
end-behind most entries None behind = refl
end-behind most entries (Some fault) behind = faulted most (map Ok entries) fault behind []

-- ---- A text below a reference.

module _ (cuts : CutLaws) (above : Above) (most left : ℕ) (base sub new : List Entry) (end refusal : Option Fault) (outcomes : List Outcome) (room : most ≡ length base + left) where
  carried-map : (entries : List Entry) → map (carried_outcome above) (map Ok entries ++ unless_fault end []) ≡ map (carried_outcome above) (map Ok entries) ++ unless_fault end []
  carried-map entries = map-append (carried_outcome above) (map Ok entries) (unless_fault end []) ∙ ap (λ os. map (carried_outcome above) (map Ok entries) ++ os) (by end)
    where
      by : (end : Option Fault) → map (carried_outcome above) (unless_fault end []) ≡ unless_fault end []
      by None = refl
      by (Some fault) = refl

  -- carried outcomes by carried entries
  carried-cut : Gathers most base (base ++ sub) end outcomes → (behind : List Outcome) → until_end most (map Ok base ++ (map (carried_outcome above) (map Ok sub) ++ (unless_fault end [] ++ behind))) ≡ until_end most (map Ok base ++ (map (carried_outcome above) outcomes ++ behind))
  carried-cut gives behind =
      let shown = map Ok sub ++ unless_fault end [] in
      let whole : until_end most (map Ok base ++ shown) ≡ until_end most (map Ok base ++ outcomes) =
      ap (until_end most) (sym (append_assoc (map Ok base) (map Ok sub) (unless_fault end [])) ∙ ap (λ os. os ++ unless_fault end []) (sym (map-append (λ entry. Ok entry) base sub))) ∙ gives [] ∙ ap (λ os. until_end most (map Ok base ++ os)) (append-nil outcomes) in
      let same : until_end left shown ≡ until_end left outcomes = cut-from base most left shown outcomes room whole in
      let below : until_end left (map (carried_outcome above) shown) ≡ until_end left (map (carried_outcome above) outcomes) = sym (cuts.below left above shown) ∙ ap (λ os. until_end left (map (carried_outcome above) os)) same ∙ cuts.below left above outcomes in
      let on : until_end left (map (carried_outcome above) shown ++ behind) ≡ until_end left (map (carried_outcome above) outcomes ++ behind) = sym (cuts.in_front left (map (carried_outcome above) shown) behind) ∙ ap (λ os. until_end left (os ++ behind)) below ∙ cuts.in_front left (map (carried_outcome above) outcomes) behind in
      ap (λ os. until_end most (map Ok base ++ os)) (sym (append_assoc (map (carried_outcome above) (map Ok sub)) (unless_fault end []) behind) ∙ ap (λ os. os ++ behind) (sym (carried-map sub)))
      ∙ cut-onto base most left _ _ room on

  -- the entries of before, and those behind them carried
  seams : map Ok (take (length base) (base ++ sub)) ++ map (carried_outcome above) (map Ok (drop (length base) (base ++ sub))) ≡ map Ok base ++ map (carried_outcome above) (map Ok sub)
  seams = ap (λ es. map Ok es ++ map (carried_outcome above) (map Ok (drop (length base) (base ++ sub)))) (take-append_seam base sub) ∙ ap (λ es. map Ok base ++ map (carried_outcome above) (map Ok es)) (drop-append_seam base sub)

  carried-all : (behind : List Outcome) → map Ok new ≡ map Ok base ++ map (carried_outcome above) (map Ok sub) → gathered most new end behind ≡ until_end most (map Ok base ++ (map (carried_outcome above) (map Ok sub) ++ (unless_fault end [] ++ behind)))
  carried-all behind all =
      sym (end-behind most new end behind) ∙ ap (λ os. until_end most (os ++ (unless_fault end [] ++ behind))) all ∙ ap (until_end most) (append_assoc (map Ok base) (map (carried_outcome above) (map Ok sub)) (unless_fault end [] ++ behind))

  carried-some : (behind rest : List Outcome) (fault : Fault) → map Ok new ++ Err fault ∷ rest ≡ map Ok base ++ map (carried_outcome above) (map Ok sub) → gathered most new (Some fault) behind ≡ until_end most (map Ok base ++ (map (carried_outcome above) (map Ok sub) ++ (unless_fault end [] ++ behind)))
  carried-some behind rest fault some =
      let more = unless_fault end [] ++ behind in
      faulted most (map Ok new) fault [] (rest ++ more) ∙ ap (until_end most) (sym (append_assoc (map Ok new) (Err fault ∷ rest) more)) ∙ ap (λ os. until_end most (os ++ more)) some ∙ ap (until_end most) (append_assoc (map Ok base) (map (carried_outcome above) (map Ok sub)) more)

  pub carried-gathered : Gathers most base (base ++ sub) end outcomes → CarriesFrom above (length base) (base ++ sub) new refusal → Gathers most base new (option_or refusal end) (map (carried_outcome above) outcomes)
  carried-gathered gives carries behind = by refusal carries ∙ carried-cut gives behind
    where
      by : (refusal : Option Fault) → CarriesFrom above (length base) (base ++ sub) new refusal → gathered most new (option_or refusal end) behind ≡ until_end most (map Ok base ++ (map (carried_outcome above) (map Ok sub) ++ (unless_fault end [] ++ behind)))
      by None all = carried-all behind (all ∙ seams)
      by (Some fault) some = carried-some behind some.0 fault (some.1 ∙ seams)
