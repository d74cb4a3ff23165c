-- Outcomes gathered one after another, and entries carried where they stand.
use Rattle.std.proofs.Common.{◌≡◌, ◌≤◌, ◌<◌, ◌+◌, ℕ, zero, suc, List, [], ◌∷◌, ◌++◌, length, map, take, drop, Option, Some, None, Ok, Err, refl, ap, sym, ◌∙◌, append_assoc, arith}
use Rattle.std.specs.Option.{option_or}
use Rattle.std.proofs.lemmas.List.{append-nil, length-append, length-map, map-append}
use Rattle.std.proofs.Math.Seq.{drop-append_seam, take-append_seam}
use Rattle.ld_entry.specs.Answers.{until_end}
use Rattle.ld_entry.specs.Carrying.{Above, Outcome, carried_outcome, carried_entry}
use Rattle.ld_entry.specs.declared.entry.Entry.{Entry}
use Rattle.ld_entry.specs.declared.entry.Fault.{Fault}
use Rattle.ld_entry.specs.Laws.{at_end, CutLaws}
use Rattle.ld_work.specs.Inside.Gathering.{CarriesFrom, Gathers, IsWithin, gathered, shown}

-- ---- Entries carried where they stand.

module _ (above : Above) where
  -- an entry is refused
  pub refused : (entries : List Entry) (index : ℕ) (entry : Entry) (fault : Fault) (all : List Outcome) → drop index entries ≡ entry ∷ drop (suc index) entries → carried_entry above entry ≡ Err fault → map Ok (take index entries) ++ map (carried_outcome above) (map Ok (drop index entries)) ≡ all → (rest : List Outcome) × (map Ok (take index entries) ++ Err fault ∷ rest ≡ all)
  refused entries index entry fault all here refuses is = (
    map (carried_outcome above) (map Ok (drop (suc index) entries)),
    ap (λ outcome. map Ok (take index entries) ++ outcome ∷ map (carried_outcome above) (map Ok (drop (suc index) entries))) (sym refuses)
        ∙ ap (λ es. map Ok (take index entries) ++ map (carried_outcome above) (map Ok es)) (sym here) ∙ is,
  )

-- ---- Steps.

-- behind an entry too many nothing counts
pub full : (most : ℕ) (entries : List Entry) (xs ys : List Outcome) → most < length entries → until_end most (map Ok entries ++ xs) ≡ until_end most (map Ok entries ++ ys)
full most [] xs ys many = absurd (omega arith)
full zero (entry ∷ entries) xs ys many = refl
full (suc most) (entry ∷ entries) xs ys many = ap (λ zs. Ok entry ∷ zs) (full most entries xs ys (omega arith))

-- behind a fault nothing counts
pub faulted : (most : ℕ) (before : List Outcome) (fault : Fault) (xs ys : List Outcome) → until_end most (before ++ Err fault ∷ xs) ≡ until_end most (before ++ Err fault ∷ ys)
faulted most [] fault xs ys = refl
faulted most (Err x ∷ before) fault xs ys = refl
faulted zero (Ok entry ∷ before) fault xs ys = refl
faulted (suc most) (Ok entry ∷ before) fault xs ys = ap (λ zs. Ok entry ∷ zs) (faulted most before fault xs ys)

-- one step after another
pub then-gathered : (most : ℕ) (old mid new : List Entry) (end : Option Fault) (first second : List Outcome) → Gathers most old mid None first → Gathers most mid new end second → Gathers most old new end (first ++ second)
then-gathered most old mid new end first second one two behind =
    two behind ∙ one (second ++ behind) ∙ ap (λ os. until_end most (map Ok old ++ os)) (sym (append_assoc first second behind))

-- an entry too many stands
pub full-gathered : (most : ℕ) (old new : List Entry) (first second : List Outcome) → most < length new → Gathers most old new None first → Gathers most old new None (first ++ second)
full-gathered most old new first second many one behind =
    full most new behind (second ++ behind) many ∙ one (second ++ behind) ∙ ap (λ os. until_end most (map Ok old ++ os)) (sym (append_assoc first second behind))

-- a fault stands
pub ended-gathered : (most : ℕ) (old new : List Entry) (fault : Fault) (first second : List Outcome) → Gathers most old new (Some fault) first → Gathers most old new (Some fault) (first ++ second)
ended-gathered most old new fault first second one behind =
    faulted most (map Ok new) fault behind (second ++ behind) ∙ one (second ++ behind) ∙ ap (λ os. until_end most (map Ok old ++ os)) (sym (append_assoc first second behind))

-- what is cut nowhere is all
cut-nowhere : (most : ℕ) (entries : List Entry) (outcomes : List Outcome) → length entries ≤ most → until_end most (map Ok entries) ≡ until_end most outcomes → map Ok entries ≡ outcomes
cut-nowhere most [] [] few same = refl
cut-nowhere most [] (Err fault ∷ outcomes) few same = cc
cut-nowhere zero [] (Ok entry ∷ outcomes) few same = cc
cut-nowhere (suc most) [] (Ok entry ∷ outcomes) few same = cc
cut-nowhere zero (entry ∷ entries) outcomes few same = absurd (omega arith)
cut-nowhere (suc most) (entry ∷ entries) [] few same = cc
cut-nowhere (suc most) (entry ∷ entries) (Err fault ∷ outcomes) few same = cc
cut-nowhere (suc most) (entry ∷ entries) (Ok other ∷ outcomes) few same =
    let first : entry ≡ other = cc in
    let rest : until_end most (map Ok entries) ≡ until_end most outcomes = cc in
    ap (λ e. Ok e ∷ map Ok entries) first ∙ ap (λ os. Ok other ∷ os) (cut-nowhere most entries outcomes (omega arith) rest)

-- where no entry too many stands, nothing was left out
pub all-gathered : (most : ℕ) (old new : List Entry) (outcomes : List Outcome) → length new ≤ most → Gathers most old new None outcomes → map Ok new ≡ map Ok old ++ outcomes
all-gathered most old new outcomes few gives =
    let same : until_end most (map Ok new) ≡ until_end most (map Ok old ++ outcomes) = ap (until_end most) (sym (append-nil (map Ok new))) ∙ gives [] ∙ ap (λ os. until_end most (map Ok old ++ os)) (append-nil outcomes) in
    cut-nowhere most new (map Ok old ++ outcomes) few same

-- ---- What stands behind the entries of before.

-- cut alike behind the entries, cut alike
pub cut-from : (old : List Entry) (most left : ℕ) (xs ys : List Outcome) → most ≡ length old + left → until_end most (map Ok old ++ xs) ≡ until_end most (map Ok old ++ ys) → until_end left xs ≡ until_end left ys
cut-from [] most left xs ys is same = let all : left ≡ most = omega arith in ap (λ n. until_end n xs) all ∙ same ∙ sym (ap (λ n. until_end n ys) all)
cut-from (entry ∷ old) zero left xs ys is same = absurd (omega arith)
cut-from (entry ∷ old) (suc most) left xs ys is same =
    let rest : until_end most (map Ok old ++ xs) ≡ until_end most (map Ok old ++ ys) = cc in cut-from old most left xs ys (omega arith) rest

pub cut-onto : (old : List Entry) (most left : ℕ) (xs ys : List Outcome) → most ≡ length old + left → until_end left xs ≡ until_end left ys → until_end most (map Ok old ++ xs) ≡ until_end most (map Ok old ++ ys)
cut-onto [] most left xs ys is same = let all : most ≡ left = omega arith in ap (λ n. until_end n xs) all ∙ same ∙ sym (ap (λ n. until_end n ys) all)
cut-onto (entry ∷ old) zero left xs ys is same = absurd (omega arith)
cut-onto (entry ∷ old) (suc most) left xs ys is same =
    ap (λ zs. Ok entry ∷ zs) (cut-onto old most left xs ys (omega arith) same)

-- ---- A text below a reference.

module _ (cuts : CutLaws) (above : Above) (most left : ℕ) (base sub new : List Entry) (end refusal : Option Fault) (outcomes : List Outcome) (room : most ≡ length base + left) where
  carried-map : (entries : List Entry) → map (carried_outcome above) (map Ok entries ++ at_end end) ≡ map (carried_outcome above) (map Ok entries) ++ at_end end
  carried-map entries = map-append (carried_outcome above) (map Ok entries) (at_end end) ∙ ap (λ os. map (carried_outcome above) (map Ok entries) ++ os) (by end)
    where
      by : (end : Option Fault) → map (carried_outcome above) (at_end end) ≡ at_end end
      by None = refl
      by (Some fault) = refl

  -- carried outcomes by carried entries
  carried-cut : Gathers most base (base ++ sub) end outcomes → (behind : List Outcome) → until_end most (map Ok base ++ (map (carried_outcome above) (map Ok sub) ++ (at_end end ++ behind))) ≡ until_end most (map Ok base ++ (map (carried_outcome above) outcomes ++ behind))
  carried-cut gives behind =
      let whole_sub = shown sub end in
      let whole : until_end most (map Ok base ++ whole_sub) ≡ until_end most (map Ok base ++ outcomes) =
      ap (until_end most) (sym (append_assoc (map Ok base) (map Ok sub) (at_end end)) ∙ ap (λ os. os ++ at_end end) (sym (map-append (λ entry. Ok entry) base sub)) ∙ ap (λ os. map Ok (base ++ sub) ++ os) (sym (append-nil (at_end end)))) ∙ gives [] ∙ ap (λ os. until_end most (map Ok base ++ os)) (append-nil outcomes) in
      let same : until_end left whole_sub ≡ until_end left outcomes = cut-from base most left whole_sub outcomes room whole in
      let below : until_end left (map (carried_outcome above) whole_sub) ≡ until_end left (map (carried_outcome above) outcomes) = sym (cuts.below left above whole_sub) ∙ ap (λ os. until_end left (map (carried_outcome above) os)) same ∙ cuts.below left above outcomes in
      let on : until_end left (map (carried_outcome above) whole_sub ++ behind) ≡ until_end left (map (carried_outcome above) outcomes ++ behind) = sym (cuts.in_front left (map (carried_outcome above) whole_sub) behind) ∙ ap (λ os. until_end left (os ++ behind)) below ∙ cuts.in_front left (map (carried_outcome above) outcomes) behind in
      ap (λ os. until_end most (map Ok base ++ os)) (sym (append_assoc (map (carried_outcome above) (map Ok sub)) (at_end end) behind) ∙ ap (λ os. os ++ behind) (sym (carried-map sub)))
      ∙ cut-onto base most left _ _ room on

  -- the entries of before, and those behind them carried
  seams : map Ok (take (length base) (base ++ sub)) ++ map (carried_outcome above) (map Ok (drop (length base) (base ++ sub))) ≡ map Ok base ++ map (carried_outcome above) (map Ok sub)
  seams = ap (λ es. map Ok es ++ map (carried_outcome above) (map Ok (drop (length base) (base ++ sub)))) (take-append_seam base sub) ∙ ap (λ es. map Ok base ++ map (carried_outcome above) (map Ok es)) (drop-append_seam base sub)

  carried-all : (behind : List Outcome) → map Ok new ≡ map Ok base ++ map (carried_outcome above) (map Ok sub) → gathered most new end behind ≡ until_end most (map Ok base ++ (map (carried_outcome above) (map Ok sub) ++ (at_end end ++ behind)))
  carried-all behind all =
      ap (λ os. until_end most (os ++ (at_end end ++ behind))) all ∙ ap (until_end most) (append_assoc (map Ok base) (map (carried_outcome above) (map Ok sub)) (at_end end ++ behind))

  carried-some : (behind rest : List Outcome) (fault : Fault) → map Ok new ++ Err fault ∷ rest ≡ map Ok base ++ map (carried_outcome above) (map Ok sub) → gathered most new (Some fault) behind ≡ until_end most (map Ok base ++ (map (carried_outcome above) (map Ok sub) ++ (at_end end ++ behind)))
  carried-some behind rest fault some =
      let more = at_end end ++ behind in
      faulted most (map Ok new) fault behind (rest ++ more) ∙ ap (until_end most) (sym (append_assoc (map Ok new) (Err fault ∷ rest) more)) ∙ ap (λ os. until_end most (os ++ more)) some ∙ ap (until_end most) (append_assoc (map Ok base) (map (carried_outcome above) (map Ok sub)) more)

  pub carried-gathered : Gathers most base (base ++ sub) end outcomes → CarriesFrom above (length base) (base ++ sub) new refusal → Gathers most base new (option_or refusal end) (map (carried_outcome above) outcomes)
  carried-gathered gives carries behind = by refusal carries ∙ carried-cut gives behind
    where
      by : (refusal : Option Fault) → CarriesFrom above (length base) (base ++ sub) new refusal → gathered most new (option_or refusal end) behind ≡ until_end most (map Ok base ++ (map (carried_outcome above) (map Ok sub) ++ (at_end end ++ behind)))
      by None all = carried-all behind (all ∙ seams)
      by (Some fault) some = carried-some behind some.0 fault (some.1 ∙ seams)

  -- the carried entries are no more
  carried-length : length (map Ok base ++ map (carried_outcome above) (map Ok sub)) ≡ length (base ++ sub)
  carried-length =
      length-append (map Ok base) (map (carried_outcome above) (map Ok sub))
      ∙ ap (λ n. n + length (map (carried_outcome above) (map Ok sub))) (length-map base Ok)
      ∙ ap (λ n. length base + n) (length-map (map Ok sub) (carried_outcome above) ∙ length-map sub Ok)
      ∙ sym (length-append base sub)

  pub carried-within : IsWithin most (base ++ sub) end → CarriesFrom above (length base) (base ++ sub) new refusal → IsWithin most new (option_or refusal end)
  carried-within within carries = by refusal carries
    where
      by : (refusal : Option Fault) → CarriesFrom above (length base) (base ++ sub) new refusal → IsWithin most new (option_or refusal end)
      by None all =
          let same : length new ≡ length (base ++ sub) = sym (length-map new Ok) ∙ ap length (all ∙ seams) ∙ carried-length in
          omega arith
      by (Some fault) some =
          let same : length new + length (Err fault ∷ some.0) ≡ length (base ++ sub) = ap (λ n. n + length (Err fault ∷ some.0)) (sym (length-map new Ok)) ∙ sym (length-append (map Ok new) (Err fault ∷ some.0)) ∙ ap length (some.1 ∙ seams) ∙ carried-length in
          omega arith

-- ---- What is kept, behind the entries so far.

regroup : (old own : List Entry) (ends behind : List Outcome) → map Ok (old ++ own) ++ (ends ++ behind) ≡ map Ok old ++ ((map Ok own ++ ends) ++ behind)
regroup [] own ends behind = sym (append_assoc (map Ok own) ends behind)
regroup (entry ∷ old) own ends behind = ap (λ os. Ok entry ∷ os) (regroup old own ends behind)

module _ (most : ℕ) (old own : List Entry) (end : Option Fault) where
  pub some-taken : (first rest new : List Entry) → first ++ rest ≡ own → new ≡ old ++ first → most < length new → Gathers most old new None (shown own end)
  some-taken first rest new parts is many behind =
      let all : new ++ rest ≡ old ++ own = ap (λ es. es ++ rest) is ∙ append_assoc old first rest ∙ ap (λ es. old ++ es) parts in
      full most new behind (map Ok rest ++ (at_end end ++ behind)) many
      ∙ ap (until_end most) (sym (append_assoc (map Ok new) (map Ok rest) (at_end end ++ behind)) ∙ ap (λ os. os ++ (at_end end ++ behind)) (sym (map-append (λ entry. Ok entry) new rest)) ∙ ap (λ es. map Ok es ++ (at_end end ++ behind)) all ∙ regroup old own (at_end end) behind)

-- a cut that leaves as much stands for all
pub cut-gathered : CutLaws → (most more : ℕ) (old new : List Entry) (end : Option Fault) (outcomes : List Outcome) → most ≤ more → Gathers most old new end (until_end more outcomes) → Gathers most old new end outcomes
cut-gathered cuts most more old new end outcomes le gives behind =
    let same : until_end most (until_end more outcomes ++ behind) ≡ until_end most (outcomes ++ behind) = sym (cuts.in_front most (until_end more outcomes) behind) ∙ ap (λ os. until_end most (os ++ behind)) (cuts.longer most more outcomes le) ∙ cuts.in_front most outcomes behind in
    gives behind ∙ sym (cuts.behind most (map Ok old) (until_end more outcomes ++ behind)) ∙ ap (λ os. until_end most (map Ok old ++ os)) same ∙ cuts.behind most (map Ok old) (outcomes ++ behind)
