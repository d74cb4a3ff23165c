-- What callers are told of a run that is stored or given back: the other live runs stay.
use Rattle.std.proofs.Common.{◌≡◌, ℕ, ◌+◌, ◌<◌, ◌≤◌, List, [], Option, Some, None, IsSome, true, false, get_or, length, set, sym, ◌∙◌, ap, subst, refl, inl, inr, unwrap_or, arith}
use Rattle.std.proofs.lemmas.Bool.{cases_eq, cases_lt}
use Rattle.std.proofs.lemmas.List.{get_or-set_other, get_or-set_same, get_or_default, get_or_past, length-set, nil_from_length, set_past}
use Rattle.std.proofs.lemmas.Option.{same_Some}
use Rattle.ld_pool.specs.Runs.{Pooled, IsLive, IsStored, OthersStay, Stays, blocks_for, list_of, without_run}

pub set-others : {T : Type 0} (old new : Pooled T) (run other : ℕ) (v : Option (List T)) → new.runs ≡ set old.runs run v → (other ≡ run → length old.runs ≤ run) → IsLive old other → Stays old new other
set-others {T} old new run other v e past live =
    let same : (d : Option (List T)) → get_or new.runs other d ≡ get_or old.runs other d =
    (λ d. ap (λ runs. get_or runs other d) e ∙ elim (cases_eq other run) [
      | inl q ↦ ap (λ runs. get_or runs other d) (set_past old.runs run v (past q))
      | inr apart ↦ get_or-set_other old.runs run other v d apart
    ]) in
    record { live = subst (λ (o : Option (List T)). IsSome o) (sym (same (Some []))) live; list = ap (λ o. unwrap_or o []) (same None) }

-- a run that is stored is no other live run, unless it has no items
pub vacant-apart : {T : Type 0} (old : Pooled T) (run other : ℕ) → get_or old.runs run None ≡ None → IsLive old other → other ≡ run → length old.runs ≤ run
vacant-apart {T} old run other vacant live q =
    elim (cases_lt run (length old.runs)) [
      | inl below ↦
          let none : get_or old.runs other (Some []) ≡ None = ap (λ k. get_or old.runs k (Some [])) q ∙ (get_or_default old.runs run (Some []) None below ∙ vacant) in
          let e : false ≡ true = subst (λ (o : Option (List T)). IsSome o) none live in
          absurd cc
      | inr past ↦ past
    ]

pub live-list : {T : Type 0} (pool : Pooled T) (run : ℕ) (list : List T) → get_or pool.runs run (Some []) ≡ Some list → list_of pool run ≡ list
live-list pool run list e =
    elim (cases_lt run (length pool.runs)) [
      | inl below ↦ ap (λ o. unwrap_or o []) (get_or_default pool.runs run None (Some []) below ∙ e)
      | inr past ↦ ap (λ o. unwrap_or o []) (get_or_past pool.runs run None past) ∙ same_Some [] list (sym (get_or_past pool.runs run (Some []) past) ∙ e)
    ]

-- all that is said of a run once it is stored
pub stores : {T : Type 0} (old new : Pooled T) (run : ℕ) (list : List T) → get_or old.runs run None ≡ None → new.runs ≡ set old.runs run (Some list) → get_or new.runs run (Some []) ≡ Some list → new.free + blocks_for (length list) ≡ old.free → IsStored old run list new
stores old new run list vacant runs live free =
    record {
      vacant = vacant;
      runs = runs;
      live = live;
      holds = live-list new run list live;
      free = free;
      others = λ other is_live. set-others old new run other (Some list) runs (vacant-apart old run other vacant is_live) is_live;
      apart = λ other is_live. record {
        live = (set-others old new run other (Some list) runs (vacant-apart old run other vacant is_live) is_live).live;
        apart = λ e. omega (arith, vacant-apart old run other vacant is_live e, ap length runs, length-set old.runs run (Some list));
      };
    }

-- a list of no items is stored in a run that begins at no block
pub stores-none : {T : Type 0} (old : Pooled T) (run : ℕ) (list : List T) → length old.runs ≤ run → length list ≡ 0 → IsStored old run list old
stores-none old run list past none =
    stores old old run list (get_or_past old.runs run None past) (sym (set_past old.runs run (Some list) past)) (get_or_past old.runs run (Some []) past ∙ ap Some (sym (nil_from_length list none))) (omega (arith, none))

-- a list is stored in a run that begins at a block
pub stores-some : {T : Type 0} (old new : Pooled T) (run : ℕ) (list : List T) → run < length old.runs → get_or old.runs run None ≡ None → new.runs ≡ set old.runs run (Some list) → new.free + blocks_for (length list) ≡ old.free → IsStored old run list new
stores-some old new run list within vacant runs free =
    stores old new run list vacant runs (rw runs (get_or-set_same old.runs run (Some list) (Some []) within)) free

pub others-stay : {T : Type 0} (old : Pooled T) (run : ℕ) → OthersStay old run (without_run old run)
others-stay old run other is = set-others old (without_run old run) run other None refl is.apart is.live
