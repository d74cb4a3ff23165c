-- Live runs beside one another, as they are stored and given back.
use Rattle.std.proofs.Common.{IsSome, Option, ◌≡◌, ℕ, zero, suc, ◌<◌, List, [], ◌∷◌, ◌++◌, Some, None, get_or, length, sym, ◌∙◌, ap, subst, refl, arith}
use Rattle.std.specs.List.{remove}
use Rattle.std.proofs.lemmas.List.{length-set}
use Rattle.ld_pool.specs.Runs.{AreLive, AreOthers, IsLive, IsOther, IsStored, OthersStay, Pooled, without_run}

-- the same, seen from the other one
turned : {T : Type 0} (pool : Pooled T) (run other : ℕ) → IsLive pool run → IsOther pool run other → IsOther pool other run
turned pool run other live is = record { live = live; apart = λ e. omega (arith, e, is.apart (sym e)) }

pub live_none : {T : Type 0} (pool : Pooled T) → AreLive pool []
unfolding AreLive
live_none pool = tt

-- the run at a place, with those before and behind it
pub live_at : {T : Type 0} (pool : Pooled T) (runs : List ℕ) (at d : ℕ) → at < length runs → AreLive pool runs → IsLive pool (get_or runs at d)
unfolding AreLive
live_at pool [] at d h live = absurd (omega (arith, h))
live_at pool (run ∷ runs) zero d h live = live.0
live_at pool (run ∷ runs) (suc at) d h live = live_at pool runs at d (omega (arith, h)) live.2

other-at : {T : Type 0} (pool : Pooled T) (run : ℕ) (runs : List ℕ) (at d : ℕ) → at < length runs → AreOthers pool run runs → IsOther pool run (get_or runs at d)
unfolding AreOthers
other-at pool run [] at d h others = absurd (omega (arith, h))
other-at pool run (other ∷ runs) zero d h others = others.0
other-at pool run (other ∷ runs) (suc at) d h others = other-at pool run runs at d (omega (arith, h)) others.1

others-left : {T : Type 0} (pool : Pooled T) (run : ℕ) (runs : List ℕ) (at : ℕ) → AreOthers pool run runs → AreOthers pool run (remove runs at)
unfolding AreOthers
others-left pool run [] zero others = others
others-left pool run [] (suc at) others = others
others-left pool run (other ∷ runs) zero others = others.1
others-left pool run (other ∷ runs) (suc at) others = (others.0, others-left pool run runs at others.1)

pub others-of : {T : Type 0} (pool : Pooled T) (runs : List ℕ) (at d : ℕ) → at < length runs → AreLive pool runs → AreOthers pool (get_or runs at d) (remove runs at)
unfolding AreLive AreOthers
others-of pool [] at d h live = absurd (omega (arith, h))
others-of pool (run ∷ runs) zero d h live = live.1
others-of pool (run ∷ runs) (suc at) d h live =
    let within : at < length runs = omega (arith, h) in
    (turned pool run (get_or runs at d) live.0 (other-at pool run runs at d within live.1), others-of pool runs at d within live.2)

pub live-left : {T : Type 0} (pool : Pooled T) (runs : List ℕ) (at : ℕ) → AreLive pool runs → AreLive pool (remove runs at)
unfolding AreLive
live-left pool [] zero live = live
live-left pool [] (suc at) live = live
live-left pool (run ∷ runs) zero live = live.2
live-left pool (run ∷ runs) (suc at) live = (live.0, others-left pool run runs at live.1, live-left pool runs at live.2)

-- after a run was given back
others-after : {T : Type 0} (old new : Pooled T) (gone run : ℕ) (runs : List ℕ) → length new.runs ≡ length old.runs → OthersStay old gone new → AreOthers old gone runs → AreOthers old run runs → AreOthers new run runs
unfolding AreOthers
others-after old new gone run [] size stay beside others = tt
others-after old new gone run (other ∷ runs) size stay beside others =
    (record { live = (stay other beside.0).live; apart = λ e. omega (arith, others.0.apart e, size) }, others-after old new gone run runs size stay beside.1 others.1)

pub live-after : {T : Type 0} (old new : Pooled T) (gone : ℕ) (runs : List ℕ) → length new.runs ≡ length old.runs → OthersStay old gone new → AreOthers old gone runs → AreLive old runs → AreLive new runs
unfolding AreLive AreOthers
live-after old new gone [] size stay beside live = tt
live-after old new gone (run ∷ runs) size stay beside live =
    ((stay run beside.0).live, others-after old new gone run runs size stay beside.1 live.1, live-after old new gone runs size stay beside.1 live.2)

pub length-without : {T : Type 0} (pool : Pooled T) (run : ℕ) → length (without_run pool run).runs ≡ length pool.runs
length-without pool run = length-set pool.runs run None

-- after a run was stored
others-stored : {T : Type 0} (old new : Pooled T) (stored run : ℕ) (list : List T) (runs : List ℕ) → IsStored old stored list new → length new.runs ≡ length old.runs → IsLive old run → AreOthers old run runs → AreOthers new run (runs ++ stored ∷ [])
unfolding AreOthers
others-stored {T} old new stored run list [] is size live others =
    let here = is.apart run live in
    (turned new stored run (subst (λ (o : Option (List T)). IsSome o) (sym is.live) refl) here, tt)
others-stored old new stored run list (other ∷ runs) is size live others =
    (record { live = (is.others other others.0.live).live; apart = λ e. omega (arith, others.0.apart e, size) }, others-stored old new stored run list runs is size live others.1)

pub live-stored : {T : Type 0} (old new : Pooled T) (stored : ℕ) (list : List T) (runs : List ℕ) → IsStored old stored list new → AreLive old runs → AreLive new (runs ++ stored ∷ [])
unfolding AreLive AreOthers
live-stored {T} old new stored list [] is live = (subst (λ (o : Option (List T)). IsSome o) (sym is.live) refl, tt, tt)
live-stored old new stored list (run ∷ runs) is live =
    ((is.others run live.0).live, others-stored old new stored run list runs is (ap length is.runs ∙ length-set old.runs stored (Some list)) live.0 live.1, live-stored old new stored list runs is live.2)
