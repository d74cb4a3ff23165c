-- The table of a cache over a pool: a slot more, a slot less.
use Rattle.std.proofs.Common.{◌≡◌, ℕ, zero, suc, ◌+◌, ◌<◌, ◌≤◌, List, [], ◌∷◌, Option, Some, None, IsSome, cond, count_by, get_or, length, map, option_map, replicate, set, sym, ◌∙◌, ap, subst, refl, arith, inl, inr}
use Rattle.std.specs.List.{sum_by}
use Rattle.std.specs.Option.{is_some}
use Rattle.std.proofs.lemmas.Bool.{cases_eq, cases_lt}
use Rattle.std.proofs.lemmas.List.{get_or-map, get_or-replicate, get_or-set_other, get_or-set_same, get_or_past, length-map, length-replicate, length-set, map-set, set-get_or, set_past}
use Rattle.std.proofs.lemmas.List.Sums.{sum_by-set, sum_by_from}
use Rattle.std.proofs.lemmas.List.Folds.{sum_by-replicate}
use Rattle.std.proofs.lemmas.Option.{same_Some}
use Rattle.ld_pool.specs.Runs.{IsLive, IsStored, OthersStay, Pooled, Stays, all_free, list_of, without_run}
use Rattle.ld_entry.specs.declared.entry.Entry.{Entry}
use Rattle.ld_entry.specs.declared.entry.Expansion.{Expansion}
use Rattle.ld_cache.specs.declared.slot.Slot.{Slot}
use Rattle.ld_cache.specs.Kept.{blocks_in}
use Rattle.ld_cache.specs.Inside.Table.{IsTable, expansion_in, run_of, shown_in, whole}
use Rattle.ld_cache.proofs.Whole.{whole-at}

-- what is shown stays where the runs' lists do
shown-same : (pool new : Pooled Entry) (slots : List (Option Slot)) → ((text run : ℕ) → run_of slots text ≡ Some run → list_of new run ≡ list_of pool run) → map (shown_in new) slots ≡ map (shown_in pool) slots
shown-same pool new [] same = refl
shown-same pool new (None ∷ slots) same = ap (λ rest. None ∷ rest) (shown-same pool new slots (λ text run e. same (suc text) run e))
shown-same pool new (Some slot ∷ slots) same =
    let here = ap (λ entries. Some (record { entries = entries; line_ends = slot.line_ends; end = slot.end })) (same zero slot.run refl) in
    ap (λ first. first ∷ map (shown_in new) slots) here ∙ ap (λ rest. shown_in pool (Some slot) ∷ rest) (shown-same pool new slots (λ text run e. same (suc text) run e))

-- the run of a text after a change of one slot
run-same : (slots : List (Option Slot)) (text other : ℕ) (v : Option Slot) → (other ≡ text → ⊥) → run_of (set slots text v) other ≡ run_of slots other
run-same slots text other v apart = ap (option_map (λ (s : Slot). s.run)) (get_or-set_other slots text other v None apart)

run-here : (slots : List (Option Slot)) (text : ℕ) (v : Option Slot) → text < length slots → run_of (set slots text v) text ≡ option_map (λ (s : Slot). s.run) v
run-here slots text v within = ap (option_map (λ (s : Slot). s.run)) (get_or-set_same slots text v None within)

shown-at : (pool : Pooled Entry) (slots : List (Option Slot)) (text : ℕ) → text < length slots → get_or (map (shown_in pool) slots) text None ≡ shown_in pool (get_or slots text None)
shown-at pool slots text within = get_or-map (shown_in pool) slots text None None within

pub record AfterKeep (pool new : Pooled Entry) (slots : List (Option Slot)) (text : ℕ) (slot : Slot) (entries : List Entry) : Type 0 where
  pub table : IsTable new (set slots text (Some slot))
  pub shown : map (shown_in new) (set slots text (Some slot)) ≡ set (map (shown_in pool) slots) text (Some (record { entries = entries; line_ends = slot.line_ends; end = slot.end }))

pub kept-in : (pool new : Pooled Entry) (slots : List (Option Slot)) (text : ℕ) (slot : Slot) (entries : List Entry) → IsTable pool slots → text < length slots → get_or (map (shown_in pool) slots) text None ≡ None → IsStored pool slot.run entries new → AfterKeep pool new slots text slot entries
kept-in pool new slots text slot entries table within vacant stores =
    let slots' = set slots text (Some slot) in
    let shown = map (shown_in pool) slots in
    let kept : Option Expansion = Some (record { entries = entries; line_ends = slot.line_ends; end = slot.end }) in
    let here : run_of slots' text ≡ Some slot.run = run-here slots text (Some slot) within in
    let stays : (other run : ℕ) → run_of slots other ≡ Some run → Stays pool new run = (λ other run e. stores.others run (table.live other run e)) in
    let same = shown-same pool new slots (λ other run e. (stays other run e).list) in
    let list : list_of new slot.run ≡ entries = stores.holds in
    let sizes : length new.runs ≡ length pool.runs = ap length stores.runs ∙ length-set pool.runs slot.run (Some entries) in
    let now : shown_in new (Some slot) ≡ kept = ap (λ list. Some (record { entries = list; line_ends = slot.line_ends; end = slot.end })) list in
    let view : map (shown_in new) slots' ≡ set shown text kept = map-set (shown_in new) slots text (Some slot) ∙ (ap (λ all. set all text (shown_in new (Some slot))) same ∙ ap (λ v. set shown text v) now) in
    let sums = sum_by-set blocks_in shown text kept None (omega (arith, within, length-map slots (shown_in pool))) in
    record {
      table = record {
        live = λ other run e. elim (cases_eq other text) [
          | inl q ↦
              let is : slot.run ≡ run = same_Some slot.run run (sym here ∙ (ap (run_of slots') (sym q) ∙ e)) in
              subst (λ (k : ℕ). IsLive new k) is (subst (λ (o : Option (List Entry)). IsSome o) (sym stores.live) refl)
          | inr apart ↦ (stays other run (sym (run-same slots text other (Some slot) apart) ∙ e)).live
        ];
        apart = λ other third run e f h.
            let low : run < length pool.runs = omega (arith, h, sizes) in
            let past : (k : ℕ) → run_of slots k ≡ Some run → slot.run ≡ run → ⊥ = (λ k g q. omega (arith, (stores.apart run (table.live k run g)).apart (sym q), low, q, sizes)) in
            elim (cases_eq other text) [
              | inl q ↦
                  let is : slot.run ≡ run = same_Some slot.run run (sym here ∙ (ap (run_of slots') (sym q) ∙ e)) in
                  elim (cases_eq third text) [ inl r ↦ q ∙ sym r | inr apart ↦ absurd (past third (sym (run-same slots text third (Some slot) apart) ∙ f) is) ]
              | inr apart ↦
                  let g = sym (run-same slots text other (Some slot) apart) ∙ e in
                  elim (cases_eq third text) [
                    | inl r ↦ absurd (past other g (same_Some slot.run run (sym here ∙ (ap (run_of slots') (sym r) ∙ f))))
                    | inr apart_too ↦ table.apart other third run g (sym (run-same slots text third (Some slot) apart_too) ∙ f) low
                  ]
            ];
        sum = omega (arith, ap (sum_by blocks_in) view, sums, ap blocks_in vacant, table.sum, stores.free, sizes);
      };
      shown = view;
    }

pub record AfterForget (pool : Pooled Entry) (slots : List (Option Slot)) (text run : ℕ) : Type 0 where
  pub table : IsTable (without_run pool run) (set slots text None)
  pub shown : map (shown_in (without_run pool run)) (set slots text None) ≡ set (map (shown_in pool) slots) text None

pub forgot-in : (pool : Pooled Entry) (slots : List (Option Slot)) (text : ℕ) (slot : Slot) → IsTable pool slots → OthersStay pool slot.run (without_run pool slot.run) → text < length slots → get_or slots text None ≡ Some slot → AfterForget pool slots text slot.run
forgot-in pool slots text slot table stay within had =
    let run = slot.run in
    let new = without_run pool run in
    let slots' = set slots text None in
    let shown = map (shown_in pool) slots in
    let here : run_of slots text ≡ Some run = ap (option_map (λ (s : Slot). s.run)) had in
    let gone : run_of slots' text ≡ None = run-here slots text None within in
    let others : (other k : ℕ) → run_of slots' other ≡ Some k → (other ≡ text → ⊥) × (run_of slots other ≡ Some k) =
    (λ other k e. elim (cases_eq other text) [
      | inl q ↦ let e : None ≡ Some k = sym gone ∙ (ap (run_of slots') (sym q) ∙ e) in absurd cc
      | inr apart ↦ (apart, sym (run-same slots text other None apart) ∙ e)
    ]) in
    let stays : (other k : ℕ) → run_of slots' other ≡ Some k → Stays pool new k =
    (λ other k e.
    let o = others other k e in
    let past : k ≡ run → length pool.runs ≤ run = (λ q. elim (cases_lt run (length pool.runs)) [
      | inl below ↦ absurd (o.0 (table.apart other text k o.1 (here ∙ ap (λ n. Some n) (sym q)) (omega (arith, below, q))))
      | inr above ↦ above
    ]) in
    stay k (record { live = table.live other k o.1; apart = past })) in
    let view : map (shown_in new) slots' ≡ set shown text None = shown-same pool new slots' (λ other k e. (stays other k e).list) ∙ map-set (shown_in pool) slots text None in
    let sums = sum_by-set blocks_in shown text None None (omega (arith, within, length-map slots (shown_in pool))) in
    let was : get_or shown text None ≡ Some (expansion_in pool slot) = shown-at pool slots text within ∙ ap (shown_in pool) had in
    record {
      table = record {
        live = λ other k e. (stays other k e).live;
        apart = λ other third k e f h.
            let low : k < length pool.runs = omega (arith, h, length-set pool.runs run None) in
            table.apart other third k (others other k e).1 (others third k f).1 low;
        sum = omega (arith, ap (sum_by blocks_in) view, sums, ap blocks_in was, table.sum, length-set pool.runs run None);
      };
      shown = view;
    }

-- nothing is kept
pub shown-none : (pool : Pooled Entry) (texts : ℕ) → map (shown_in pool) (replicate texts None) ≡ replicate texts None
shown-none pool zero = refl
shown-none pool (suc texts) = ap (λ rest. None ∷ rest) (shown-none pool texts)

pub fresh-table : (blocks texts : ℕ) → IsTable (all_free blocks) (replicate texts None)
fresh-table blocks texts =
    let none : (text run : ℕ) → run_of (replicate texts None) text ≡ Some run → ⊥ =
    (λ text run e.
    let nothing : get_or (replicate texts None) text None ≡ None = elim (cases_lt text texts) [
      | inl below ↦ get_or-replicate texts text None None below
      | inr past ↦ get_or_past (replicate texts None) text None (omega (arith, past, length-replicate {A = Option Slot} texts None))
    ] in
    let e : None ≡ Some run = sym (ap (option_map (λ (s : Slot). s.run)) nothing) ∙ e in
    cc) in
    record {
      live = λ text run e. absurd (none text run e);
      apart = λ text other run e f h. absurd (none text run e);
      sum = omega (arith, ap (sum_by blocks_in) (shown-none (all_free blocks) texts), sum_by-replicate blocks_in texts None, length-replicate {A = Option (List Entry)} blocks None);
    }

-- how many expansions are shown
pub count-shown : (pool : Pooled Entry) (slots : List (Option Slot)) → count_by is_some (map (shown_in pool) slots) ≡ count_by is_some slots
count-shown pool [] = refl
count-shown pool (None ∷ slots) = count-shown pool slots
count-shown pool (Some slot ∷ slots) =
    sum_by_from (λ (x : Option Expansion). cond (is_some x) 1 0) 1 (map (shown_in pool) slots)
    ∙ (ap (λ n. 1 + n) (count-shown pool slots) ∙ sym (sum_by_from (λ (x : Option Slot). cond (is_some x) 1 0) 1 slots))

-- what is shown of a text
pub kept_at : (pool : Pooled Entry) (slots : List (Option Slot)) (texts text : ℕ) → get_or (map (shown_in pool) (whole slots texts)) text None ≡ shown_in pool (get_or slots text None)
kept_at pool slots texts text =
    let table = whole slots texts in
    elim (cases_lt text (length table)) [
      | inl below ↦ shown-at pool table text below ∙ ap (shown_in pool) (whole-at slots texts text)
      | inr past ↦
          let nothing : get_or slots text None ≡ None = sym (whole-at slots texts text) ∙ get_or_past table text None past in
          get_or_past (map (shown_in pool) table) text None (omega (arith, past, length-map table (shown_in pool))) ∙ ap (shown_in pool) (sym nothing)
    ]

pub none-behind : (pool : Pooled Entry) (slots : List (Option Slot)) (texts text : ℕ) → length slots ≤ text → get_or (map (shown_in pool) (whole slots texts)) text None ≡ None
none-behind pool slots texts text h = kept_at pool slots texts text ∙ ap (shown_in pool) (get_or_past slots text None h)

-- nothing to forget
pub set-none : (kept : List (Option Expansion)) (text : ℕ) → get_or kept text None ≡ None → set kept text None ≡ kept
set-none kept text e =
    elim (cases_lt text (length kept)) [
      | inl below ↦ ap (set kept text) (sym e) ∙ set-get_or kept text None
      | inr past ↦ set_past kept text None past
    ]
