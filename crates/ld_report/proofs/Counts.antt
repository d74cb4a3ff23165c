-- Uses are counted one after another.
use Rattle.std.proofs.Common.{◌≡◌, ℕ, ◌+◌, ◌≤◌, zero-add, Bool, true, false, not, if◌then◌else◌, List, [], ◌∷◌, ◌++◌, Option, None, Some, ap, append-nil, arith, cond, count_by, refl, subst, sym, ◌∙◌, true≢false, unwrap_or}
use Rattle.std.specs.Cmp.{IsEquivalence, nat_eq_equiv, on_equiv, and_equiv}
use Rattle.std.specs.List.{cons_option}
use Rattle.std.specs.Map.{lookup}
use Rattle.std.proofs.lemmas.List.Elements.{filter_map-append}
use Rattle.std.proofs.lemmas.List.Sums.{sum_by-append}
use Rattle.indexmap.specs.IndexMap.{insert_entry}
use Rattle.ld_entry.specs.declared.entry.Entry.{Entry}
use Rattle.ld_report.specs.Counting.{added, added_if, total}
use Rattle.ld_report.specs.Parts.{Use, but_for, colour_kind, colour_number, same_use, tallied, use_of, uses_in}

same_use-equiv : IsEquivalence same_use
same_use-equiv = and_equiv (on_equiv (λ used. used.0.0) nat_eq_equiv) (and_equiv (on_equiv (λ used. colour_kind used.1) nat_eq_equiv) (on_equiv (λ used. colour_number used.1) nat_eq_equiv))

insert_entry-added : (counts : List (Use × ℕ)) (used : Use) → insert_entry same_use counts used (unwrap_or (lookup (same_use used) counts) 0 + 1) ≡ added counts used
insert_entry-added [] used = refl
insert_entry-added (count ∷ counts) used = by (same_use used count.0) (insert_entry-added counts used)
  where
    by : (same : Bool) → insert_entry same_use counts used (unwrap_or (lookup (same_use used) counts) 0 + 1) ≡ added counts used
        → (if same then (count.0, unwrap_or (if same then Some count.1 else lookup (same_use used) counts) 0 + 1) ∷ counts else count ∷ insert_entry same_use counts used (unwrap_or (if same then Some count.1 else lookup (same_use used) counts) 0 + 1))
        ≡ (if same then (count.0, count.1 + 1) ∷ counts else count ∷ added counts used)
    by true rest = refl
    by false rest = ap (λ more. count ∷ more) rest

-- what is found is no more than all
lookup-total : (counts : List (Use × ℕ)) (used : Use) → unwrap_or (lookup (same_use used) counts) 0 ≤ total counts
lookup-total [] used = omega arith
lookup-total (count ∷ counts) used = by (same_use used count.0) (lookup-total counts used)
  where
    by : (same : Bool) → unwrap_or (lookup (same_use used) counts) 0 ≤ total counts → unwrap_or (if same then Some count.1 else lookup (same_use used) counts) 0 ≤ total (count ∷ counts)
    by true rest = let own : count.1 ≤ count.1 + total counts = omega arith in own
    by false rest = let more : unwrap_or (lookup (same_use used) counts) 0 ≤ count.1 + total counts = omega arith in more

-- an insertion of the count that was found and one more, under an equality that is that of uses
module _ (eq : Use → Use → Bool) (equal : (used other : Use) → eq used other ≡ same_use used other) where
  equality : same_use ≡ eq
  equality = sym (λ i used other. equal used other i)

  module _ (counts : List (Use × ℕ)) (used : Use) (before : ℕ) (is : before ≡ unwrap_or (lookup (eq used) counts) 0) where
    pub inserted : (new : List (Use × ℕ)) → new ≡ insert_entry eq counts used (before + 1) → new ≡ added counts used
    inserted new entries = entries ∙ ap (λ n. insert_entry eq counts used (n + 1)) is ∙ subst (λ (e : Use → Use → Bool). insert_entry e counts used (unwrap_or (lookup (e used) counts) 0 + 1) ≡ added counts used) equality (insert_entry-added counts used)

    pub bounded : before ≤ total counts
    bounded = subst (λ n. n ≤ total counts) (sym is) (subst (λ (e : Use → Use → Bool). unwrap_or (lookup (e used) counts) 0 ≤ total counts) equality (lookup-total counts used))

total-added : (counts : List (Use × ℕ)) (used : Use) → total (added counts used) ≡ total counts + 1
total-added [] used = omega arith
total-added (count ∷ counts) used = by (same_use used count.0) (total-added counts used)
  where
    by : (same : Bool) → total (added counts used) ≡ total counts + 1 → total (if same then (count.0, count.1 + 1) ∷ counts else count ∷ added counts used) ≡ total (count ∷ counts) + 1
    by true rest = let own : count.1 + 1 + total counts ≡ count.1 + total counts + 1 = omega arith in own
    by false rest = let more : count.1 + total (added counts used) ≡ count.1 + total counts + 1 = omega arith in more

pub total-added_if : (counts : List (Use × ℕ)) (used : Option Use) → total (added_if counts used) ≤ total counts + 1
total-added_if counts None = omega arith
total-added_if counts (Some used) = let one = total-added counts used in omega arith

-- one use more of what is left out changes nothing
but_for-added-same : (left used : Use) (counts : List (Use × ℕ)) → same_use left used ≡ true → but_for left (added counts used) ≡ but_for left counts
but_for-added-same left used [] same = ap (λ b. cond (not b) ((used, 1) ∷ []) []) same
but_for-added-same left used (count ∷ counts) same = by (same_use used count.0) (same_use-equiv.congr left used count.0 same) (but_for-added-same left used counts same)
  where
    by : (is : Bool) → same_use left count.0 ≡ is → but_for left (added counts used) ≡ but_for left counts
        → but_for left (if is then (count.0, count.1 + 1) ∷ counts else count ∷ added counts used) ≡ but_for left (count ∷ counts)
    by true is rest = rw is refl
    by false is rest = rw is (ap (λ more. count ∷ more) rest)

-- one use more of another
but_for-added-other : (left used : Use) (counts : List (Use × ℕ)) → same_use left used ≡ false → but_for left (added counts used) ≡ added (but_for left counts) used
but_for-added-other left used [] other = ap (λ b. cond (not b) ((used, 1) ∷ []) []) other
but_for-added-other left used (count ∷ counts) other = by (same_use used count.0) (same_use left count.0) refl refl (but_for-added-other left used counts other)
  where
    by : (is at : Bool) → same_use used count.0 ≡ is → same_use left count.0 ≡ at → but_for left (added counts used) ≡ added (but_for left counts) used
        → but_for left (if is then (count.0, count.1 + 1) ∷ counts else count ∷ added counts used) ≡ added (cond (not at) (count ∷ but_for left counts) (but_for left counts)) used
    by true true is at rest = absurd (true≢false (sym (sym (same_use-equiv.congr count.0 used left (same_use-equiv.symm count.0 used ∙ is) ∙ same_use-equiv.symm used left ∙ other) ∙ same_use-equiv.symm count.0 left ∙ at)))
    by true false is at rest = rw (at, is) refl
    by false true is at rest = rw at rest
    by false false is at rest = rw (at, is) (ap (λ more. count ∷ more) rest)

-- uses with one more
pub added-tallied : (uses : List Use) (used : Use) → added (tallied uses) used ≡ tallied (uses ++ used ∷ [])
added-tallied [] used = refl
added-tallied (first ∷ uses) used = by (same_use used first) (same_use-equiv.symm first used) (added-tallied uses used)
  where
    times : (is : Bool) → same_use first used ≡ is → count_by (same_use first) (uses ++ used ∷ []) ≡ count_by (same_use first) uses + cond is 1 0
    times is same = sum_by-append (λ other. cond (same_use first other) 1 0) uses (used ∷ []) ∙ ap (λ b. count_by (same_use first) uses + (0 + cond b 1 0)) same ∙ ap (λ more. count_by (same_use first) uses + more) (zero-add (cond is 1 0))

    by : (is : Bool) → same_use first used ≡ is → added (tallied uses) used ≡ tallied (uses ++ used ∷ [])
        → (if is then (first, 1 + count_by (same_use first) uses + 1) ∷ but_for first (tallied uses) else (first, 1 + count_by (same_use first) uses) ∷ added (but_for first (tallied uses)) used)
        ≡ tallied ((first ∷ uses) ++ used ∷ [])
    by true is rest =
        let more : 1 + count_by (same_use first) uses + 1 ≡ 1 + count_by (same_use first) (uses ++ used ∷ []) = let n = times true is in omega arith in
        let others : but_for first (tallied uses) ≡ but_for first (tallied (uses ++ used ∷ [])) = sym (but_for-added-same first used (tallied uses) is) ∙ ap (but_for first) rest in
        ap (λ n. (first, n) ∷ but_for first (tallied uses)) more ∙ ap (λ counts. (first, 1 + count_by (same_use first) (uses ++ used ∷ [])) ∷ counts) others
    by false is rest =
        let more : 1 + count_by (same_use first) uses ≡ 1 + count_by (same_use first) (uses ++ used ∷ []) = let n = times false is in omega arith in
        let others : added (but_for first (tallied uses)) used ≡ but_for first (tallied (uses ++ used ∷ [])) = sym (but_for-added-other first used (tallied uses) is) ∙ ap (but_for first) rest in
        ap (λ n. (first, n) ∷ added (but_for first (tallied uses)) used) more ∙ ap (λ counts. (first, 1 + count_by (same_use first) (uses ++ used ∷ [])) ∷ counts) others

-- entries with one more
pub added_if-entries : (entries : List Entry) (entry : Entry) → added_if (tallied (uses_in entries)) (use_of entry) ≡ tallied (uses_in (entries ++ entry ∷ []))
added_if-entries entries entry = by (use_of entry) ∙ ap tallied (sym (filter_map-append use_of entries (entry ∷ [])))
  where
    by : (used : Option Use) → added_if (tallied (uses_in entries)) used ≡ tallied (uses_in entries ++ cons_option used [])
    by None = ap tallied (sym (append-nil (uses_in entries)))
    by (Some used) = added-tallied (uses_in entries) used
