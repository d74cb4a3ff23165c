-- What `store` leaves.
use Rattle.std.proofs.Common.{◌≡◌, ℕ, zero, suc, ◌+◌, ◌-◌, ◌<◌, ◌≤◌, List, Some, cond, eqb, leb, get_or, length, set, sym, ◌∙◌, ap, subst, refl, arith, inl, inr}
use Rattle.std.proofs.lemmas.Bool.{cases_eq, cases_lt}
use Rattle.std.proofs.lemmas.Bool.Decides.{nat_tests}
use Rattle.std.proofs.lemmas.List.{get_or-set_other, get_or-set_same, get_or_past, length-set}
use Rattle.std.proofs.lemmas.List.Sums.{sum_by-set}
use Rattle.ld_pool.specs.Inside.Blocks.{AreRuns, AreWithin, IsChain, behind, filled, gathered, list_at, run_of, runs_in}
use Rattle.ld_pool.specs.Runs.{blocks_for}
use Rattle.ld_pool.proofs.Chains.{behind-within, chain-back, chain-front, chain-same, within-longer}
use Rattle.ld_pool.proofs.Contents.{blocks-enough, filled-other, gathered-filled, tables-filled}
use Rattle.ld_pool.proofs.Runs.{run-same, run-some, runs-set, tables-of}

-- the owner and the rank of a block, once the free blocks from `more` on were given to another
unfoldable new_owner : ℕ → ℕ → ℕ → ℕ → ℕ → ℕ
new_owner from to more owner rank = cond (eqb owner from) (cond (leb more rank) to owner) owner

unfoldable new_rank : ℕ → ℕ → ℕ → ℕ → ℕ
new_rank from more owner rank = cond (eqb owner from) (cond (leb more rank) (rank - more) rank) rank

marks-taken : (from to more owner rank : ℕ) → owner ≡ from → more ≤ rank → (new_owner from to more owner rank ≡ to) × (new_rank from more owner rank + more ≡ rank)
unfolding new_owner new_rank
marks-taken from to more owner rank e h = (grind (arith, nat_tests), grind (arith, nat_tests))

marks-kept : (from to more owner rank : ℕ) → rank < more → (new_owner from to more owner rank ≡ owner) × (new_rank from more owner rank ≡ rank)
unfolding new_owner new_rank
marks-kept from to more owner rank h = (grind (arith, nat_tests), grind (arith, nat_tests))

marks-other : (from to more owner rank : ℕ) → (owner ≡ from → ⊥) → (new_owner from to more owner rank ≡ owner) × (new_rank from more owner rank ≡ rank)
unfolding new_owner new_rank
marks-other from to more owner rank h = (grind (arith, nat_tests), grind (arith, nat_tests))

chain-owner : (next : List ℕ) (owner rank : ℕ → ℕ) (whose count block : ℕ) → 0 < count → IsChain next owner rank whose count block → owner block ≡ whose
unfolding IsChain
chain-owner next owner rank whose zero block h chain = absurd (omega (arith, h))
chain-owner next owner rank whose (suc count) block h chain = chain.0

-- no run begins at the first free block
pub free-vacant : {T : Type 0} (items : List T) (next lens : List ℕ) (head free : ℕ) → AreRuns items next lens head free → 0 < free → get_or lens head 0 ≡ 0
free-vacant items next lens head free pool some =
    elim (cases_eq (get_or lens head 0) 0) [
      | inl e ↦ e
      | inr apart ↦
          let size = get_or lens head 0 in
          let by_run = chain-owner next pool.apart.owner pool.apart.rank head (blocks_for size) head (omega (arith, apart)) (pool.apart.run_chain head) in
          let by_free = chain-owner next pool.apart.owner pool.apart.rank (length lens) free head some pool.apart.free_chain in
          let within = pool.begins (omega (arith, pool.sum, some)) in
          absurd (omega (arith, by_run, by_free, within, pool.table))
    ]

pub record AfterStore {T : Type 0} (items : List T) (next lens : List ℕ) (head free : ℕ) (list : List T) (count : ℕ) : Type 0 where
  pub pool : AreRuns (filled items next count head list) next (set lens head (length list)) (behind next count head) (free - count)
  pub runs : runs_in (filled items next count head list) next (set lens head (length list)) ≡ set (runs_in items next lens) head (Some list)

pub stored : {T : Type 0} (items : List T) (next lens : List ℕ) (head free : ℕ) (list : List T) (count : ℕ) → AreRuns items next lens head free → 0 < length list → count ≡ blocks_for (length list) → count ≤ free → AfterStore items next lens head free list count
stored {T} items next lens head free list count pool some size enough =
    let len = length list in
    let more = free - count in
    let tables = tables-of items next lens head free pool in
    let few : 0 < count = omega (arith, some, size) in
    let within = pool.begins (omega (arith, pool.sum, few, enough)) in
    let here : head < length lens = omega (arith, within, pool.table) in
    let o = pool.apart.owner in
    let r = pool.apart.rank in
    let owner' : ℕ → ℕ = λ b. new_owner (length lens) head more (o b) (r b) in
    let rank' : ℕ → ℕ = λ b. new_rank (length lens) more (o b) (r b) in
    let lens' = set lens head len in
    let items' = filled items next count head list in
    let sizes = length-set lens head len in
    let front : IsChain next owner' rank' head count head = chain-front next o r owner' rank' (length lens) head more count free head (omega (arith, enough)) (λ b e h. marks-taken (length lens) head more (o b) (r b) e h) pool.apart.free_chain in
    let back : IsChain next owner' rank' (length lens') more (behind next count head) =
    chain-same next next o r owner' rank' (length lens) (length lens') more (behind next count head)
    (λ b e h. let kept = marks-kept (length lens) head more (o b) (r b) h in (refl, kept.0 ∙ (e ∙ sym sizes), kept.1))
    (chain-back next o r (length lens) more count free head (omega (arith, enough)) pool.apart.free_chain) in
    let other : (k : ℕ) → (0 < get_or lens k 0) → (b : ℕ) → o b ≡ k → (owner' b ≡ k) × (rank' b ≡ r b) =
    (λ k h b e.
    let low : k < length lens = elim (cases_lt k (length lens)) [ inl below ↦ below | inr past ↦ absurd (omega (arith, h, get_or_past lens k 0 past)) ] in
    let kept = marks-other (length lens) head more (o b) (r b) (λ q. omega (arith, q, e, low)) in
    (kept.0 ∙ e, kept.1)) in
    let chains : (k : ℕ) → IsChain next owner' rank' k (blocks_for (get_or lens' k 0)) k =
    (λ k. elim (cases_eq k head) [
      | inl e ↦
          let n : count ≡ blocks_for (get_or lens' head 0) = size ∙ ap blocks_for (sym (get_or-set_same lens head len 0 here)) in
          subst (λ (j : ℕ). IsChain next owner' rank' j (blocks_for (get_or lens' j 0)) j) (sym e) (subst (λ (n : ℕ). IsChain next owner' rank' head n head) n front)
      | inr apart ↦
          subst (λ (n : ℕ). IsChain next owner' rank' k (blocks_for n) k) (sym (get_or-set_other lens head k len 0 apart))
          (chain-same next next o r owner' rank' k k (blocks_for (get_or lens k 0)) k
          (λ b e h. let kept = other k (omega (arith, h)) b e in (refl, kept.0, kept.1))
          (pool.apart.run_chain k))
    ]) in
    let same : (k : ℕ) → (k ≡ head → ⊥) → run_of items' next lens' k ≡ run_of items next lens k =
    (λ k apart. run-same items items' next next lens lens' o r k (get_or-set_other lens head k len 0 apart)
    (λ h b e. (filled-other items next owner' rank' head count head list b within tables (λ q. absurd (apart (sym (other k h b e).0 ∙ q))) front, λ _. refl))
    (pool.apart.run_chain k)) in
    let at : run_of items' next lens' head ≡ Some list =
    let l = get_or-set_same lens head len 0 here in
    run-some items' next lens' head (omega (arith, l, some)) ∙ (ap (λ n. Some (list_at items' next head n)) l
    ∙ ap Some (ap (λ (n : ℕ). gathered items' next n head len) (sym size) ∙ gathered-filled items next owner' rank' head count head list len within tables front refl (omega (arith, size, blocks-enough len)))) in
    let after = tables-filled items next count head list within tables in
    let sums = sum_by-set blocks_for lens head len 0 here in
    let vacant = free-vacant items next lens head free pool (omega (arith, few, enough)) in
    record {
      pool = record {
        size = after.size;
        table = sizes ∙ pool.table;
        links = pool.links;
        begins = λ _. behind-within next pool.links count head within;
        sum = omega (arith, sums, pool.sum, size, enough, ap blocks_for vacant);
        apart = record { owner = owner'; rank = rank'; free_chain = back; run_chain = chains };
      };
      runs = runs-set items items' next next lens lens' head (Some list) sizes here at same;
    }

-- the runs that stood before, and the new one
pub stored-within : (next lens : List ℕ) (size more head len : ℕ) → size ≤ more → head < length lens → ((k : ℕ) → AreWithin next size (blocks_for (get_or lens k 0)) k) → AreWithin next more (blocks_for len) head → (k : ℕ) → AreWithin next more (blocks_for (get_or (set lens head len) k 0)) k
stored-within next lens size more head len h here within new k =
    elim (cases_eq k head) [
      | inl e ↦
          let same : len ≡ get_or (set lens head len) k 0 = sym (ap (λ n. get_or (set lens head len) n 0) e ∙ get_or-set_same lens head len 0 here) in
          subst (λ (n : ℕ). AreWithin next more (blocks_for n) k) same (subst (λ (b : ℕ). AreWithin next more (blocks_for len) b) (sym e) new)
      | inr apart ↦
          subst (λ (n : ℕ). AreWithin next more (blocks_for n) k) (sym (get_or-set_other lens head k len 0 apart)) (within-longer next size more (blocks_for (get_or lens k 0)) k h (within k))
    ]
