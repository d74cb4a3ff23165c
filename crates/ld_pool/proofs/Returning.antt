-- What `give_back` leaves.
use Rattle.std.proofs.Common.{◌≡◌, ℕ, suc, ◌+◌, ◌-◌, ◌<◌, List, None, cond, eqb, get_or, length, set, sym, ◌∙◌, ap, subst, refl, arith, inl, inr}
use Rattle.std.proofs.lemmas.Bool.{cases_eq}
use Rattle.std.proofs.lemmas.Bool.Decides.{nat_tests}
use Rattle.std.proofs.lemmas.List.{get_or-set_other, get_or-set_same, length-set}
use Rattle.std.proofs.lemmas.List.Sums.{sum_by-set}
use Rattle.ld_pool.specs.Inside.Blocks.{AreRuns, AreWithin, IsChain, behind, run_of, runs_in}
use Rattle.ld_pool.specs.Runs.{blocks_for}
use Rattle.ld_pool.proofs.Chains.{behind-within, chain-back, chain-first, chain-join, chain-none, chain-same, within-none, within-same}
use Rattle.ld_pool.proofs.Runs.{run-none, run-same, run-within, runs-set}

-- the owner and the rank of a block, once the blocks of one were given to another, in front of so many
unfoldable new_owner : ℕ → ℕ → ℕ → ℕ
new_owner from to owner = cond (eqb owner from) to owner

unfoldable new_rank : ℕ → ℕ → ℕ → ℕ → ℕ
new_rank from free owner rank = cond (eqb owner from) (rank + free) rank

marks-given : (from to free owner rank : ℕ) → owner ≡ from → (new_owner from to owner ≡ to) × (new_rank from free owner rank ≡ rank + free)
unfolding new_owner new_rank
marks-given from to free owner rank e = (grind (arith, nat_tests), grind (arith, nat_tests))

marks-other : (from to free owner rank : ℕ) → (owner ≡ from → ⊥) → (new_owner from to owner ≡ owner) × (new_rank from free owner rank ≡ rank)
unfolding new_owner new_rank
marks-other from to free owner rank h = (grind (arith, nat_tests), grind (arith, nat_tests))

pub record AfterReturn {T : Type 0} (items : List T) (next lens : List ℕ) (head free first count : ℕ) : Type 0 where
  pub pool : AreRuns items (set next (behind next (count - 1) first) head) (set lens first 0) first (free + count)
  pub within : (size : ℕ) → ((k : ℕ) → AreWithin next size (blocks_for (get_or lens k 0)) k) → (k : ℕ) → AreWithin (set next (behind next (count - 1) first) head) size (blocks_for (get_or (set lens first 0) k 0)) k
  pub runs : runs_in items (set next (behind next (count - 1) first) head) (set lens first 0) ≡ set (runs_in items next lens) first None

pub returned : {T : Type 0} (items : List T) (next lens : List ℕ) (head free first count : ℕ) → AreRuns items next lens head free → 0 < get_or lens first 0 → count ≡ blocks_for (get_or lens first 0) → AfterReturn items next lens head free first count
returned {T} items next lens head free first count pool some size =
    let here = run-within lens first some in
    let within : first < length next = omega (arith, here, pool.table) in
    let few : count ≡ suc (count - 1) = omega (arith, some, size) in
    let last = behind next (count - 1) first in
    let last-within = behind-within next pool.links (count - 1) first within in
    let next' = set next last head in
    let lens' = set lens first 0 in
    let sizes = length-set lens first 0 in
    let links-size = length-set next last head in
    let o = pool.apart.owner in
    let r = pool.apart.rank in
    let owner' : ℕ → ℕ = λ b. new_owner first (length lens') (o b) in
    let rank' : ℕ → ℕ = λ b. new_rank first free (o b) (r b) in
    let run : IsChain next o r first (suc (count - 1)) first = subst (λ (n : ℕ). IsChain next o r first n first) (sym size ∙ few) (pool.apart.run_chain first) in
    let end = chain-first next o r first 0 last (chain-back next o r first 1 (count - 1) (suc (count - 1)) first (omega arith) run) in
    let other : (b : ℕ) → (o b ≡ first → ⊥) → (get_or next' b 0 ≡ get_or next b 0) × (owner' b ≡ o b) × (rank' b ≡ r b) =
    (λ b apart.
    let kept = marks-other first (length lens') free (o b) (r b) apart in
    (get_or-set_other next last b head 0 (λ e. apart (ap o e ∙ end.0)), kept.0, kept.1)) in
    let free_end : IsChain next' owner' rank' (length lens') free head =
    chain-same next next' o r owner' rank' (length lens) (length lens') free head
    (λ b e h. let kept = other b (λ q. omega (arith, q, e, here)) in (kept.0, kept.1 ∙ (e ∙ sym sizes), kept.2))
    pool.apart.free_chain in
    let joined : IsChain next' owner' rank' (length lens') (free + count) first =
    chain-join next next' o r owner' rank' first (length lens') (count - 1) free (free + count) first head (omega (arith, few))
    (get_or-set_same next last head 0 last-within)
    (λ b e h. get_or-set_other next last b head 0 (λ q. omega (arith, ap r q, end.1, h)))
    (λ b e. marks-given first (length lens') free (o b) (r b) e)
    free_end run in
    let chains : (k : ℕ) → IsChain next' owner' rank' k (blocks_for (get_or lens' k 0)) k =
    (λ k. elim (cases_eq k first) [
      | inl e ↦
          let none : 0 ≡ get_or lens' k 0 = sym (ap (λ n. get_or lens' n 0) e ∙ get_or-set_same lens first 0 0 here) in
          subst (λ (n : ℕ). IsChain next' owner' rank' k (blocks_for n) k) none (chain-none next' owner' rank' k k)
      | inr apart ↦
          subst (λ (n : ℕ). IsChain next' owner' rank' k (blocks_for n) k) (sym (get_or-set_other lens first k 0 0 apart))
          (chain-same next next' o r owner' rank' k k (blocks_for (get_or lens k 0)) k
          (λ b e h. let kept = other b (λ q. apart (sym e ∙ q)) in (kept.0, kept.1 ∙ e, kept.2))
          (pool.apart.run_chain k))
    ]) in
    let stand : (size : ℕ) → ((k : ℕ) → AreWithin next size (blocks_for (get_or lens k 0)) k) → (k : ℕ) → AreWithin next' size (blocks_for (get_or lens' k 0)) k =
    (λ size within k. elim (cases_eq k first) [
      | inl e ↦
          let none : 0 ≡ get_or lens' k 0 = sym (ap (λ n. get_or lens' n 0) e ∙ get_or-set_same lens first 0 0 here) in
          subst (λ (n : ℕ). AreWithin next' size (blocks_for n) k) none (within-none next' size k)
      | inr apart ↦
          subst (λ (n : ℕ). AreWithin next' size (blocks_for n) k) (sym (get_or-set_other lens first k 0 0 apart))
          (within-same next next' o r k size (blocks_for (get_or lens k 0)) k (λ b e. (other b (λ q. apart (sym e ∙ q))).0) (pool.apart.run_chain k) (within k))
    ]) in
    let same : (k : ℕ) → (k ≡ first → ⊥) → run_of items next' lens' k ≡ run_of items next lens k =
    (λ k apart. run-same items items next next' lens lens' o r k (get_or-set_other lens first k 0 0 apart)
    (λ h b e. (refl, λ _. (other b (λ q. apart (sym e ∙ q))).0))
    (pool.apart.run_chain k)) in
    let low : head < length next = pool.begins (omega (arith, within)) in
    let steps : (k : ℕ) → k < length next' → get_or next' k 0 < length next' =
    (λ k h. elim (cases_eq k last) [
      | inl e ↦ omega (arith, ap (λ n. get_or next' n 0) e, get_or-set_same next last head 0 last-within, low, links-size)
      | inr apart ↦ omega (arith, get_or-set_other next last k head 0 apart, pool.links.within k (omega (arith, h, links-size)), links-size)
    ]) in
    let sums = sum_by-set blocks_for lens first 0 0 here in
    record {
      pool = record {
        size = omega (arith, pool.size, links-size);
        table = sizes ∙ (pool.table ∙ sym links-size);
        links = record { few = omega (arith, pool.links.few, links-size); within = steps };
        begins = λ _. omega (arith, within, links-size);
        sum = omega (arith, sums, pool.sum, size, links-size);
        apart = record { owner = owner'; rank = rank'; free_chain = joined; run_chain = chains };
      };
      within = stand;
      runs = runs-set items items next next' lens lens' first None sizes here (run-none items next' lens' first (get_or-set_same lens first 0 0 here)) same;
    }
