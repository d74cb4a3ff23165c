-- The runs that a pool's tables hold.
use Rattle.std.proofs.Common.{◌≡◌, ℕ, ◌+◌, ◌*◌, ◌-◌, ◌<◌, ◌≤◌, List, [], min, Option, Some, None, true, false, IsSome, ◌^◌, replicate, get_or, length, map, set, sum, take, sym, ◌∙◌, ap, subst, refl, arith, inl, inr, unwrap_or, ◌==◌, if◌then◌else◌}
use Rattle.std.specs.List.{sum_by}
use Rattle.std.proofs.lemmas.Bool.{cases_eq, cases_lt}
use Rattle.std.proofs.lemmas.Bool.Decides.{nat_tests}
use Rattle.std.proofs.lemmas.List.{ext_get_or, get_or-map, get_or-set_other, get_or-set_same, get_or_default, get_or_past, get_or-replicate, length-map, length-replicate, length-set, set_past}
use Rattle.std.proofs.lemmas.List.FromFn.{get_or-map-range_with_len, length-map-range_with_len}
use Rattle.std.proofs.lemmas.List.Sums.{sum-map}
use Rattle.std.proofs.lemmas.List.Folds.{sum_by-replicate}
use Rattle.ld_pool.specs.Inside.Blocks.{AreRuns, AreWithin, IsChain, IsPool, linked_up, list_at, run_of, runs_in}
use Rattle.ld_pool.specs.Runs.{Pooled, IsLive, blocks_for, blocks_of, list_of, without_run}
use Rattle.ld_pool.proofs.Blank.{length-whole}
use Rattle.ld_pool.proofs.Contents.{AreTables, SameBlock, blocks-enough, take-gathered, gathered-same, length-list_at, list_at-none}
use Rattle.ld_pool.proofs.Chains.{chain-none, chain-up, within-none}

pub tables-of : {T : Type 0} (items : List T) (next lens : List ℕ) (head free : ℕ) → AreRuns items next lens head free → AreTables items next
tables-of items next lens head free pool = record { size = pool.size; links = pool.links }

pub run-none : {T : Type 0} (items : List T) (next lens : List ℕ) (k : ℕ) → get_or lens k 0 ≡ 0 → run_of items next lens k ≡ None
run-none items next lens k e = rw e refl

choose : {T : Type 0} (n : ℕ) (x : Option T) → 0 < n → (if n == 0 then None else x) ≡ x
choose n x h = grind (arith, nat_tests)

pub run-some : {T : Type 0} (items : List T) (next lens : List ℕ) (k : ℕ) → 0 < get_or lens k 0 → run_of items next lens k ≡ Some (list_at items next k (get_or lens k 0))
run-some items next lens k h = choose (get_or lens k 0) (Some (list_at items next k (get_or lens k 0))) h

pub run-within : (lens : List ℕ) (k : ℕ) → 0 < get_or lens k 0 → k < length lens
run-within lens k h =
    elim (cases_lt k (length lens)) [ inl below ↦ below | inr past ↦ absurd (omega (arith, h, get_or_past lens k 0 past)) ]

pub length-runs_in : {T : Type 0} (items : List T) (next lens : List ℕ) → length (runs_in items next lens) ≡ length lens
length-runs_in items next lens = length-map-range_with_len (run_of items next lens) 0 (length lens)

pub get_or-runs_in : {T : Type 0} (items : List T) (next lens : List ℕ) (k : ℕ) → get_or (runs_in items next lens) k None ≡ run_of items next lens k
get_or-runs_in items next lens k =
    elim (cases_lt k (length lens)) [
      | inl below ↦ get_or-map-range_with_len (run_of items next lens) 0 (length lens) k k None below (omega arith)
      | inr past ↦ get_or_past (runs_in items next lens) k None (omega (arith, length-runs_in items next lens, past)) ∙ sym (run-none items next lens k (get_or_past lens k 0 past))
    ]

-- the tables after a change of one run
pub runs-set : {T : Type 0} (items more : List T) (next after lens lens' : List ℕ) (k : ℕ) (v : Option (List T)) → length lens' ≡ length lens → k < length lens → run_of more after lens' k ≡ v → ((b : ℕ) → (b ≡ k → ⊥) → run_of more after lens' b ≡ run_of items next lens b) → runs_in more after lens' ≡ set (runs_in items next lens) k v
runs-set items more next after lens lens' k v size within here others =
    let lengths = length-runs_in items next lens in
    ext_get_or None (runs_in more after lens') (set (runs_in items next lens) k v)
    (length-runs_in more after lens' ∙ (size ∙ (sym lengths ∙ sym (length-set (runs_in items next lens) k v))))
    (λ i h. elim (cases_eq i k) [
      | inl e ↦ get_or-runs_in more after lens' i ∙ (ap (run_of more after lens') e ∙ (here ∙ (sym (get_or-set_same (runs_in items next lens) k v None (omega (arith, lengths, within))) ∙ ap (λ n. get_or (set (runs_in items next lens) k v) n None) (sym e))))
      | inr apart ↦ get_or-runs_in more after lens' i ∙ (others i apart ∙ (sym (get_or-runs_in items next lens i) ∙ sym (get_or-set_other (runs_in items next lens) k i v None apart)))
    ])

pub length-run : {T : Type 0} (items : List T) (next lens : List ℕ) (head free k : ℕ) → AreRuns items next lens head free → length (unwrap_or (run_of items next lens k) []) ≡ get_or lens k 0
length-run items next lens head free k pool =
    elim (cases_eq (get_or lens k 0) 0) [
      | inl e ↦ rw (run-none items next lens k e) (sym e)
      | inr apart ↦
          let pos : 0 < get_or lens k 0 = omega (arith, apart) in
          rw (run-some items next lens k pos) (length-list_at items next k (get_or lens k 0) (omega (arith, run-within lens k pos, pool.table)) (tables-of items next lens head free pool))
    ]

pub sum-runs : {T : Type 0} (items : List T) (next lens : List ℕ) (head free : ℕ) → AreRuns items next lens head free → sum_by (blocks_of {T = T}) (runs_in items next lens) ≡ sum_by blocks_for lens
sum-runs {T} items next lens head free pool =
    let runs = runs_in items next lens in
    let size = length-runs_in items next lens in
    let same = ext_get_or 0 (map (blocks_of {T = T}) runs) (map blocks_for lens)
    (length-map runs (blocks_of {T = T}) ∙ (size ∙ sym (length-map lens blocks_for)))
    (λ i h.
    let within : i < length runs = omega (arith, h, length-map runs (blocks_of {T = T})) in
    get_or-map (blocks_of {T = T}) runs i None 0 within
    ∙ (ap (blocks_of {T = T}) (get_or-runs_in items next lens i)
    ∙ (ap blocks_for (length-run items next lens head free i pool)
    ∙ sym (get_or-map blocks_for lens i 0 0 (omega (arith, within, size)))))) in
    sym (sum-map (blocks_of {T = T}) runs) ∙ (ap sum same ∙ sum-map blocks_for lens)

-- a run stays where its blocks do
pub run-same : {T : Type 0} (items more : List T) (next after lens lens' : List ℕ) (owner rank : ℕ → ℕ) (k : ℕ) → get_or lens' k 0 ≡ get_or lens k 0 → (0 < get_or lens k 0 → (b : ℕ) → owner b ≡ k → SameBlock items more b × ((0 < rank b) → get_or after b 0 ≡ get_or next b 0)) → IsChain next owner rank k (blocks_for (get_or lens k 0)) k → run_of more after lens' k ≡ run_of items next lens k
run-same items more next after lens lens' owner rank k e same chain =
    elim (cases_eq (get_or lens k 0) 0) [
      | inl none ↦ run-none more after lens' k (e ∙ none) ∙ sym (run-none items next lens k none)
      | inr apart ↦
          let pos : 0 < get_or lens k 0 = omega (arith, apart) in
          let lists = gathered-same items more next after owner rank k (blocks_for (get_or lens k 0)) k (get_or lens k 0) (λ b o r. same pos b o) chain in
          run-some more after lens' k (omega (arith, e, pos)) ∙ (ap (λ n. Some (list_at more after k n)) e ∙ (ap Some lists ∙ sym (run-some items next lens k pos)))
    ]

-- the list of a run, by the tables
pub list_of-is : {T : Type 0} (items : List T) (next lens : List ℕ) (free k : ℕ) → list_of (record { runs = runs_in items next lens; free = free }) k ≡ list_at items next k (get_or lens k 0)
list_of-is items next lens free k =
    ap (λ run. unwrap_or run []) (get_or-runs_in items next lens k)
    ∙ elim (cases_eq (get_or lens k 0) 0) [
      | inl e ↦ ap (λ run. unwrap_or run []) (run-none items next lens k e) ∙ (sym (list_at-none items next k) ∙ ap (list_at items next k) (sym e))
      | inr apart ↦ ap (λ run. unwrap_or run []) (run-some items next lens k (omega (arith, apart)))
    ]

pub length-list_of : {T : Type 0} (items : List T) (next lens : List ℕ) (head free k : ℕ) → AreRuns items next lens head free → length (list_of (record { runs = runs_in items next lens; free = free }) k) ≡ get_or lens k 0
length-list_of items next lens head free k pool =
    ap (λ run. length (unwrap_or run [])) (get_or-runs_in items next lens k) ∙ length-run items next lens head free k pool

-- the first items of a run
pub take-list_of : {T : Type 0} (items : List T) (next lens : List ℕ) (head free k count : ℕ) → AreRuns items next lens head free → count ≤ get_or lens k 0 → take count (list_of (record { runs = runs_in items next lens; free = free }) k) ≡ list_at items next k count
take-list_of items next lens head free k count pool less =
    let n = get_or lens k 0 in
    ap (take count) (list_of-is items next lens free k)
    ∙ elim (cases_eq count 0) [
      | inl e ↦ ap (λ i. take i (list_at items next k n)) e ∙ (sym (list_at-none items next k) ∙ ap (list_at items next k) (sym e))
      | inr apart ↦
          let within = run-within lens k (omega (arith, apart, less)) in
          take-gathered items next (blocks_for n) k n count (omega (arith, within, pool.table)) (tables-of items next lens head free pool) (blocks-enough n) less
    ]

-- a live run of no items begins at no block
pub live-past : {T : Type 0} (items : List T) (next lens : List ℕ) (k : ℕ) → IsSome (get_or (runs_in items next lens) k (Some [])) → get_or lens k 0 ≡ 0 → length lens ≤ k
live-past items next lens k live e =
    elim (cases_lt k (length lens)) [
      | inl below ↦
          let none = get_or_default (runs_in items next lens) k (Some []) None (omega (arith, below, length-runs_in items next lens)) ∙ (get_or-runs_in items next lens k ∙ run-none items next lens k e) in
          let e : false ≡ true = rw none at live in
          absurd cc
      | inr past ↦ past
    ]

-- the pool without_run a run of no items
pub without_run-none : {T : Type 0} (items : List T) (next lens : List ℕ) (free k : ℕ) → IsLive (record { runs = runs_in items next lens; free = free }) k → get_or lens k 0 ≡ 0 → ◌≡◌ {A = Pooled T} (record { runs = runs_in items next lens; free = free }) (without_run (record { runs = runs_in items next lens; free = free }) k)
without_run-none {T} items next lens free k live e =
    let past = live-past items next lens k live e in
    let same = sym (set_past (runs_in items next lens) k None (omega (arith, past, length-runs_in items next lens))) in
    let none = list_of-is items next lens free k ∙ (ap (list_at items next k) e ∙ list_at-none items next k) in
    let more : free ≡ free + blocks_for (length (list_of (record { runs = runs_in items next lens; free = free }) k)) = omega (arith, ap (λ xs. blocks_for (length xs)) none) in
    ap (λ runs. record { runs = runs; free = free }) same ∙ ap (λ n. record { runs = set (runs_in items next lens) k None; free = n }) more

sum-none : (n : ℕ) → sum_by blocks_for (replicate n 0) ≡ 0
sum-none n = omega (arith, sum_by-replicate blocks_for n 0)

-- fresh tables
pub fresh : {T : Type 0} (items : List T) (blank : T) (capacity : ℕ) (next lens : List ℕ) (blocks : ℕ) → blocks < 2 ^ 32 → items ≡ [] → 256 * blocks ≤ capacity → next ≡ linked_up blocks → lens ≡ replicate blocks 0 → IsPool items blank capacity next lens 0 blocks
fresh {T} items blank capacity next lens blocks few empty room links table =
    let links-size : length next ≡ blocks = ap length links ∙ length-map-range_with_len (λ b. min (b + 1) (blocks - 1)) 0 blocks in
    let table-size : length lens ≡ blocks = ap length table ∙ length-replicate blocks 0 in
    let up : (k : ℕ) → k < length next → get_or next k 0 ≡ min (k + 1) (length next - 1) =
    (λ k h. ap (λ xs. get_or xs k 0) links ∙ (get_or-map-range_with_len (λ b. min (b + 1) (blocks - 1)) 0 blocks k k 0 (omega (arith, h, links-size)) (omega arith) ∙ ap (λ n. min (k + 1) (n - 1)) (sym links-size))) in
    let none : (k : ℕ) → get_or lens k 0 ≡ 0 =
    (λ k. elim (cases_lt k blocks) [
      | inl below ↦ ap (λ xs. get_or xs k 0) table ∙ get_or-replicate blocks k 0 0 below
      | inr past ↦ get_or_past lens k 0 (omega (arith, past, table-size))
    ]) in
    record {
      runs = record {
        size = length-whole items blank (256 * length next) (omega (arith, ap length empty));
        table = table-size ∙ sym links-size;
        links = record { few = omega (arith, few, links-size); within = λ k h. omega (arith, up k h, h) };
        begins = λ h. h;
        sum = omega (arith, links-size, ap (sum_by blocks_for) table, sum-none blocks);
        apart = record {
          owner = λ _. length lens;
          rank = λ b. length next - (b + 1);
          free_chain = chain-up next (length lens) up blocks 0 (λ _. omega (arith, links-size));
          run_chain = λ k. subst (λ (n : ℕ). IsChain next (λ _. length lens) (λ b. length next - (b + 1)) k (blocks_for n) k) (sym (none k)) (chain-none next (λ _. length lens) (λ b. length next - (b + 1)) k k);
        };
      };
      room = omega (arith, room, links-size);
      within = λ k. subst (λ (n : ℕ). AreWithin next (length items) (blocks_for n) k) (sym (none k)) (within-none next (length items) k);
    }

pub fresh-runs : {T : Type 0} (items : List T) (next lens : List ℕ) (blocks : ℕ) → lens ≡ replicate blocks 0 → runs_in items next lens ≡ replicate blocks None
fresh-runs items next lens blocks table =
    let size : length (runs_in items next lens) ≡ blocks = length-runs_in items next lens ∙ (ap length table ∙ length-replicate blocks 0) in
    ext_get_or None (runs_in items next lens) (replicate blocks None) (size ∙ sym (length-replicate blocks None))
    (λ i h. get_or-runs_in items next lens i ∙ (run-none items next lens i (ap (λ xs. get_or xs i 0) table ∙ get_or-replicate blocks i 0 0 (omega (arith, h, size))) ∙ sym (get_or-replicate blocks i None None (omega (arith, h, size)))))
