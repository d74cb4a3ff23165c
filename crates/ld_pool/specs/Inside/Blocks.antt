-- Lists in blocks of 256 items, which a table links.
use Rattle.std.specs.Prelude.{◌≡◌, ℕ, zero, suc, ◌+◌, ◌*◌, ◌-◌, ◌<◌, ◌≤◌, ◌^◌, ◌==◌, if◌then◌else◌, List, [], ◌++◌, Option, Some, None, map, length, get_or, replicate, take, drop, min}
use Rattle.std.specs.List.{sum_by, range_with_len}
use Rattle.ld_pool.specs.Runs.{blocks_for}

-- The items up to a length: those that stand, and blank ones behind them. Blocks that were never written are none of
-- those that stand.
abbrev pub whole : {T : Type 0} → List T → T → ℕ → List T
whole items blank size = items ++ replicate (size - length items) blank

-- the block that lies so many links behind another
unfoldable pub behind : List ℕ → ℕ → ℕ → ℕ
behind next zero block = block
behind next (suc count) block = behind next count (get_or next block 0)

-- links of so many blocks, each to the next one, and the last one to itself
abbrev pub linked_up : ℕ → List ℕ
linked_up blocks = map (λ block. min (block + 1) (blocks - 1)) (range_with_len 0 blocks)

-- a list of so many items as it stands in so many blocks from one on
unfoldable pub gathered : {T : Type 0} → List T → List ℕ → ℕ → ℕ → ℕ → List T
gathered items next zero block len = []
gathered items next (suc count) block len = take (min len 256) (drop (256 * block) items) ++ gathered items next count (get_or next block 0) (len - min len 256)

-- the list of so many items that begins at a block
abbrev pub list_at : {T : Type 0} → List T → List ℕ → ℕ → ℕ → List T
list_at items next block len = gathered items next (blocks_for len) block len

-- the items with others in place of the first ones of a block
abbrev pub written : {T : Type 0} → List T → ℕ → List T → List T
written items block over = take (256 * block) items ++ (over ++ drop (length over) (drop (256 * block) items))

-- whatever the full length is, the full items are as before with others in place of the first ones of a block
abbrev pub IsWritten : {T : Type 0} → List T → T → ℕ → List T → List T → Type 0
IsWritten old blank block over new = (size : ℕ) → 256 * block + 256 ≤ size → whole new blank size ≡ written (whole old blank size) block over

-- the items with a list in so many blocks from one on
unfoldable pub filled : {T : Type 0} → List T → List ℕ → ℕ → ℕ → List T → List T
filled items next zero block list = items
filled items next (suc count) block list = filled (written items block (take (min (length list) 256) list)) next count (get_or next block 0) (drop (min (length list) 256) list)

-- so many blocks from one on lie within the first items
unfoldable pub AreWithin : List ℕ → ℕ → ℕ → ℕ → Type 0
AreWithin next size zero block = Unit {0}
AreWithin next size (suc count) block = (256 * block + 256 ≤ size) × AreWithin next size count (get_or next block 0)

-- the blocks from one on: so many of one owner, each with the number of those behind it
unfoldable pub IsChain : List ℕ → (ℕ → ℕ) → (ℕ → ℕ) → ℕ → ℕ → ℕ → Type 0
IsChain next owner rank whose zero block = Unit {0}
IsChain next owner rank whose (suc count) block = (owner block ≡ whose) × (rank block ≡ count) × IsChain next owner rank whose count (get_or next block 0)

-- no block belongs to two runs, or to a run and the free blocks, or twice to one of them
pub record AreApart (next lens : List ℕ) (head free : ℕ) : Type 0 where
  pub owner : ℕ → ℕ
  pub rank : ℕ → ℕ
  pub free_chain : IsChain next owner rank (length lens) free head
  pub run_chain : (k : ℕ) → IsChain next owner rank k (blocks_for (get_or lens k 0)) k

-- each link leads to a block
pub record AreLinks (next : List ℕ) : Type 0 where
  pub few : length next < 2 ^ 32
  pub within : (k : ℕ) → k < length next → get_or next k 0 < length next

-- what holds of the full items and the tables
pub record AreRuns {T : Type 0} (items : List T) (next lens : List ℕ) (head free : ℕ) : Type 0 where
  pub size : length items ≡ 256 * length next
  pub table : length lens ≡ length next
  pub links : AreLinks next
  pub begins : 0 < length next → head < length next
  pub sum : free + sum_by blocks_for lens ≡ length next
  pub apart : AreApart next lens head free

-- what holds of the items that stand and the tables: there is room for all items, and those of runs stand
pub record IsPool {T : Type 0} (items : List T) (blank : T) (capacity : ℕ) (next lens : List ℕ) (head free : ℕ) : Type 0 where
  pub runs : AreRuns (whole items blank (256 * length next)) next lens head free
  pub room : 256 * length next ≤ capacity
  pub within : (k : ℕ) → AreWithin next (length items) (blocks_for (get_or lens k 0)) k

-- the list of the run that begins at a block
abbrev pub run_of : {T : Type 0} → List T → List ℕ → List ℕ → ℕ → Option (List T)
run_of items next lens k = if get_or lens k 0 == 0 then None else Some (list_at items next k (get_or lens k 0))

abbrev pub runs_in : {T : Type 0} → List T → List ℕ → List ℕ → List (Option (List T))
runs_in items next lens = map (run_of items next lens) (range_with_len 0 (length lens))
