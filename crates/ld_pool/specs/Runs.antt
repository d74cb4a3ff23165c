-- What contracts see of a pool: the lists of its live runs, and how many of its blocks are free.
use Rattle.std.specs.Prelude.{◌≡◌, ℕ, ◌+◌, ◌/◌, ◌≤◌, List, [], ◌∷◌, Option, Some, None, IsSome, length, get_or, replicate, slice_set, unwrap_or}

-- how many blocks of 256 items are needed for so many items
abbrev pub blocks_for : ℕ → ℕ
blocks_for items = (items + 255) / 256

-- at each block the list of the live run that begins there, and the number of free blocks
pub record Pooled (T : Type 0) : Type 0 where
  pub runs : List (Option (List T))
  pub free : ℕ

-- so many blocks, all free
abbrev pub all_free : {T : Type 0} → ℕ → Pooled T
all_free blocks = record { runs = replicate blocks None; free = blocks }

-- A run is live where its list stands. A run of no items begins past the last block, and is always live.
abbrev pub IsLive : {T : Type 0} → Pooled T → ℕ → Type 0
IsLive pool run = IsSome (get_or pool.runs run (Some []))

-- the list of a live run
abbrev pub list_of : {T : Type 0} → Pooled T → ℕ → List T
list_of pool run = unwrap_or (get_or pool.runs run None) []

-- the blocks that a run takes, if there is one
abbrev pub blocks_of : {T : Type 0} → Option (List T) → ℕ
blocks_of run = blocks_for (length (unwrap_or run []))

-- a run that is live stays so, with its list
pub record Stays {T : Type 0} (old new : Pooled T) (run : ℕ) : Type 0 where
  pub live : IsLive new run
  pub list : list_of new run ≡ list_of old run

-- a live run beside another: it is not the same one, or both have no items
pub record IsOther {T : Type 0} (pool : Pooled T) (run other : ℕ) : Type 0 where
  pub live : IsLive pool other
  pub apart : other ≡ run → length pool.runs ≤ run

-- so many live runs, each beside the others
unfoldable pub AreOthers : {T : Type 0} → Pooled T → ℕ → List ℕ → Type 0
AreOthers pool run [] = Unit {0}
AreOthers pool run (other ∷ others) = IsOther pool run other × AreOthers pool run others

unfoldable pub AreLive : {T : Type 0} → Pooled T → List ℕ → Type 0
AreLive pool [] = Unit {0}
AreLive pool (run ∷ runs) = IsLive pool run × AreOthers pool run runs × AreLive pool runs

-- all other live runs stay
abbrev pub OthersStay : {T : Type 0} → Pooled T → ℕ → Pooled T → Type 0
OthersStay old run new = (other : ℕ) → IsOther old run other → Stays old new other

-- a run that was not live is live with this list, in blocks that were free
pub record IsStored {T : Type 0} (old : Pooled T) (run : ℕ) (list : List T) (new : Pooled T) : Type 0 where
  pub vacant : get_or old.runs run None ≡ None
  pub runs : new.runs ≡ slice_set old.runs run (Some list)
  pub live : get_or new.runs run (Some []) ≡ Some list
  pub holds : list_of new run ≡ list
  pub free : new.free + blocks_for (length list) ≡ old.free
  pub others : (other : ℕ) → IsLive old other → Stays old new other
  pub apart : (other : ℕ) → IsLive old other → IsOther new run other

-- the pool without a run, whose blocks are free
abbrev pub without_run : {T : Type 0} → Pooled T → ℕ → Pooled T
without_run pool run = record { runs = slice_set pool.runs run None; free = pool.free + blocks_for (length (list_of pool run)) }
