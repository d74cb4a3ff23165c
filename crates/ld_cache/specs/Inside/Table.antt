-- A cache over a pool: the entries of kept expansions stand in runs, the rest in a table of slots.
use Rattle.std.specs.Prelude.{◌≡◌, ℕ, ◌+◌, ◌-◌, ◌<◌, ◌≤◌, ◌^◌, ◌++◌, List, Option, Some, None, length, get_or, map, option_map, replicate, slice_set}
use Rattle.std.specs.List.{sum_by}
use Rattle.ld_pool.specs.Runs.{Pooled, IsLive, list_of}
use Rattle.ld_entry.specs.declared.entry.Entry.{Entry}
use Rattle.ld_entry.specs.declared.entry.Expansion.{Expansion}
use Rattle.ld_cache.specs.declared.slot.Slot.{Slot}
use Rattle.ld_cache.specs.Kept.{blocks_in}

-- the slots up to a number of texts: of those that the table does not reach yet nothing is kept
abbrev pub whole : List (Option Slot) → ℕ → List (Option Slot)
whole slots texts = slots ++ replicate (texts - length slots) None

-- however many texts there are, the table shows the same but for one text
abbrev pub IsPut : List (Option Slot) → ℕ → Option Slot → List (Option Slot) → Type 0
IsPut old text slot new = (texts : ℕ) → text < texts → whole new texts ≡ slice_set (whole old texts) text slot

-- the expansion of a slot, with its entries in a pool
abbrev pub expansion_in : Pooled Entry → Slot → Expansion
expansion_in pool slot = record { entries = list_of pool slot.run; line_ends = slot.line_ends; end = slot.end }

abbrev pub shown_in : Pooled Entry → Option Slot → Option Expansion
shown_in pool slot = option_map (expansion_in pool) slot

-- the run of a text
abbrev pub run_of : List (Option Slot) → ℕ → Option ℕ
run_of slots text = option_map (λ slot. slot.run) (get_or slots text None)

-- each slot has a live run of its own, and together they take the blocks that are not free
pub record IsTable (pool : Pooled Entry) (slots : List (Option Slot)) : Type 0 where
  pub live : (text run : ℕ) → run_of slots text ≡ Some run → IsLive pool run
  pub apart : (text other run : ℕ) → run_of slots text ≡ Some run → run_of slots other ≡ Some run → run < length pool.runs → text ≡ other
  pub sum : pool.free + sum_by blocks_in (map (shown_in pool) slots) ≡ length pool.runs

-- the table, with room for so many texts
pub record IsCache (pool : Pooled Entry) (slots : List (Option Slot)) (texts : ℕ) : Type 0 where
  pub table : IsTable pool (whole slots texts)
  pub few : texts < 2 ^ 32
  pub within : length slots ≤ texts
