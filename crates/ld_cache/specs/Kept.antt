-- Which expansions are kept. Each takes a block for each started 256 entries, out of a fixed number of blocks.
use Rattle.std.specs.Prelude.{ℕ, ◌-◌, ◌/◌, ◌==◌, if◌then◌else◌, List, Bool, Option, Some, None, length, get_or, map, nat_lt, replicate, slice_set, slice_get, option_map, unwrap_or}
use Rattle.std.specs.List.{range_with_len, sum_by}
use Rattle.ld_names.specs.declared.file.TextId.{TextId}
use Rattle.ld_pool.specs.Runs.{blocks_for}
use Rattle.ld_entry.specs.declared.entry.Expansion.{Expansion}
use Rattle.ld_graph.specs.Dirt.{is_dirty}

-- for each text, by its number, the expansion that is kept of it, and the number of all blocks
pub record Cached : Type 0 where
  pub kept : List (Option Expansion)
  pub blocks : ℕ

-- so many texts of which nothing is kept, and blocks for so many entries
abbrev pub nothing_kept : ℕ → ℕ → Cached
nothing_kept texts entries = record { kept = replicate texts None; blocks = entries / 256 }

-- what is kept of a text
abbrev pub kept_of : Cached → TextId → Option Expansion
kept_of cache text = get_or cache.kept text.0 None

-- how many entries a kept expansion has
abbrev pub entries_in : Option Expansion → ℕ
entries_in kept = unwrap_or (option_map (λ expansion. length expansion.entries) kept) 0

-- how many blocks a kept expansion takes
abbrev pub blocks_in : Option Expansion → ℕ
blocks_in kept = unwrap_or (option_map (λ expansion. blocks_for (length expansion.entries)) kept) 0

-- how many blocks are left
abbrev pub free_blocks : Cached → ℕ
free_blocks cache = cache.blocks - sum_by blocks_in cache.kept

-- the expansion of a text kept too
abbrev pub with_kept : Cached → TextId → Expansion → Cached
with_kept cache text expansion = record { kept = slice_set cache.kept text.0 (Some expansion); blocks = cache.blocks }

-- the expansion of a text kept where its blocks are at most those that are left: what a filling does with each text
abbrev pub added : Cached → TextId → Expansion → Cached
added cache text expansion = if nat_lt (free_blocks cache) (blocks_for (length expansion.entries)) then cache else with_kept cache text expansion

-- what stays kept of a text once the dirty ones are forgotten
abbrev pub left_of : List Bool → List (Option Expansion) → ℕ → Option Expansion
left_of dirty kept text = if is_dirty dirty (record { 0 = text }) then None else get_or kept text None

-- the dirty texts forgotten
abbrev pub without_dirty : Cached → List Bool → Cached
without_dirty cache dirty = record { kept = map (left_of dirty cache.kept) (range_with_len 0 (length cache.kept)); blocks = cache.blocks }

-- how many entries stand up to and with a line; lines are numbered from 1
abbrev pub line_end_of : Expansion → ℕ → Option ℕ
line_end_of expansion line = if line == 0 then None else slice_get expansion.line_ends (line - 1)
