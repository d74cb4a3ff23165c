-- What clauses see of a shelf in memory that fails listed fetches.
use Rattle.std.specs.Prelude.{ℕ, List, Bool, ◌==◌}
use Rattle.std.specs.List.{list_any}
use Rattle.ld_io.specs.Faults.{next_count}
use Rattle.ld_io.specs.Files.{File}

pub record MemShelfValue : Type 0 where
  pub files : List File
  -- the numbers of the fetches that are to fail
  pub failing : List ℕ
  -- how many fetches there were
  pub fetches : ℕ
  -- how many of them failed
  pub faults : ℕ

-- the number of the next fetch is listed
abbrev pub next_fails : MemShelfValue → Bool
next_fails s = list_any (λ call. call == next_count s.fetches) s.failing
