-- What clauses see of a sink in memory that fails listed puts.
use Rattle.std.specs.Prelude.{ℕ, ◌==◌, List, [], ◌∷◌, ◌++◌, length, take, min, find, Option, Some, None, option_map}
use Rattle.ld_io.specs.Faults.{next_count}

pub record MemSinkValue : Type 0 where
  -- the bytes taken
  pub bytes : List ℕ
  -- the numbers of the puts that are to fail, each with the bytes that it takes, the newest first
  pub failing : List (ℕ × ℕ)
  -- how many puts there were
  pub puts : ℕ
  -- how many of them failed
  pub faults : ℕ

-- how many bytes the put of this number is to take before it fails, if it is listed
abbrev pub listed_len : List (ℕ × ℕ) → ℕ → Option ℕ
listed_len failing call = option_map (λ newest. newest.1) (find (λ newest. newest.0 == call) failing)

-- how many bytes of the piece, but not all, the next put takes before it fails, if it is to fail
abbrev pub taken_len : MemSinkValue → List ℕ → Option ℕ
taken_len s [] = None
taken_len s (byte ∷ bytes) =
    option_map (λ taken. min taken (length bytes)) (listed_len s.failing (next_count s.puts))

-- what the next put takes of a piece
abbrev pub taken_of : MemSinkValue → List ℕ → List ℕ
taken_of s piece = elim (taken_len s piece) [ None ↦ piece | Some n ↦ take n piece ]

-- after a put that took these bytes
abbrev pub with_put : MemSinkValue → List ℕ → MemSinkValue
with_put s bytes = record s { bytes = s.bytes ++ bytes; puts = next_count s.puts }

-- after a put that took these bytes and failed
abbrev pub with_fault : MemSinkValue → List ℕ → MemSinkValue
with_fault s bytes = record (with_put s bytes) { faults = next_count s.faults }
