-- What a fetch answers, and what it leaves in `into`.
use Rattle.std.specs.Prelude.{◌≡◌, ℕ, ◌+◌, ◌<◌, ◌≤◌, List, [], length, take, Option, Some, None, Result, Ok, Err, IsSomeAnd}
use Rattle.ld_io.specs.declared.shelf.Place.{Place}
use Rattle.ld_io.specs.declared.shelf.Fetched.{Fetched}
use Rattle.ld_io.specs.declared.shelf.Fetched.TheVariants.{Found, Absent}
use Rattle.ld_io.specs.declared.shelf.FetchError.{FetchError}
use Rattle.ld_io.specs.declared.shelf.FetchError.TheVariants.{Failed, TooBig, Memory}
use Rattle.ld_io.specs.Faults.{next_count, HasRisen}

-- the bytes of the file at a place under a name, if there is one
abbrev pub Files : Type 0
Files = Place → List ℕ → Option (List ℕ)

-- a call only reads from a shelf: the files stay, the count of faults never falls, and a read fault
-- is told only where the count rose
pub record IsOnlyRead (files_before files_after : Option Files) (before after : ℕ) (told_fault : Type 0) : Type 0 where
  pub same : files_after ≡ files_before
  pub never_falls : before ≤ after
  pub cause : told_fault → HasRisen before after

-- how many bytes there are after a fetch of at most `max`
abbrev pub FetchFits : ℕ → Result Fetched FetchError → List ℕ → Type 0
FetchFits max (Ok Found) bytes = length bytes ≤ max
FetchFits max (Ok Absent) bytes = bytes ≡ []
FetchFits max (Err Failed) bytes = Unit {0}
FetchFits max (Err TooBig) bytes = length bytes ≡ max + 1
FetchFits max (Err Memory) bytes = Unit {0}

-- what the bytes are after a fetch of at most `max`, where `file` is what the shelf has
abbrev pub FetchTold : Option (List ℕ) → ℕ → Result Fetched FetchError → List ℕ → Type 0
FetchTold file max (Ok Found) bytes = file ≡ Some bytes
FetchTold file max (Ok Absent) bytes = file ≡ None
FetchTold file max (Err Failed) bytes = Unit {0}
FetchTold file max (Err TooBig) bytes =
    IsSomeAnd file (λ all. (max < length all) × (bytes ≡ take (max + 1) all))
FetchTold file max (Err Memory) bytes = Unit {0}

-- the count of faults after a fetch of a shelf that counts exactly its failed ones
abbrev pub faults_after_fetch : ℕ → Result Fetched FetchError → ℕ
faults_after_fetch before (Ok fetched) = before
faults_after_fetch before (Err Failed) = next_count before
faults_after_fetch before (Err TooBig) = before
faults_after_fetch before (Err Memory) = before
