-- What a put answers, and what it leaves taken.
use Rattle.std.specs.Prelude.{◌≡◌, ℕ, ◌<◌, List, ◌++◌, length, take, Option, Some, Result, Ok, Err}
use Rattle.ld_io.specs.declared.sink.PutError.{PutError}
use Rattle.ld_io.specs.declared.sink.PutError.TheVariants.{Failed, Memory}
use Rattle.ld_io.specs.Faults.{next_count, HasRisen}

-- a put fails only where the count of faults rose
abbrev pub PutCause : {A : Type 0} → ℕ → ℕ → Result A PutError → Type 0
PutCause before after (Ok done) = Unit {0}
PutCause before after (Err Failed) = HasRisen before after
PutCause before after (Err Memory) = Unit {0}

-- the bytes taken after a put: with the whole piece, with a proper prefix of it, or as before
abbrev pub PutTold : {A : Type 0} → List ℕ → List ℕ → Result A PutError → Option (List ℕ) → Type 0
PutTold before piece (Ok done) after = after ≡ Some (before ++ piece)
PutTold before piece (Err Failed) after =
    (n : ℕ) × (n < length piece) × (after ≡ Some (before ++ take n piece))
PutTold before piece (Err Memory) after = after ≡ Some before

-- the count of faults after a put into a sink that counts exactly its failed ones
abbrev pub faults_after_put : {A : Type 0} → ℕ → Result A PutError → ℕ
faults_after_put before (Ok done) = before
faults_after_put before (Err Failed) = next_count before
faults_after_put before (Err Memory) = before
