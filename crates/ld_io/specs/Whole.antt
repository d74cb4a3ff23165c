-- What reading a whole reader and writing a whole piece leave, by the bytes that a reader has left and a writer holds.
use Rattle.std.specs.Prelude.{◌≡◌, ℕ, zero, suc, ◌+◌, ◌<◌, ◌≤◌, List, length, take, Option, Result, Ok, Err}
use Rattle.std.specs.IoError.{error_kind}
use Rattle.std.specs.declared.io.Error.{Error}
use Rattle.std.specs.declared.io.ErrorKind.{ErrorKind}
use Rattle.std.specs.declared.io.ErrorKind.TheVariants.{Interrupted}
use Rattle.std.specs.Io.KnownBytes.{Appends}
use Rattle.ld_io.specs.declared.whole.ReadError.{ReadError}
use Rattle.ld_io.specs.declared.whole.ReadError.TheVariants.{TooBig, Failed}
use Rattle.ld_io.specs.declared.sink.PutError.{PutError}
use Rattle.ld_io.specs.declared.sink.PutError.TheVariants as put

-- how many bytes there are after reading at most `max`
abbrev pub ReadFits : {A : Type 0} → ℕ → Result A ReadError → List ℕ → Type 0
ReadFits max (Ok done) bytes = length bytes ≤ max
ReadFits max (Err TooBig) bytes = length bytes ≡ max + 1
ReadFits max (Err (Failed kind)) bytes = Unit {0}

-- what the bytes are after reading at most `max` of a reader that had `all` left
abbrev pub ReadTold : {A : Type 0} → List ℕ → ℕ → Result A ReadError → List ℕ → Type 0
ReadTold all max (Ok done) bytes = bytes ≡ all
ReadTold all max (Err TooBig) bytes = (max < length all) × (bytes ≡ take (max + 1) all)
ReadTold all max (Err (Failed kind)) bytes = Unit {0}

-- what a writer holds after a piece: all of it, or where writing failed a proper prefix; writing wants no memory
abbrev pub WriteTold : {A : Type 0} → Option (List ℕ) → Option (List ℕ) → List ℕ → Result A PutError → Type 0
WriteTold before after piece (Ok done) = Appends before after piece
WriteTold before after piece (Err put.Failed) = (n : ℕ) × (n < length piece) × Appends before after (take n piece)
WriteTold before after piece (Err put.Memory) = ⊥

-- how many bytes were taken where a write was stopped: none where a signal came in between
abbrev pub taken_after : ErrorKind → Result ℕ PutError
taken_after Interrupted = Ok 0
taken_after _ = Err put.Failed

-- how many bytes a write took; one that takes none has failed
abbrev pub taken_by : Result ℕ Error → Result ℕ PutError
taken_by (Ok zero) = Err put.Failed
taken_by (Ok (suc count)) = Ok (suc count)
taken_by (Err error) = taken_after (error_kind error)
