-- What a fetch of a file tells of it.
use Rattle.std.specs.Prelude.{◌≡◌, ◌<◌, ◌≤◌, ℕ, List, length, Option, Result, Ok, Err, IfSome, IsSomeAnd, ⊤}
use Rattle.ld_names.specs.Standing.{Text}
use Rattle.ld_names.specs.declared.file.FileId.{FileId}
use Rattle.ld_engine.specs.Learning.{text_by}
use Rattle.ld_engine.specs.declared.fetching.FetchStop.{FetchStop}
use Rattle.ld_engine.specs.declared.fetching.FetchStop.TheVariants.{ReadFault, TooBig, Memory}

abbrev pub IsAtMost : ℕ → Option (List ℕ) → Type 0
IsAtMost most bytes = IfSome bytes (λ all. length all ≤ most)

-- the file's bytes, at most so many; or it has more
abbrev pub BytesTold : Option (List ℕ) → ℕ → Result (Option (List ℕ)) FetchStop → Type 0
BytesTold bytes most (Ok found) = (found ≡ bytes) × IsAtMost most bytes
BytesTold bytes most (Err TooBig) = IsSomeAnd bytes (λ all. most < length all)
BytesTold bytes most (Err ReadFault) = ⊤
BytesTold bytes most (Err Memory) = ⊤

-- the file's text, of at most so many bytes; or it has more
abbrev pub TextTold : FileId → Option (List ℕ) → ℕ → Result Text FetchStop → Type 0
TextTold file bytes most (Ok text) = (text ≡ text_by file bytes) × IsAtMost most bytes
TextTold file bytes most (Err TooBig) = IsSomeAnd bytes (λ all. most < length all)
TextTold file bytes most (Err ReadFault) = ⊤
TextTold file bytes most (Err Memory) = ⊤
