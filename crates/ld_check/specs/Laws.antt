-- What holds of findings.
use Rattle.std.specs.Prelude.{◌≡◌, ◌<◌, ℕ, List, [], length}
use Rattle.ld_names.specs.declared.file.FileId.{FileId}
use Rattle.ld_check.specs.Findings.{findings_at}

-- behind the last line and the header no rule holds
abbrev pub NothingBehind : Type 0
NothingBehind = (file : FileId) (lines : List (List ℕ)) (number : ℕ) → 5 < number → length lines < number → findings_at file lines number ≡ []
