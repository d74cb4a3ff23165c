-- What is known of the lines that are passed.
use Rattle.std.specs.Prelude.{◌≡◌, ◌-◌, ◌++◌, ◌&&◌, not, false, ℕ, List, Option, Some, None, drop, take, nat_lt, slice_get, if◌then◌else◌}
use Rattle.std.specs.List.{list_any}
use Rattle.ld_names.specs.declared.file.FileId.{FileId}
use Rattle.ld_line.specs.declared.line.Line.{Line}
use Rattle.ld_check.specs.Findings.{findings_at}
use Rattle.ld_check.specs.Inside.Drawn.{HasDrawn}
use Rattle.ld_check.specs.Inside.Ranking.{place_of_rank}
use Rattle.ld_check.specs.Order.{is_below, is_body, is_statement, rank_of}
use Rattle.ld_check.specs.Text.{said}
use Rattle.ld_check.specs.declared.finding.Finding.{Finding}
use Rattle.ld_check.specs.declared.passed.Passed.{Passed}

-- the rank of a line that stands after the first five and before the body
abbrev pub header_rank : ℕ → Passed → List ℕ → Line → Option ℕ
header_rank number passed bytes line = if nat_lt 5 number && not passed.has_body && not (is_body line) then rank_of bytes else None

-- these lines are passed
pub record IsPassed (passed : Passed) (lines : List (List ℕ)) : Type 0 where
  pub body : passed.has_body ≡ list_any (said is_body) lines
  pub statement : passed.has_statement ≡ list_any (said is_statement) lines
  -- a rank is below that of one of them where it is below the highest
  pub highest : passed.has_body ≡ false → (rank : Option ℕ) → is_below rank (place_of_rank passed.highest) ≡ list_any (λ earlier. is_below rank (rank_of earlier)) (drop 5 lines)
  pub drawn : HasDrawn passed.drawings lines

-- a line more is passed, and its findings are listed
abbrev pub ChecksLine : FileId → ℕ → List ℕ → Passed → Passed → List Finding → List Finding → Type 0
ChecksLine file number bytes old new before after =
    (lines : List (List ℕ)) → slice_get lines (number - 1) ≡ Some bytes → IsPassed old (take (number - 1) lines) → (after ≡ before ++ findings_at file lines number) × IsPassed new (take number lines)
