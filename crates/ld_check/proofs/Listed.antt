-- The findings at a line, put together.
use Rattle.std.proofs.Common.{◌≡◌, ℕ, ◌-◌, Bool, not, ◌&&◌, List, [], ◌++◌, Some, append-nil, append_assoc, drop, nat_lt, take}
use Rattle.std.specs.Prelude.{slice_get}
use Rattle.std.specs.List.{list_any}
use Rattle.ld_names.specs.declared.file.FileId.{FileId}
use Rattle.ld_line.specs.Reading.{line_of}
use Rattle.ld_check.specs.Findings.{findings_at, found}
use Rattle.ld_check.specs.Inside.AtLine.{header_findings, said_findings, written_findings}
use Rattle.ld_check.specs.Lines.{draws_same}
use Rattle.ld_check.specs.Order.{is_below, is_body, is_statement, rank_of}
use Rattle.ld_check.specs.Text.{said}
use Rattle.ld_check.specs.declared.finding.Finding.{Finding}

regrouped : (old f101 f102 f103 f104 f105 f106 f107 f108 f201 f202 f203 f301 f302 f303 f304 f305 f306 f307 f308 f309 : List Finding)
    → (((((old ++ (f101 ++ f102 ++ f103 ++ f104 ++ f105 ++ f106)) ++ f107) ++ f108) ++ (f201 ++ f202 ++ f203 ++ f301 ++ f302 ++ f303 ++ f304 ++ f305)) ++ f306) ++ (f307 ++ f308 ++ f309)
    ≡ old ++ (f101 ++ (f102 ++ (f103 ++ (f104 ++ (f105 ++ (f106 ++ (f107 ++ (f108 ++ (f201 ++ (f202 ++ (f203 ++ (f301 ++ (f302 ++ (f303 ++ (f304 ++ (f305 ++ (f306 ++ (f307 ++ (f308 ++ (f309 ++ []))))))))))))))))))))
regrouped old f101 f102 f103 f104 f105 f106 f107 f108 f201 f202 f203 f301 f302 f303 f304 f305 f306 f307 f308 f309 = simp (append_assoc, append-nil)

pub listed : (file : FileId) (lines : List (List ℕ)) (number : ℕ) (bytes : List ℕ) (old : List Finding) (lacks late repeated : Bool)
    → slice_get lines (number - 1) ≡ Some bytes
    → lacks ≡ (is_body (line_of bytes) && not (list_any (said is_body) (take (number - 1) lines)) && not (list_any (said is_statement) (take (number - 1) lines)))
    → late ≡ (nat_lt 5 number && not (list_any (said is_body) (take number lines)) && list_any (λ earlier. is_below (rank_of bytes) (rank_of earlier)) (drop 5 (take (number - 1) lines)))
    → repeated ≡ list_any (λ earlier. draws_same (line_of bytes) (line_of earlier)) (take (number - 1) lines)
    → (((((old ++ header_findings file bytes number) ++ found number (107, lacks)) ++ found number (108, late)) ++ said_findings number (line_of bytes)) ++ found number (306, repeated)) ++ written_findings number bytes (line_of bytes)
    ≡ old ++ findings_at file lines number
listed file lines number bytes old lacks late repeated at is_lacking is_late is_repeated =
    rw (at, ← is_lacking, ← is_late, ← is_repeated) (search regrouped)
