-- Printed findings, a line each, which are this project's own.
use Rattle.std.specs.Prelude.{ℕ, List, [], ◌∷◌, decimal}
use Rattle.std.specs.List.{flat_map}
use Rattle.ld_check.specs.declared.finding.Finding.{Finding}
use Rattle.ld_report.specs.Pieces.{line_text}

-- the line and the rule
abbrev pub finding_words : Finding → List (List ℕ)
finding_words finding = decimal finding.line ∷ decimal finding.rule ∷ []

unfoldable pub findings_text : List Finding → List ℕ
findings_text findings = flat_map (λ finding. line_text (finding_words finding)) findings
