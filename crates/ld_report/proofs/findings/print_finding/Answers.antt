use Rattle.std.proofs.Common.{◌≡◌, List, ℕ, ◌++◌, [], ◌∷◌, append_assoc, ap, codes, decimal, ◌∙◌}
use Rattle.ld_report.specs.Pieces.{line_text}
use Rattle.ld_report.proofs.Extending.{after, appended, put, same, through}
use Rattle.ld_report.proofs.findings.print_finding.Goals as goal

finding_line : (old line rule : List ℕ) → (((old ++ line) ++ codes " ") ++ rule) ++ codes "\n" ≡ old ++ line_text (line ∷ rule ∷ [])
finding_line old line rule = simp append_assoc

pub returns-clause-ok : goal.returns-clause-ok
returns-clause-ok c =
    let finding = c.args.finding.now in
    let old = c.args.into.now.items in
    let placed = c.in_ok-print_number.ensures.ok ∙ ap (λ line. old ++ decimal line) c.from.ensures in
    let ruled = c.in_ok-print_number-2.ensures.ok ∙ ap (λ rule. c.push.new.self.items ++ decimal rule) c.from-2.ensures in
    put (codes "\n") c.in_ok-push-2.ensures.items (put (decimal finding.rule) ruled (put (codes " ") c.in_ok-push.ensures.items placed)) ∙ finding_line old (decimal finding.line) (decimal finding.rule)

pub returns-clause-keeps : goal.returns-clause-keeps
returns-clause-keeps c = appended _ _ _ (returns-clause-ok c)

pub returns-in_err-print_number-clause-keeps : goal.returns-in_err-print_number-clause-keeps
returns-in_err-print_number-clause-keeps c = c.in_err-print_number.ensures.keeps

pub returns-in_err-push-clause-keeps : goal.returns-in_err-push-clause-keeps
returns-in_err-push-clause-keeps c = through _ _ _ c.in_ok-print_number.ensures.keeps (same _ _ c.in_err-push.ensures.items)

pub returns-in_err-print_number-2-clause-keeps : goal.returns-in_err-print_number-2-clause-keeps
returns-in_err-print_number-2-clause-keeps c = through _ _ _ c.in_ok-print_number.ensures.keeps (after _ _ _ _ c.in_ok-push.ensures.items c.in_err-print_number-2.ensures.keeps)

pub returns-in_err-push-2-clause-keeps : goal.returns-in_err-push-2-clause-keeps
returns-in_err-push-2-clause-keeps c = through _ _ _ c.in_ok-print_number.ensures.keeps (after _ _ _ _ c.in_ok-push.ensures.items (through _ _ _ c.in_ok-print_number-2.ensures.keeps (same _ _ c.in_err-push-2.ensures.items)))
