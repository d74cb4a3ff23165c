use Rattle.std.proofs.Common.{◌≡◌, ◌++◌, ap, codes, ◌∙◌}
use Rattle.std.specs.List.{flat_map}
use Rattle.ld_texts.specs.Known.{line_at}
use Rattle.ld_report.specs.Entries.{fault_text, named_words, what_text}
use Rattle.ld_report.specs.Pieces.{source_text}
use Rattle.ld_report.proofs.Extending.{after, appended, same, through}
use Rattle.ld_report.proofs.Lines.{fault_line}
use Rattle.ld_report.proofs.fault.append_fault.Goals as goal

pub returns-clause-ok : goal.returns-clause-ok
unfolding fault_text
returns-clause-ok c =
    let old = c.args.into.now.items in
    let known = c.args.texts.now.known in
    let fault = c.args.fault.now in
    let names = named_words fault.what (line_at known fault.source.text.0 fault.source.line) in
    let begun : c.extend_from_slice.new.self.items ≡ old ++ codes "fault " = c.in_ok-extend_from_slice.ensures.items in
    let told : c.extend_from_slice-2.new.self.items ≡ c.extend_from_slice.new.self.items ++ (what_text fault.what ++ codes " ") = c.in_ok-extend_from_slice-2.ensures.items ∙ ap (λ word. c.extend_from_slice.new.self.items ++ word) c.what_word.ensures in
    let placed : c.print_source.new.into.items ≡ c.extend_from_slice-2.new.self.items ++ source_text known fault.source = c.in_ok-print_source.ensures.ok in
    let named : c.print_named.new.into.items ≡ c.print_source.new.into.items ++ flat_map (λ word. codes " " ++ word) names = c.in_ok-print_named.ensures.ok in
    let ended : c.push.new.self.items ≡ c.print_named.new.into.items ++ codes "\n" = c.in_ok-push.ensures.items in
    ended ∙ ap (λ text. text ++ codes "\n") (named ∙ ap (λ text. text ++ flat_map (λ word. codes " " ++ word) names) (placed ∙ ap (λ text. text ++ source_text known fault.source) (told ∙ ap (λ text. text ++ (what_text fault.what ++ codes " ")) begun))) ∙ fault_line old (what_text fault.what) (source_text known fault.source) names

pub returns-clause-keeps : goal.returns-clause-keeps
returns-clause-keeps c = appended _ _ _ (returns-clause-ok c)

pub returns-in_err-extend_from_slice-clause-keeps : goal.returns-in_err-extend_from_slice-clause-keeps
returns-in_err-extend_from_slice-clause-keeps c = same _ _ c.in_err-extend_from_slice.ensures.items

pub returns-in_err-extend_from_slice-2-clause-keeps : goal.returns-in_err-extend_from_slice-2-clause-keeps
returns-in_err-extend_from_slice-2-clause-keeps c = after _ _ _ _ c.in_ok-extend_from_slice.ensures.items (same _ _ c.in_err-extend_from_slice-2.ensures.items)

pub returns-in_err-print_source-clause-keeps : goal.returns-in_err-print_source-clause-keeps
returns-in_err-print_source-clause-keeps c = after _ _ _ _ c.in_ok-extend_from_slice.ensures.items (after _ _ _ _ c.in_ok-extend_from_slice-2.ensures.items c.in_err-print_source.ensures.keeps)

pub returns-in_err-print_named-clause-keeps : goal.returns-in_err-print_named-clause-keeps
returns-in_err-print_named-clause-keeps c = after _ _ _ _ c.in_ok-extend_from_slice.ensures.items (after _ _ _ _ c.in_ok-extend_from_slice-2.ensures.items (through _ _ _ c.in_ok-print_source.ensures.keeps c.in_err-print_named.ensures.keeps))

pub returns-in_err-push-clause-keeps : goal.returns-in_err-push-clause-keeps
returns-in_err-push-clause-keeps c = after _ _ _ _ c.in_ok-extend_from_slice.ensures.items (after _ _ _ _ c.in_ok-extend_from_slice-2.ensures.items (through _ _ _ c.in_ok-print_source.ensures.keeps (through _ _ _ c.in_ok-print_named.ensures.keeps (same _ _ c.in_err-push.ensures.items))))
