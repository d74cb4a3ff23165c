use Rattle.std.proofs.Common.{◌≡◌, ◌≤◌, ◌∙◌, ℕ, List, IfOk, Option, Some, None, ap, length, arith, subst, sym}
use Rattle.std.specs.Option.{option_copied}
use Rattle.ld_check.specs.Findings.{findings_of}
use Rattle.ld_texts.specs.Known.{lines_at, weight_of}
use Rattle.ld_texts.specs.Learning.{Texts}
use Rattle.ld_cmd.specs.Made.{output_of}
use Rattle.ld_cmd.specs.Output.{found_output}
use Rattle.ld_cmd.proofs.First.{copied-some, first-lines, lines-few}
use Rattle.ld_cmd.proofs.Leaves.{just}
use Rattle.ld_cmd.proofs.check.check_loaded.Goals as goal

pub unwrap-requires : goal.unwrap-requires
unwrap-requires c =
    let first = c.requires.first in
    let same = ap (λ (texts : Texts). lines_at texts.known 0) c.texts-texts.ensures.texts in
    copied-some c.lines.result first.0 (c.lines.ensures ∙ same ∙ first-lines c.first_law.ensures c.number_law.ensures c.args.main.now first.0 c.args.workspace.now.texts.known first.1)

pub found-requires : goal.found-requires
found-requires c =
    let known = c.args.workspace.now.texts.known in
    let first = c.requires.first in
    let same = ap (λ (texts : Texts). lines_at texts.known 0) c.texts-texts.ensures.texts in
    let there = sym (ap option_copied c.unwrap.ensures) ∙ c.lines.ensures ∙ same ∙ first-lines c.first_law.ensures c.number_law.ensures c.args.main.now first.0 known first.1 in
    let lines : c.unwrap.result.now ≡ first.0 = just c.unwrap.result.now first.0 there in
    let most : c.texts-texts.result.now.max_weight ≡ 268435456 = ap (λ (texts : Texts). texts.max_weight) c.texts-texts.ensures.texts ∙ c.texts-texts.ensures.weight ∙ c.requires.weight in
    let light : weight_of known ≤ 268435456 = omega (arith, ap (λ (texts : Texts). weight_of texts.known) c.texts-texts.ensures.texts, c.weight-weight.ensures.weight, c.weight-weight.ensures.within, most) in
    omega (arith, lines-few c.args.main.now first.0 known first.1 light, ap length lines)

pub returns : goal.returns
returns c = λ lines begins.
    let same = ap (λ (texts : Texts). lines_at texts.known 0) c.texts-texts.ensures.texts in
    let there = sym (ap option_copied c.unwrap.ensures) ∙ c.lines.ensures ∙ same ∙ first-lines c.first_law.ensures c.number_law.ensures c.args.main.now lines c.args.workspace.now.texts.known begins in
    subst (λ (all : List (List ℕ)). IfOk c.found.result (λ made. output_of made ≡ found_output (findings_of c.args.main.now all))) (just c.unwrap.result.now lines there) c.found.ensures
