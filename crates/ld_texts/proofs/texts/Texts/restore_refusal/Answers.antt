use Rattle.std.proofs.Common.{◌≡◌, ◌+◌, ap, arith, nat_lt, Some, subst, sym, true, false, tests, ◌∙◌}
use Rattle.ld_texts.specs.Editing.{refused_if, text_of}
use Rattle.ld_texts.specs.Inside.Kept.{IsWithin}
use Rattle.ld_texts.specs.Known.{weight_of, weight_of_lines}
use Rattle.ld_texts.specs.Learning.{Texts}
use Rattle.ld_texts.specs.declared.edit.EditRefusal.TheVariants.{Full}
use Rattle.ld_texts.proofs.Refused.{restore-there, restore-weighs, some_text}
use Rattle.ld_texts.proofs.texts.Texts.restore_refusal.Goals as goal

pub returns-then-is_some : goal.returns-then-is_some
returns-then-is_some c =
    restore-there c.args.self.now.max_weight c.args.self.now.known c.args.file.now c.args.lines.now (sym c.if-not-are_block_texts.ensures) (some_text (λ text. text.now) c.text_of.result (text_of c.args.self.now.known c.args.file.now) c.text_of.ensures.lines ∙ sym c.if-is_some.ensures)

pub returns-then-weigh-left : goal.returns-then-weigh-left
returns-then-weigh-left c =
    let within = subst (λ (texts : Texts). IsWithin texts.known c.self.inside.weight texts.max_files texts.max_weight) c.self.view_is c.self.invariant.0 in
    let limit = ap (λ (texts : Texts). texts.max_weight) c.self.view_is in
    let heavy : nat_lt c.args.self.now.max_weight (weight_of c.args.self.now.known + weight_of_lines c.args.lines.now) ≡ true = grind (arith, tests, c.if-weigh-left.true, c.weigh.ensures, within.weight, within.fits, within.light, limit) in
    ap Some (ap Full within.weight) ∙ ap (λ b. refused_if b (Full (weight_of c.args.self.now.known))) (sym heavy)
    ∙ restore-weighs c.args.self.now.max_weight c.args.self.now.known c.args.file.now c.args.lines.now (sym c.if-not-are_block_texts.ensures) c.requires.0 (some_text (λ text. text.now) c.text_of.result (text_of c.args.self.now.known c.args.file.now) c.text_of.ensures.lines ∙ sym c.if-is_some.ensures)

pub returns : goal.returns
returns c =
    let within = subst (λ (texts : Texts). IsWithin texts.known c.self.inside.weight texts.max_files texts.max_weight) c.self.view_is c.self.invariant.0 in
    let limit = ap (λ (texts : Texts). texts.max_weight) c.self.view_is in
    let light : nat_lt c.args.self.now.max_weight (weight_of c.args.self.now.known + weight_of_lines c.args.lines.now) ≡ false = grind (arith, tests, c.if-weigh-left.false, c.weigh.ensures, within.weight, within.fits, within.light, limit) in
    ap (λ b. refused_if b (Full (weight_of c.args.self.now.known))) (sym light)
    ∙ restore-weighs c.args.self.now.max_weight c.args.self.now.known c.args.file.now c.args.lines.now (sym c.if-not-are_block_texts.ensures) c.requires.0 (some_text (λ text. text.now) c.text_of.result (text_of c.args.self.now.known c.args.file.now) c.text_of.ensures.lines ∙ sym c.if-is_some.ensures)
