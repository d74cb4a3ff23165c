use Rattle.std.specs.Prelude.{not}
use Rattle.std.proofs.Common.{ap, arith, sym}
use Rattle.ld_texts.specs.Known.{weight_of}
use Rattle.ld_texts.specs.Editing.{edited, is_block_text, overweight, text_of}
use Rattle.ld_texts.specs.declared.edit.Edit.TheVariants.{Insert}
use Rattle.ld_texts.proofs.Refused.{insert-weight, weighed}
use Rattle.ld_texts.proofs.texts.Texts.insert_refusal.Goals as goal

pub returns : goal.returns
returns c =
    let known = c.args.self.now.known in
    let edit = Insert c.args.file.now c.args.line c.args.text.now in
    let weight = insert-weight known c.args.file.now c.in-Some.lines.now c.args.line c.args.text.now c.in-Some.ensures.lines in
    weighed (not (is_block_text c.args.text.now)) 1 c.args.line (text_of known c.args.file.now) c.in-Some.lines.now (overweight c.args.self.now.max_weight known (edited known edit)) c.overweight.result (ap not (sym c.if-not-is_block_text.ensures)) c.in-Some.ensures.lines (sym c.in_default-misses.ensures) (c.overweight.ensures (weight_of (edited known edit)) (omega (arith, weight, c.line_weight.ensures)))
