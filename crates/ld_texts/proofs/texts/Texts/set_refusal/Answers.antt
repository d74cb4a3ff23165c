use Rattle.std.specs.Prelude.{not}
use Rattle.std.proofs.Common.{◌≤◌, ◌<◌, ◌+◌, ◌-◌, Some, ap, arith, refl, sym, length}
use Rattle.ld_texts.specs.Known.{weight_of}
use Rattle.ld_texts.specs.Editing.{edited, is_block_text, overweight, text_of}
use Rattle.ld_texts.specs.declared.edit.Edit.TheVariants.{Set}
use Rattle.ld_texts.proofs.Refused.{inside, line_light, set-weight, weighed}
use Rattle.ld_texts.proofs.texts.Texts.set_refusal.Goals as goal

pub overweight-requires-clause-gone : goal.overweight-requires-clause-gone
overweight-requires-clause-gone c =
    let there : (0 < c.args.line) × (c.args.line ≤ length c.in-Some.lines.now + 0) = inside 0 c.args.line (Some c.in-Some.lines.now) c.in-Some.lines.now (sym c.in_default-misses.ensures) refl in
    omega (arith, c.weight_at-gone.ensures, line_light c.args.self.now.known c.args.file.now c.in-Some.lines.now (c.args.line - 1) c.in-Some.ensures.lines (omega (arith, there.0, there.1)))

pub returns : goal.returns
returns c =
    let known = c.args.self.now.known in
    let edit = Set c.args.file.now c.args.line c.args.text.now in
    let there : (0 < c.args.line) × (c.args.line ≤ length c.in-Some.lines.now + 0) = inside 0 c.args.line (Some c.in-Some.lines.now) c.in-Some.lines.now (sym c.in_default-misses.ensures) refl in
    let weight = set-weight known c.args.file.now c.in-Some.lines.now c.args.line c.args.text.now c.in-Some.ensures.lines (omega (arith, there.0, there.1)) in
    weighed (not (is_block_text c.args.text.now)) 0 c.args.line (text_of known c.args.file.now) c.in-Some.lines.now (overweight c.args.self.now.max_weight known (edited known edit)) c.overweight.result (ap not (sym c.if-not-is_block_text.ensures)) c.in-Some.ensures.lines (sym c.in_default-misses.ensures) (c.overweight.ensures (weight_of (edited known edit)) (omega (arith, weight, c.weight_at-gone.ensures, c.line_weight.ensures)))
