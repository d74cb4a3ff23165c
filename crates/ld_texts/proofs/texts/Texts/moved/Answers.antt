use Rattle.std.proofs.Common.{◌∙◌, sym}
use Rattle.ld_texts.proofs.Places.{moved-is, no_file-is, not_moved-is}
use Rattle.ld_texts.proofs.texts.Texts.moved.Goals as goal

pub returns-in_err-file : goal.returns-in_err-file
returns-in_err-file c = c.from_residual.ensures ∙ sym (no_file-is c.args.self.now.known c.args.id.0 (sym c.in_err-file.ensures))

pub returns-in_err-text : goal.returns-in_err-text
returns-in_err-text c = c.from_residual-in_err-text.ensures ∙ sym (not_moved-is c.args.self.now.known c.args.id.0 (sym c.in_err-text.ensures.lines))

pub returns : goal.returns
returns c = c.moved_line.ensures ∙ sym (moved-is c.args.self.now.known c.args.id.0 c.in_ok-file.file.now c.in_ok-text.text.now (sym c.in_ok-file.ensures) (sym c.in_ok-text.ensures.lines))
