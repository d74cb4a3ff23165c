use Rattle.std.proofs.Common.{sym, ◌∙◌, ◌-◌}
use Rattle.std.specs.List.{remove}
use Rattle.ld_texts.specs.declared.edit.Edit.TheVariants.{Delete}
use Rattle.ld_texts.proofs.Changed.{altered}
use Rattle.ld_texts.proofs.Refused.{fits}
use Rattle.ld_texts.proofs.texts.Texts.delete.Goals as goal

pub put-requires-clause-fits : goal.put-requires-clause-fits
put-requires-clause-fits c =
    let is = altered _ _ _ _ _ _ _ (λ lines. remove lines (c.args.line - 1)) c.number-id.ensures.number c.take.ensures.text c.unwrap-lines.ensures c.take.ensures.known c.remove.ensures in
    rw (← is, c.take.ensures.max_weight) (fits _ c.args.self.now.known (Delete c.args.file c.args.line) c.requires.fits)

pub returns-clause-known : goal.returns-clause-known
returns-clause-known c =
    let is = altered _ _ _ _ _ _ _ (λ lines. remove lines (c.args.line - 1)) c.number-id.ensures.number c.take.ensures.text c.unwrap-lines.ensures c.take.ensures.known c.remove.ensures in
    c.put.ensures.known ∙ sym is
