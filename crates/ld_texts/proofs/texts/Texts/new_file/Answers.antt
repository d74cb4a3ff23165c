use Rattle.std.proofs.Common.{ap, sym, ◌∙◌, Some, []}
use Rattle.ld_texts.specs.Inside.Placed.{with_text_at}
use Rattle.ld_texts.specs.declared.edit.Edit.TheVariants.{New}
use Rattle.ld_texts.proofs.Changed.{absent_at}
use Rattle.ld_texts.proofs.Placed.{written_at}
use Rattle.ld_texts.proofs.Refused.{fits, option_or_none}
use Rattle.ld_texts.proofs.texts.Texts.new_file.Goals as goal

pub put-requires-clause-absent : goal.put-requires-clause-absent
put-requires-clause-absent c =
    absent_at c.args.self.now.known c.args.file _ (option_or_none _ _ c.requires.fits).0 c.number-id.ensures.number

pub put-requires-clause-fits : goal.put-requires-clause-fits
put-requires-clause-fits c =
    let is = written_at c.args.self.now.known c.args.file _ (Some []) c.number-id.ensures.number in
    rw (c.empty-lines.ensures, ← is) (fits _ c.args.self.now.known (New c.args.file) c.requires.fits)

pub returns-clause-known : goal.returns-clause-known
returns-clause-known c =
    let is = written_at c.args.self.now.known c.args.file _ (Some []) c.number-id.ensures.number in
    c.put.ensures.known ∙ ap (λ lines. with_text_at c.args.self.now.known c.number-id.result.0 (Some lines)) c.empty-lines.ensures ∙ sym is
