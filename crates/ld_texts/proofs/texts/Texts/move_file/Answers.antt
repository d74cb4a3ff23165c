use Rattle.std.proofs.Common.{◌≡◌, ap, sym, ◌∙◌, Some}
use Rattle.ld_texts.specs.Known.{lines_at}
use Rattle.ld_texts.specs.Editing.{edited}
use Rattle.ld_texts.specs.Inside.Placed.{with_text_at}
use Rattle.ld_texts.specs.declared.edit.Edit.TheVariants.{Move}
use Rattle.ld_texts.proofs.Changed.{absent_at, moved}
use Rattle.ld_texts.proofs.Placed.{lines_at-stays}
use Rattle.ld_texts.proofs.Refused.{fits, option_or_none}
use Rattle.ld_texts.proofs.texts.Texts.move_file.Goals.{After-moved}
use Rattle.ld_texts.proofs.texts.Texts.move_file.Goals as goal

is_moved : (c : After-moved) → edited c.args.self.now.known (Move c.args.from c.args.to) ≡ with_text_at c.take.new.self.known c.number-target.result.0 (Some c.moved.result)
is_moved c =
    moved c.args.self.now.known c.take.new.self.known c.args.from c.args.to _ _ (Some c.moved.result) c.number-source.ensures.number c.number-target.ensures.number c.take.ensures.known (ap Some c.moved.ensures ∙ sym c.unwrap-lines.ensures ∙ c.take.ensures.text)

pub put-requires-clause-absent : goal.put-requires-clause-absent
put-requires-clause-absent c =
    ap (λ texts. lines_at texts c.number-target.result.0) c.take.ensures.known
    ∙ lines_at-stays c.args.self.now.known c.number-source.result.0 c.number-target.result.0 (absent_at c.args.self.now.known c.args.to _ (option_or_none _ _ (option_or_none _ _ c.requires.fits).0).1 c.number-target.ensures.number)

pub put-requires-clause-fits : goal.put-requires-clause-fits
put-requires-clause-fits c = rw (← is_moved c, c.take.ensures.max_weight) (fits _ c.args.self.now.known (Move c.args.from c.args.to) c.requires.fits)

pub returns-clause-known : goal.returns-clause-known
returns-clause-known c = c.put.ensures.known ∙ sym (moved c.args.self.now.known c.take.new.self.known c.args.from c.args.to _ _ (Some c.moved.result) c.number-source.ensures.number c.number-target.ensures.number c.take.ensures.known (ap Some c.moved.ensures ∙ sym c.unwrap-lines.ensures ∙ c.take.ensures.text))
