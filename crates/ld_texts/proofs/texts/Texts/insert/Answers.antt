use Rattle.std.proofs.Common.{sym, subst, ◌∙◌, ◌-◌}
use Rattle.std.specs.List.{insert}
use Rattle.ld_texts.specs.Learning.{Texts}
use Rattle.ld_texts.specs.Inside.Kept.{IsWithin}
use Rattle.ld_texts.specs.declared.edit.Edit.TheVariants.{Insert}
use Rattle.ld_texts.proofs.Changed.{altered, insert_room}
use Rattle.ld_texts.proofs.Refused.{fits}
use Rattle.ld_texts.proofs.texts.Texts.insert.Goals as goal

pub insert-requires-clause-weight : goal.insert-requires-clause-weight
insert-requires-clause-weight c =
    let within = subst (λ (texts : Texts). IsWithin texts.known c.self.inside.weight texts.max_files texts.max_weight) c.self.view_is c.self.invariant.0 in
    insert_room c.args.self.now.known c.take.new.self.known c.args.file c.number-id.result.0 c.take.result c.unwrap-lines.result c.args.line c.args.text c.self.inside.weight c.args.self.now.max_files c.args.self.now.max_weight c.number-id.ensures.number c.take.ensures.text c.unwrap-lines.ensures c.take.ensures.known within c.requires.fits

pub put-requires-clause-fits : goal.put-requires-clause-fits
put-requires-clause-fits c =
    let is = altered _ _ _ _ _ _ _ (λ lines. insert lines (c.args.line - 1) c.args.text) c.number-id.ensures.number c.take.ensures.text c.unwrap-lines.ensures c.take.ensures.known c.insert.ensures in
    rw (← is, c.take.ensures.max_weight) (fits _ c.args.self.now.known (Insert c.args.file c.args.line c.args.text) c.requires.fits)

pub returns-clause-known : goal.returns-clause-known
returns-clause-known c =
    let is = altered _ _ _ _ _ _ _ (λ lines. insert lines (c.args.line - 1) c.args.text) c.number-id.ensures.number c.take.ensures.text c.unwrap-lines.ensures c.take.ensures.known c.insert.ensures in
    c.put.ensures.known ∙ sym is
