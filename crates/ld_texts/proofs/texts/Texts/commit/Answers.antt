use Rattle.std.proofs.Common.{◌≡◌, ◌∙◌, ap, sym}
use Rattle.std.specs.Vec.{vec_capacity}
use Rattle.ld_texts.specs.Editing.{edit_change}
use Rattle.ld_texts.specs.Inside.Made.{ready_of}
use Rattle.ld_texts.specs.Learning.{Apply, change_of}
use Rattle.ld_texts.proofs.Edited.{change-stays}
use Rattle.ld_texts.proofs.texts.Texts.commit.Goals as goal

pub returns-in-Edit-clause-change : goal.returns-in-Edit-clause-change
returns-in-Edit-clause-change c =
    let ready : c.args.ready ≡ Apply c.in-Edit.edit (vec_capacity c.in-Edit.room) = sym c.ready.view_is ∙ ap ready_of c.in-Edit.is in
    ap (change_of c.change.new.self.known) ready
    ∙ ap (λ known. edit_change known c.in-Edit.edit) (rw c.in-Edit.edit-is at c.change.ensures.known)
    ∙ change-stays c.args.self.now.known c.in-Edit.edit ∙ rw c.in-Edit.edit-is at c.change.ensures.change
