use Rattle.std.proofs.lemmas.Option.{IfSome_then}
use Rattle.ld_io.specs.Shelf.{Files}
use Rattle.ld_cmd.proofs.reply.answer_edit.Goals as goal

pub returns-clause-told : goal.returns-clause-told
returns-clause-told g c =
    IfSome_then (g.S.Shelf.files c.args.shelf.now) c.change-edited.ensures.told (λ (files : Files) told. c.edit_reply.ensures.reply _ c.change-edited.new.workspace.texts.known told)
