use Rattle.ld_cmd.specs.Replying.{setting_shown}
use Rattle.ld_cmd.specs.declared.status.Status.TheVariants.{Memory, ReadFault}
use Rattle.ld_cmd.proofs.Leaves.{line-ends, none-answered, reply-answers}
use Rattle.ld_cmd.proofs.replay.answer_command.Goals as goal

pub returns-in-Ok-clause-goes_on : goal.returns-in-Ok-clause-goes_on
returns-in-Ok-clause-goes_on g c =
    rw c.reply.ensures.shelf.same (reply-answers (setting_shown c.args.setting.now) (g.S.Shelf.files c.args.shelf.now) c.args.workspace.now.texts.known c.reply.new.workspace.texts.known c.args.command.now c.in-Ok.reply (g.K.Sink.taken c.args.out.now) (g.K.Sink.taken c.put.new.out) c.put.result c.in-Ok.ensures.told c.put.ensures.told_same (rw c.as_slice.ensures at c.put.ensures.whole) (rw c.as_slice.ensures at c.put.ensures.part)).0

pub returns-in-Ok-clause-stops : goal.returns-in-Ok-clause-stops
returns-in-Ok-clause-stops g c =
    (reply-answers (setting_shown c.args.setting.now) (g.S.Shelf.files c.args.shelf.now) c.args.workspace.now.texts.known c.reply.new.workspace.texts.known c.args.command.now c.in-Ok.reply (g.K.Sink.taken c.args.out.now) (g.K.Sink.taken c.put.new.out) c.put.result c.in-Ok.ensures.told c.put.ensures.told_same (rw c.as_slice.ensures at c.put.ensures.whole) (rw c.as_slice.ensures at c.put.ensures.part)).1

pub returns-in-Err-Decided-clause-stops : goal.returns-in-Err-Decided-clause-stops
returns-in-Err-Decided-clause-stops g c =
    line-ends (setting_shown c.args.setting.now) (g.S.Shelf.files c.args.shelf.now) c.args.workspace.now.texts.known c.args.command.now c.in-Err-Decided.made.text.items c.in-Err-Decided.made.status c.put_last.result (g.K.Sink.taken c.args.out.now) (g.K.Sink.taken c.put_last.new.out) (rw c.in-Err-Decided.field-0-is at c.in-Err-Decided.ensures.told) c.put_last.ensures.status (rw c.as_slice-in-Err-Decided.ensures.value at c.put_last.ensures.taken)

pub returns-in-Err-ReadFault-clause-stops : goal.returns-in-Err-ReadFault-clause-stops
returns-in-Err-ReadFault-clause-stops g c =
    none-answered (setting_shown c.args.setting.now) (g.S.Shelf.files c.args.shelf.now) c.args.workspace.now.texts.known c.args.command.now ReadFault (g.K.Sink.taken c.args.out.now) tt

pub returns-in-Err-Memory-clause-stops : goal.returns-in-Err-Memory-clause-stops
returns-in-Err-Memory-clause-stops g c =
    none-answered (setting_shown c.args.setting.now) (g.S.Shelf.files c.args.shelf.now) c.args.workspace.now.texts.known c.args.command.now Memory (g.K.Sink.taken c.args.out.now) tt
