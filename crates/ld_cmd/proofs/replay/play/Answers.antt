use Rattle.ld_cmd.proofs.HaveBytes.{unput-played}
use Rattle.ld_cmd.proofs.Leaves.{leaves-ends, leaves-takes}
use Rattle.ld_cmd.specs.Replying.{session_output, setting_shown}
use Rattle.ld_cmd.proofs.replay.play.Goals as goal

pub returns-clause-status : goal.returns-clause-status
returns-clause-status g c = leaves-ends (g.S.Shelf.files c.args.shelf.now) (session_output c.args.session) c.answer_all.result (g.K.Sink.taken c.args.out.now) (g.K.Sink.taken c.answer_all.new.out) (rw c.as_slice.ensures.value at c.answer_all.ensures.leaves)

pub returns-clause-taken : goal.returns-clause-taken
returns-clause-taken g c = leaves-takes (g.S.Shelf.files c.args.shelf.now) (session_output c.args.session) c.answer_all.result (g.K.Sink.taken c.args.out.now) (g.K.Sink.taken c.answer_all.new.out) (rw c.as_slice.ensures.value at c.answer_all.ensures.leaves)

pub returns-clause-unput : goal.returns-clause-unput
returns-clause-unput g c = unput-played (setting_shown c.args.session.setting) (g.S.Shelf.files c.args.shelf.now) c.args.session.workspace.texts.known c.args.session.commands.items c.args.out.now c.answer_all.new.out (rw c.as_slice.ensures.value at c.answer_all.ensures.unput)
