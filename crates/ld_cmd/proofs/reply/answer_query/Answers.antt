use Rattle.std.proofs.lemmas.Option.{IfSome_then}
use Rattle.std.proofs.Common.{◌≡◌, IfSome, subst, sym}
use Rattle.ld_texts.specs.Learning.{Texts}
use Rattle.ld_colour.specs.Table.{counting}
use Rattle.ld_io.specs.Shelf.{Files}
use Rattle.ld_cmd.specs.Playing.{query_reply, query_step}
use Rattle.ld_cmd.specs.Querying.{answer_queried}
use Rattle.ld_cmd.specs.Replying.{Replies}
use Rattle.ld_cmd.proofs.Steps.{step-told}
use Rattle.ld_cmd.proofs.reply.answer_query.Goals as goal

pub returns-clause-told : goal.returns-clause-told
returns-clause-told g c =
    let table = counting c.args.table.now in
    let limits = c.args.workspace.now.limits in
    let old = c.args.workspace.now.texts.known in
    let root = c.args.root.now in
    IfSome_then (g.S.Shelf.files c.args.shelf.now) c.ask-answer.ensures.told (λ (files : Files) told.
    let wanted = query_step limits files old c.args.what table root c.args.colour in
    let asked = step-told c.args.what table limits files root c.args.colour old c.ask-answer.new.workspace.texts.known (answer_queried c.ask-answer.result) told in
    let by_texts = subst (λ (texts : Texts). IfSome (answer_queried c.ask-answer.result) (λ given. query_reply c.args.what table texts.known given ≡ wanted)) (sym c.texts.ensures.texts) asked in
    subst (λ (texts : Texts). Replies wanted texts.known c.answer_reply.result) c.texts.ensures.texts (c.answer_reply.ensures.reply wanted by_texts))
