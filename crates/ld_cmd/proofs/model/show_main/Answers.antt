use Rattle.std.proofs.lemmas.Option.{IfSome_then}
use Rattle.std.proofs.Common.{IfSome, subst, sym}
use Rattle.ld_colour.specs.Colour.{colour_of}
use Rattle.ld_texts.specs.Learning.{Texts}
use Rattle.ld_colour.specs.Table.{counting}
use Rattle.ld_io.specs.Shelf.{Files}
use Rattle.ld_words.specs.Shown.{options_shown}
use Rattle.ld_cmd.specs.Output.{answered_output, limits_of, main_output}
use Rattle.ld_cmd.specs.Querying.{IsFirst, Queries, answer_queried}
use Rattle.ld_cmd.proofs.First.{first-not-absent, first-stays}
use Rattle.ld_cmd.proofs.Queries.{main-told}
use Rattle.ld_cmd.proofs.model.show_main.Goals as goal

pub returns-clause-told : goal.returns-clause-told
returns-clause-told g c =
    let show = answered_output c.args.what (counting c.args.table.now) in
    let options = options_shown c.args.options.now in
    let old = c.args.workspace.now.texts.known in
    let first = subst (λ (texts : Texts). IsFirst c.args.main.now texts.known) (sym c.texts.ensures.texts) (first-stays c.first_law.ensures c.args.main.now c.args.main.now old c.ask-answer.new.workspace.texts.known c.requires.first c.ask-answer.ensures.learns) in
    IfSome_then (g.S.Shelf.files c.args.shelf.now) c.ask-answer.ensures.told (λ (files : Files) told.
    let by_limits = subst (λ limits. IfSome (answer_queried c.ask-answer.result) (λ given. Queries limits files c.args.main.now c.colour_of.result old c.ask-answer.new.workspace.texts.known given)) c.requires.limits told in
    let by_colour = subst (λ colour. IfSome (answer_queried c.ask-answer.result) (λ given. Queries (limits_of options) files c.args.main.now colour old c.ask-answer.new.workspace.texts.known given)) c.colour_of.ensures by_limits in
    let asked = subst (λ (texts : Texts). IfSome (answer_queried c.ask-answer.result) (λ given. Queries (limits_of options) files c.args.main.now (colour_of options.main) old texts.known given)) (sym c.texts.ensures.texts) by_colour in
    c.show_answer.ensures.shown (main_output show options files c.args.main.now old) (main-told show options files c.args.main.now c.first_law.ensures old c.texts.result.now.known first (answer_queried c.ask-answer.result) asked))

pub show_answer-requires-clause-root : goal.show_answer-requires-clause-root
show_answer-requires-clause-root g c = λ is.
    first-not-absent c.first_law.ensures c.args.main.now c.ask-answer.new.workspace.texts.known (first-stays c.first_law.ensures c.args.main.now c.args.main.now c.args.workspace.now.texts.known c.ask-answer.new.workspace.texts.known c.requires.first c.ask-answer.ensures.learns) (c.ask-answer.ensures.no_root is)
