use Rattle.std.proofs.Common.{subst}
use Rattle.std.proofs.lemmas.Option.{IfSome_then}
use Rattle.ld_colour.specs.Table.{counting}
use Rattle.ld_io.specs.Shelf.{Files}
use Rattle.ld_words.specs.Shown.{options_shown}
use Rattle.ld_cmd.specs.Made.{Makes}
use Rattle.ld_cmd.specs.Output.{answered_output}
use Rattle.ld_cmd.specs.Written.{Output}
use Rattle.ld_cmd.proofs.Opening.{model-told}
use Rattle.ld_cmd.proofs.model.show_model.Goals as goal

pub returns-in-Ok-clause-told : goal.returns-in-Ok-clause-told
returns-in-Ok-clause-told g c =
    let show = answered_output c.args.what (counting c.args.table.now) in
    let loaded = rw c.in_ok-workspace.ensures.limits at c.in-Ok.ensures.loaded in
    IfSome_then (g.S.Shelf.files c.args.shelf.now) c.show_main.ensures.told (λ (files : Files) told.
    subst (λ (wanted : Output). Makes wanted c.show_main.result) (model-told show (options_shown c.args.options.now) files c.args.own.now c.args.bytes.now c.load_model.new.workspace.texts.known c.in-Ok.main loaded c.in-Ok.ensures.main) told)
