use Rattle.std.proofs.Common.{◌∙◌}
use Rattle.ld_colour.specs.Table.{counting}
use Rattle.ld_words.specs.Shown.{options_shown}
use Rattle.ld_cmd.proofs.Opening.{read-stopped, read-told}
use Rattle.ld_cmd.specs.Output.{answered_output, model_output, own_name}
use Rattle.ld_cmd.proofs.make.show_file.Goals as goal

pub returns-clause-told : goal.returns-clause-told
returns-clause-told g c =
    let files = g.S.Shelf.files c.args.shelf.now in
    let options = options_shown c.args.options.now in
    let own = rw c.as_bytes-2.ensures.value at c.in_ok-own.ensures in
    let makes = rw c.as_slice.ensures at (rw own at c.show_model.ensures.told) in
    read-told c.args.file.now c.in-Ok.bytes options.colours (λ all bytes table. model_output (answered_output c.args.what table) options all (own_name c.args.file.now) bytes) files (counting c.in-Ok-read_table.table) c.show_model.result (rw c.as_bytes.ensures.value at c.in-Ok.ensures.told) (rw c.read_input.ensures.shelf.same at c.in-Ok-read_table.ensures.told) (rw (c.read_table.ensures.shelf.same ∙ c.read_input.ensures.shelf.same) at makes)

pub returns-in-Err-read_table-clause-told : goal.returns-in-Err-read_table-clause-told
returns-in-Err-read_table-clause-told g c =
    let files = g.S.Shelf.files c.args.shelf.now in
    let options = options_shown c.args.options.now in
    read-stopped c.args.file.now c.in-Ok.bytes options.colours (λ all bytes table. model_output (answered_output c.args.what table) options all (own_name c.args.file.now) bytes) files c.in-Err-read_table.stop (rw c.as_bytes.ensures.value at c.in-Ok.ensures.told) (rw c.read_input.ensures.shelf.same at c.in-Err-read_table.ensures.told)
