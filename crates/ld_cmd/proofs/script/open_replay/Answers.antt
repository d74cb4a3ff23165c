use Rattle.std.proofs.Common.{◌∙◌}
use Rattle.ld_colour.specs.Table.{counting}
use Rattle.ld_words.specs.Shown.{options_shown}
use Rattle.ld_cmd.proofs.Opening.{replay-told}
use Rattle.ld_cmd.proofs.script.open_replay.Goals as goal

pub returns-clause-told : goal.returns-clause-told
returns-clause-told g c =
    replay-told (g.S.Shelf.files c.args.shelf.now) c.args.file.now c.args.script.now c.in_ok-own.own c.in-Ok.bytes c.in-Ok-read_input.lines (options_shown c.args.options.now) (counting c.in-Ok-read_table.table) c.open_session.result (rw c.as_bytes.ensures.value at c.in-Ok.ensures.told) (rw c.read_input.ensures.shelf.same at (rw c.as_bytes-2.ensures.value at c.in-Ok-read_input.ensures.told)) (rw (c.read_input-2.ensures.shelf.same ∙ c.read_input.ensures.shelf.same) at c.in-Ok-read_table.ensures.told) (rw c.as_bytes-3.ensures.value at c.in_ok-own.ensures) (rw c.as_slice.ensures at (rw c.as_slice-2.ensures at c.open_session.ensures.opens))
