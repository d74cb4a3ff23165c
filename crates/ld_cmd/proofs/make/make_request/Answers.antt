use Rattle.ld_words.specs.Shown.{options_shown}
use Rattle.ld_cmd.specs.Output.{form_output, generated_output, replay_output}
use Rattle.ld_cmd.specs.Written.{form_of}
use Rattle.ld_cmd.proofs.make.make_request.Goals as goal

pub returns-in-Show-clause-told : goal.returns-in-Show-clause-told
returns-in-Show-clause-told g c =
    rw c.in-Show.is (c.written.ensures.told (g.S.Shelf.files c.args.shelf.now) (form_output (form_of c.in-Show.what) c.in-Show.file.now (options_shown c.args.request.now.options)) c.show_listing.ensures.told)

pub returns-in-Replay-clause-told : goal.returns-in-Replay-clause-told
returns-in-Replay-clause-told g c =
    rw c.in-Replay.is (c.played.ensures.told (g.S.Shelf.files c.args.shelf.now) (replay_output c.in-Replay.file.now c.in-Replay.script.now (options_shown c.args.request.now.options)) c.open_replay.ensures.told)

pub returns-in-Generate-clause-told : goal.returns-in-Generate-clause-told
returns-in-Generate-clause-told g c =
    rw c.in-Generate.is (c.written-in-Generate.ensures.told (g.S.Shelf.files c.args.shelf.now) (generated_output c.in-Generate.count (options_shown c.args.request.now.options)) c.show_generated.ensures.told)
