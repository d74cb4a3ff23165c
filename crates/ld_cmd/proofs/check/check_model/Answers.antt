use Rattle.std.proofs.Common.{◌∙◌, ap}
use Rattle.ld_mpd.specs.Blocks.{text_of}
use Rattle.ld_engine.specs.declared.limits.Limits.{Limits}
use Rattle.ld_cmd.proofs.check.check_model.Goals as goal

pub check_loaded-requires-clause-weight : goal.check_loaded-requires-clause-weight
check_loaded-requires-clause-weight c =
    ap (λ (limits : Limits). limits.total_weight) (c.in-Ok.ensures.limits ∙ c.in_ok-workspace.ensures.limits)

pub check_loaded-requires-clause-first : goal.check_loaded-requires-clause-first
check_loaded-requires-clause-first c = (text_of c.args.own.now c.args.bytes.now, c.in-Ok.ensures.first)
