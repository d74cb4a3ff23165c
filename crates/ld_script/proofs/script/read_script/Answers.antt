use Rattle.std.proofs.Common.{arith, ap, ◌∙◌, ◌++◌}
use Rattle.ld_line.specs.Cut.{lines_from}
use Rattle.ld_script.specs.Script.{commands_from, commands_of}
use Rattle.ld_script.proofs.script.read_script.Goals as goal

pub loop-line-init : goal.loop-line-init
unfolding commands_of
loop-line-init c =
    (ap (λ items. items ++ commands_from 1 (lines_from c.unmarked-rest.result.now)) c.new-commands.ensures.items ∙ ap (commands_from 1) c.unmarked-rest.ensures.lines, omega (arith, c.unmarked-rest.ensures.shorter))
