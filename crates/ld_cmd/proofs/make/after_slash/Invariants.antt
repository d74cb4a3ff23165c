use Rattle.std.proofs.Common.{◌≡◌, length, cond}
use Rattle.std.specs.List.{list_any}
use Rattle.ld_cmd.specs.Output.{after_slash, is_slash}
use Rattle.ld_cmd.proofs.make.after_slash.Given as goal

abbrev pub invariant-loop-first : goal.invariant-loop-first
invariant-loop-first l = cond (list_any is_slash l.rest) (after_slash l.rest) l.last ≡ after_slash l.word

abbrev pub decreases-loop-first : goal.decreases-loop-first
decreases-loop-first l = length l.rest
