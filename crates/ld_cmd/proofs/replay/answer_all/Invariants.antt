use Rattle.std.proofs.Common.{◌≡◌, ◌≤◌, ℕ, List, Option, IfSome, is_some, length}
use Rattle.ld_cmd.specs.Ending.{StandsInFront}
use Rattle.ld_cmd.specs.Leaving.{Leaves}
use Rattle.ld_cmd.specs.Playing.{played}
use Rattle.ld_cmd.specs.Replying.{setting_shown}
use Rattle.ld_cmd.specs.declared.status.Status.{Status}
use Rattle.ld_cmd.proofs.replay.answer_all.Given as goal

abbrev pub invariant-loop-command : goal.invariant-loop-command
invariant-loop-command g l = record {
  limits : l.workspace.limits ≡ l.setting.limits;
  few : length l.rest ≤ length l.commands;
  unput : length l.rest ≡ length l.commands → l.out ≡ l.initial.out;
  same : g.S.Shelf.files l.shelf ≡ g.S.Shelf.files l.initial.shelf;
  told_same : is_some (g.K.Sink.taken l.out) ≡ is_some (g.K.Sink.taken l.initial.out);
  read : g.S.Shelf.faults l.initial.shelf ≤ g.S.Shelf.faults l.shelf;
  written : g.K.Sink.faults l.initial.out ≤ g.K.Sink.faults l.out;
  in_front : IfSome (g.K.Sink.taken l.initial.out) (λ before. StandsInFront before (g.K.Sink.taken l.out));
  leaves : (status : Status) (after : Option (List ℕ)) → Leaves (g.S.Shelf.files l.shelf) (λ files. played (setting_shown l.setting) files l.workspace.texts.known l.rest) status (g.K.Sink.taken l.out) after → Leaves (g.S.Shelf.files l.initial.shelf) (λ files. played (setting_shown l.setting) files l.initial.workspace.texts.known l.commands) status (g.K.Sink.taken l.initial.out) after;
}

abbrev pub decreases-loop-command : goal.decreases-loop-command
decreases-loop-command g l = length l.rest
