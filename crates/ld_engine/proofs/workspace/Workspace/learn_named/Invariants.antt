use Rattle.std.proofs.Common.{◌≡◌, ◌-◌, ◌≤◌, length, None}
use Rattle.std.specs.Prelude.{IfSome}
use Rattle.ld_engine.specs.Editing.{wanted_by}
use Rattle.ld_engine.specs.Learning.{LearnsBy, learning_by}
use Rattle.ld_engine.proofs.workspace.Workspace.learn_named.Given as goal

abbrev pub invariant-loop-file : goal.invariant-loop-file
invariant-loop-file g l = record {
  limits : l.self.limits ≡ l.fn.self.limits;
  learns : LearnsBy (wanted_by l.edit) l.fn.self.texts.known l.self.texts.known;
  told : IfSome (g.S.Shelf.files l.fn.shelf) (λ files. learning_by l.fn.self.limits files (wanted_by l.edit) l.fn.self.texts.known ≡ learning_by l.fn.self.limits files (wanted_by l.edit) l.self.texts.known);
  same : g.S.Shelf.files l.shelf ≡ g.S.Shelf.files l.fn.shelf;
  unread : wanted_by l.edit l.fn.self.texts.known ≡ None → l.shelf ≡ l.fn.shelf;
  never_falls : g.S.Shelf.faults l.fn.shelf ≤ g.S.Shelf.faults l.shelf;
}

abbrev pub decreases-loop-file : goal.decreases-loop-file
decreases-loop-file g l = l.self.limits.texts - length l.self.texts.known
