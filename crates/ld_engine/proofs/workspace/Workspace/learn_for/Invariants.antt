use Rattle.std.proofs.Common.{◌≡◌, ◌-◌, ◌≤◌, ◌++◌, length, None, Some}
use Rattle.std.specs.Prelude.{IfSome}
use Rattle.ld_names.specs.Standing.{Known}
use Rattle.ld_texts.specs.Known.{id_of}
use Rattle.ld_texts.specs.Reach.{reach}
use Rattle.ld_engine.specs.Going.{IsInside, left}
use Rattle.ld_engine.specs.Learning.{LearnsFor, learning, wanted_for}
use Rattle.ld_engine.proofs.workspace.Workspace.learn_for.Given as goal

abbrev pub invariant-loop-going : goal.invariant-loop-going
invariant-loop-going g l = record {
  limits : l.self.limits ≡ l.fn.self.limits;
  learns : LearnsFor l.root l.fn.self.texts.known l.self.texts.known;
  number : id_of l.self.texts.known l.root ≡ Some l.id.0;
  inside : IsInside l.self.texts.known l.going.texts;
  rest : (more : Known) → reach (l.self.texts.known ++ more) l.root ≡ left (l.self.texts.known ++ more) l.going;
  told : IfSome (g.S.Shelf.files l.fn.shelf) (λ files. learning l.fn.self.limits files l.root l.fn.self.texts.known ≡ learning l.fn.self.limits files l.root l.self.texts.known);
  same : g.S.Shelf.files l.shelf ≡ g.S.Shelf.files l.fn.shelf;
  unread : wanted_for l.root l.fn.self.texts.known ≡ None → l.shelf ≡ l.fn.shelf;
  never_falls : g.S.Shelf.faults l.fn.shelf ≤ g.S.Shelf.faults l.shelf;
}

abbrev pub decreases-loop-going : goal.decreases-loop-going
decreases-loop-going g l = l.self.limits.texts - length l.self.texts.known
