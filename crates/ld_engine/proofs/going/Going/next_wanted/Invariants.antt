use Rattle.std.proofs.Common.{◌≡◌, ◌-◌, ◌++◌, length}
use Rattle.ld_names.specs.Standing.{Known}
use Rattle.ld_engine.specs.Going.{IsInside, left}
use Rattle.ld_engine.proofs.going.Going.next_wanted.Given as goal

abbrev pub invariant-loop-id : goal.invariant-loop-id
invariant-loop-id l = record {
  inside : IsInside l.texts.known l.self.texts;
  rest : (more : Known) → left (l.texts.known ++ more) l.fn.self ≡ left (l.texts.known ++ more) l.self;
}

abbrev pub decreases-loop-id : goal.decreases-loop-id
decreases-loop-id l = length l.texts.known - l.self.place
