use Rattle.std.proofs.Common.{◌≡◌, ◌-◌, ◌++◌, length}
use Rattle.ld_names.specs.Standing.{Known}
use Rattle.ld_texts.specs.Known.{lines_at}
use Rattle.ld_texts.specs.Reach.{lines_in}
use Rattle.ld_engine.specs.Going.{Grows, IsInside, file_rest}
use Rattle.ld_engine.proofs.going.Going.pass_text.Given as goal

abbrev pub invariant-loop-line : goal.invariant-loop-line
invariant-loop-line l = record {
  inside : IsInside l.texts.known l.self.texts;
  grows : Grows l.fn.self.texts l.self.texts;
  place : l.self.place ≡ l.fn.self.place;
  rest : (more : Known) → file_rest l.id.0 (l.texts.known ++ more) l.fn.self ≡ file_rest l.id.0 (l.texts.known ++ more) l.self;
}

abbrev pub decreases-loop-line : goal.decreases-loop-line
decreases-loop-line l = length (lines_in (lines_at l.texts.known l.id.0)) - l.self.lines
