use Rattle.std.proofs.Common.{◌-◌, suc, length}
use Rattle.ld_entry.specs.NumberedTexts.{NumberedTexts}
use Rattle.ld_engine.specs.Inside.Meeting.{AreMets}
use Rattle.ld_engine.proofs.reading.Reading.keep.Given as goal

abbrev pub invariant-loop-self : goal.invariant-loop-self
invariant-loop-self l = (texts : NumberedTexts) → AreMets texts l.fn.self.lists.items → AreMets texts l.self.lists.items

abbrev pub decreases-loop-self : goal.decreases-loop-self
decreases-loop-self l = suc l.place - length l.self.lists.items
