use Rattle.std.proofs.Common.{◌≡◌, length}
use Rattle.ld_engine.specs.Found.{sought, sought_among}
use Rattle.ld_engine.proofs.find.seek.Given as goal

abbrev pub invariant-loop-folder : goal.invariant-loop-folder
invariant-loop-folder l = sought_among l.texts.known l.name l.rest ≡ sought l.texts.known l.fn.from l.name

abbrev pub decreases-loop-folder : goal.decreases-loop-folder
decreases-loop-folder l = length l.rest
