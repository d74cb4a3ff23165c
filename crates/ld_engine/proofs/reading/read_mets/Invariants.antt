use Rattle.std.proofs.Common.{◌≤◌, ◌-◌, length}
use Rattle.ld_entry.specs.NumberedTexts.{known_texts}
use Rattle.ld_engine.proofs.Meetings.{IsRead}
use Rattle.ld_engine.proofs.reading.read_mets.Given as goal

abbrev pub invariant-loop-line : goal.invariant-loop-line
invariant-loop-line l = record {
  read : IsRead (known_texts l.texts.known) l.text l.mets.items l.state l.before;
  within : l.before ≤ length ((known_texts l.texts.known).lines l.text);
}

abbrev pub decreases-loop-line : goal.decreases-loop-line
decreases-loop-line l = length ((known_texts l.texts.known).lines l.text) - l.before
