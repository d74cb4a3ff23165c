use Rattle.std.proofs.Common.{◌≡◌, ◌≤◌, ◌-◌, length, take}
use Rattle.ld_entry.specs.NumberedTexts.{known_texts}
use Rattle.ld_engine.proofs.root.read_lines.Given as goal

abbrev pub invariant-loop-line : goal.invariant-loop-line
invariant-loop-line l = record {
  read : l.lines.items ≡ take l.before ((known_texts l.texts.known).lines l.text);
  within : l.before ≤ length ((known_texts l.texts.known).lines l.text);
}

abbrev pub decreases-loop-line : goal.decreases-loop-line
decreases-loop-line l = length ((known_texts l.texts.known).lines l.text) - l.before
