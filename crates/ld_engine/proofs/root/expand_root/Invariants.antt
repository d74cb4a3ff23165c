use Rattle.std.proofs.Common.{◌≡◌, [], None, length, drop}
use Rattle.std.specs.Vec.Iter.{into_iter_items}
use Rattle.ld_entry.specs.NumberedTexts.{known_texts}
use Rattle.ld_engine.specs.Inside.Meeting.{AreMets}
use Rattle.ld_engine.proofs.Rooted.{IsRooted}
use Rattle.ld_engine.proofs.root.expand_root.Given as goal

abbrev pub invariant-loop-line : goal.invariant-loop-line
invariant-loop-line l = record {
  read : AreMets (known_texts l.texts.known) l.reading.lists.items;
  way : l.way.items ≡ [];
  left : into_iter_items l.rest ≡ drop l.number ((known_texts l.texts.known).lines l.root);
  endless : l.given.end ≡ None;
  rooted : IsRooted l.most l.left (known_texts l.texts.known) l.root l.given.entries.items l.given.line_ends.items l.state l.number;
}

abbrev pub decreases-loop-line : goal.decreases-loop-line
decreases-loop-line l = length (into_iter_items l.rest)
