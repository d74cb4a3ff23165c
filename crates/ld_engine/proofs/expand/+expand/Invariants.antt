use Rattle.std.proofs.Common.{◌≡◌, ◌≤◌, ◌+◌, ◌-◌, ◌*◌, ◌++◌, List, length, drop, None}
use Rattle.ld_entry.specs.Carrying.{Outcome}
use Rattle.ld_entry.specs.NumberedTexts.{known_texts}
use Rattle.ld_entry.specs.Outcomes.{all}
use Rattle.ld_engine.specs.Gathering.{Extends, KeepsWithin, alone, enter_with, gathered}
use Rattle.ld_engine.specs.Inside.Meeting.{AreMets, mets_of, mets_outcomes}
use Rattle.ld_engine.proofs.expand.+expand.Given as goal

abbrev pub decreases-enter_file : goal.decreases-enter_file
decreases-enter_file l = 3 * l.left

abbrev pub decreases-expand_met : goal.decreases-expand_met
decreases-expand_met l = 3 * l.left + 1

abbrev pub decreases-expand_text : goal.decreases-expand_text
decreases-expand_text l = 3 * l.left + 2

abbrev pub invariant-expand_text-loop-met : goal.invariant-expand_text-loop-met
invariant-expand_text-loop-met l = record {
  read : AreMets (known_texts l.texts.known) l.reading.lists.items;
  way : l.way.items ≡ l.fn.way.items;
  extends : Extends l.fn.entries.items l.entries.items;
  few : KeepsWithin l.most l.fn.entries.items l.entries.items;
  within : l.before ≤ length (mets_of (known_texts l.texts.known) l.text);
  rest : (behind : List Outcome) → gathered l.most l.entries.items None (mets_outcomes (enter_with l.left) (known_texts l.texts.known) l.fn.way.items (drop l.before (mets_of (known_texts l.texts.known) l.text)) ++ behind) ≡ gathered l.most l.fn.entries.items None (all l.left (alone (known_texts l.texts.known) l.fn.way.items l.text) ++ behind);
}

abbrev pub decreases-expand_text-loop-met : goal.decreases-expand_text-loop-met
decreases-expand_text-loop-met l = length (mets_of (known_texts l.texts.known) l.text) - l.before
