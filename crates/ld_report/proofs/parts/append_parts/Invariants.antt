use Rattle.std.proofs.Common.{◌≡◌, ◌++◌, take}
use Rattle.ld_report.specs.Parts.{parts_text}
use Rattle.ld_report.proofs.parts.append_parts.Given as goal

abbrev pub invariant-loop-part : goal.invariant-loop-part
invariant-loop-part l = l.into.items ≡ l.initial.into.items ++ parts_text l.texts.known (take l.part-index l.parts)
