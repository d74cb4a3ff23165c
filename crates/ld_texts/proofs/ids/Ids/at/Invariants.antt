use Rattle.std.proofs.Common.{◌≡◌, length}
use Rattle.std.specs.Map.{lookup}
use Rattle.ld_names.specs.Standing.{same_folder}
use Rattle.ld_texts.proofs.ids.Ids.at.Given as goal

abbrev pub invariant-loop-rest : goal.invariant-loop-rest
invariant-loop-rest l = lookup (same_folder l.folder) l.rest ≡ lookup (same_folder l.folder) l.self.numbers.items

abbrev pub decreases-loop-rest : goal.decreases-loop-rest
decreases-loop-rest l = length l.rest
