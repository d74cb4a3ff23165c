use Rattle.std.proofs.Common.{◌≡◌, length}
use Rattle.ld_line.specs.Field.{fields}
use Rattle.ld_colour.specs.Definition.{is_rest}
use Rattle.ld_colour.proofs.definition.is_rest.Given as goal

abbrev pub invariant-loop-word : goal.invariant-loop-word
invariant-loop-word l = is_rest (fields l.rest) ≡ is_rest (fields l.line)

abbrev pub decreases-loop-word : goal.decreases-loop-word
decreases-loop-word l = length (fields l.rest)
