use Rattle.std.proofs.Common.{◌≡◌, drop}
use Rattle.ld_line.specs.Field.{fields}
use Rattle.ld_check.proofs.said.has_field_behind.Given as goal

abbrev pub invariant-loop : goal.invariant-loop
invariant-loop l = fields l.rest ≡ drop l.counter (fields l.bytes)
