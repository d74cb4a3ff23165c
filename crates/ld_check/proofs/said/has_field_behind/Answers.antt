use Rattle.std.proofs.Common.{sym, ◌∙◌}
use Rattle.ld_line.specs.Field.{fields}
use Rattle.ld_check.proofs.Behind.{drop_one, none_left, some_left}
use Rattle.ld_check.proofs.said.has_field_behind.Goals as goal

pub returns-in_default : goal.returns-in_default
returns-in_default c = none_left c.loop.counter c.args.count (fields c.args.bytes.now) c.loop-test.true (sym c.loop.invariant ∙ c.in_default.ensures)

pub loop-preserved : goal.loop-preserved
loop-preserved c = drop_one c.loop.counter (fields c.args.bytes.now) _ _ (sym c.loop.invariant ∙ c.in-Some.ensures.0)

pub returns : goal.returns
returns c = c.has_field.ensures ∙ some_left c.loop.counter c.args.count (fields c.args.bytes.now) _ c.loop-test.false c.loop.auto.counter-end c.loop.invariant
