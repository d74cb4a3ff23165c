use Rattle.std.proofs.Common.{ap, ◌∙◌, arith, rules}
use Rattle.std.specs.Option.{unwrap_or}
use Rattle.std.proofs.lemmas.Grind.{common_steps}
use Rattle.ld_line.proofs.Steps.{after-step, kept_fields, kept_rest}
use Rattle.ld_line.proofs.number.read_numbers.Goals as goal

pub loop-i-preserved : goal.loop-i-preserved
loop-i-preserved c =
    let so_far = c.loop-i.invariant in
    record {
      numbers = after-step c.loop-i.values c.loop-i.i c.args.count _ _ c.in-Some.number _ _ _ _ c.loop-i-test.true (omega arith) c.in-Some.ensures.numbers (c.unwrap_or.ensures ∙ ap (unwrap_or c.in-Some.number) c.zero.ensures) (search rules) so_far.numbers;
      fields_left = kept_fields c.loop-i.i c.args.line.now c.loop-i.rest.now c.in-Some.more.now c.in-Some.ensures.fields so_far.fields_left;
      rest_left = kept_rest c.loop-i.i c.args.count c.args.line.now c.loop-i.rest.now c.in-Some.more.now c.loop-i-test.true c.in-Some.ensures.rest so_far.rest_left;
      zeros = λ k above. grind (arith, common_steps, so_far.zeros k);
      size = grind (arith, common_steps);
    }
