use Rattle.std.proofs.Common.{◌<◌, ◌^◌}
use Rattle.ld_num.specs.Front.{IsLed}
use Rattle.ld_num.proofs.digits.leading_number.Given as goal

abbrev pub invariant-loop-taken : goal.invariant-loop-taken
invariant-loop-taken l =
    record {
      led : IsLed l.text l.start l.number l.rest l.taken;
      low : l.number < 10 ^ 14;
    }
