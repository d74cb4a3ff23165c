use Rattle.std.proofs.Common.{◌≡◌, ◌+◌, ◌≤◌, length, take, ◌==◌}
use Rattle.std.specs.List.{suffix_len}
use Rattle.ld_num.proofs.print.kept.Given as goal

abbrev pub invariant-loop-count : goal.invariant-loop-count
invariant-loop-count l = record {
  within : l.count ≤ length l.digits;
  zeros : l.count + suffix_len (λ b. b == 48) l.digits ≡ length l.digits + suffix_len (λ b. b == 48) (take l.count l.digits);
}

abbrev pub decreases-loop-count : goal.decreases-loop-count
decreases-loop-count l = l.count
