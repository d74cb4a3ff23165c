use Rattle.std.proofs.Common.{◌≡◌, ◌≤◌, ◌<◌, ◌-◌, ℕ, length, get_or}
use Rattle.ld_names.specs.declared.file.TextId.{TextId}
use Rattle.ld_work.specs.Inside.Agreeing.{height_in}
use Rattle.ld_work.proofs.crew.round_size.Given as goal

abbrev pub invariant-loop-count : goal.invariant-loop-count
invariant-loop-count l = record {
  some : 0 < l.count;
  within : l.count ≤ length l.rest;
  few : l.count ≤ l.workers;
  level : (i : ℕ) (d : TextId) → i < l.count → height_in l.graph (get_or l.rest i d) ≡ l.level;
}

abbrev pub decreases-loop-count : goal.decreases-loop-count
decreases-loop-count l = length l.rest - l.count
