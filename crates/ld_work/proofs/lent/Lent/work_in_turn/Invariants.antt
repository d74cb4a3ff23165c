use Rattle.std.proofs.Common.{◌≡◌, ◌≤◌, ◌<◌, ℕ, length, get_or}
use Rattle.ld_work.specs.Inside.Rounds.{IsDone}
use Rattle.ld_work.specs.declared.desk.Desk.{Desk}
use Rattle.ld_work.proofs.lent.Lent.work_in_turn.Given as goal

abbrev pub invariant-loop-index : goal.invariant-loop-index
invariant-loop-index g l = record {
  long : length l.desks ≡ length l.fn.desks;
  done : (i : ℕ) (d : Desk) → i < l.index → IsDone l.fn.self (get_or l.fn.desks i d) (get_or l.desks i d);
  rest : (i : ℕ) (d : Desk) → l.index ≤ i → get_or l.desks i d ≡ get_or l.fn.desks i d;
}
