use Rattle.std.proofs.Common.{◌≡◌, map, take}
use Rattle.ld_work.specs.Inside.Rounds.{readers_of}
use Rattle.ld_work.proofs.crew.seat_all.Given as goal

abbrev pub invariant-loop-place : goal.invariant-loop-place
invariant-loop-place l = record {
  texts : take l.place (map (λ desk. desk.text) l.desks) ≡ take l.place l.front;
  readers : readers_of l.desks ≡ readers_of l.fn.desks;
}
