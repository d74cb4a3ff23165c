use Rattle.std.proofs.Common.{◌≡◌, map, drop}
use Rattle.ld_work.specs.Inside.Answering.{AreGiven, answers_kept}
use Rattle.ld_work.specs.Inside.Rounds.{readers_of}
use Rattle.ld_work.specs.Inside.Staleness.{AreApart, AreVacant}
use Rattle.ld_work.proofs.desk.keep_all.Given as goal

abbrev pub invariant-loop-place : goal.invariant-loop-place
invariant-loop-place l = record {
  readers : readers_of l.desks ≡ readers_of l.fn.desks;
  texts : map (λ desk. desk.text) l.desks ≡ map (λ desk. desk.text) l.fn.desks;
  rest : drop l.place (map (λ desk. desk.answer) l.desks) ≡ drop l.place (map (λ desk. desk.answer) l.fn.desks);
  goes : answers_kept l.cache (drop l.place (map (λ desk. desk.text) l.fn.desks)) (drop l.place (map (λ desk. desk.answer) l.fn.desks)) ≡ answers_kept l.fn.cache (map (λ desk. desk.text) l.fn.desks) (map (λ desk. desk.answer) l.fn.desks);
  given : AreGiven (drop l.place (map (λ desk. desk.answer) l.fn.desks)) → AreGiven (map (λ desk. desk.answer) l.fn.desks);
  vacant : AreVacant l.cache (drop l.place (map (λ desk. desk.text) l.fn.desks));
  apart : AreApart (drop l.place (map (λ desk. desk.text) l.fn.desks));
}
