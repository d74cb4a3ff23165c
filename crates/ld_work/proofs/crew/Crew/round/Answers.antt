use Rattle.std.proofs.Common.{◌≡◌, map, ap, sym, ◌∙◌, subst, arith}
use Rattle.ld_work.specs.Filling.{reads_all}
use Rattle.ld_work.specs.Inside.Answering.{answers_kept}
use Rattle.ld_work.specs.Inside.Lent.{basis_at}
use Rattle.ld_work.specs.Inside.Rounds.{AreAnswers, known_at, readers_of, room_of}
use Rattle.ld_work.specs.Inside.Staleness.{AreApart, AreVacant}
use Rattle.ld_work.specs.Readers.{AreOver, KeepTexts, reads_together}
use Rattle.ld_work.specs.declared.desk.Desk.{Desk}
use Rattle.ld_work.proofs.Answered.{answers-filled, answers-partly, few-answers}
use Rattle.ld_work.proofs.Crewed.{done-answers, done-keep, done-reads, done-texts, may-all, on-ok}
use Rattle.ld_work.proofs.crew.Crew.round.Goals as goal

pub work-requires-clause-may : goal.work-requires-clause-may
work-requires-clause-may g c κs within =
    let over : AreOver (known_at c.args.desks.now) (readers_of c.seat_all.new.desks) = subst (AreOver (known_at c.args.desks.now)) (sym c.seat_all.ensures.readers) c.requires.over in
    may-all (known_at c.args.desks.now) c.args.self.now.graph.now c.args.self.now.bounds c.args.cache.now c.seat_all.new.desks c.requires.can over

pub keep_all-requires-clause-vacant : goal.keep_all-requires-clause-vacant
keep_all-requires-clause-vacant g c =
    let texts = done-texts _ c.seat_all.new.desks c.work.new.desks c.work.ensures.long c.work.ensures.each ∙ c.seat_all.ensures.texts in
    subst (AreVacant c.args.cache.now) (sym texts) c.requires.stale.vacant

pub keep_all-requires-clause-apart : goal.keep_all-requires-clause-apart
keep_all-requires-clause-apart g c =
    let texts = done-texts _ c.seat_all.new.desks c.work.new.desks c.work.ensures.long c.work.ensures.each ∙ c.seat_all.ensures.texts in
    subst AreApart (sym texts) c.requires.stale.apart

pub keep_all-requires-clause-few : goal.keep_all-requires-clause-few
keep_all-requires-clause-few g c =
    let over : AreOver (known_at c.args.desks.now) (readers_of c.seat_all.new.desks) = subst (AreOver (known_at c.args.desks.now)) (sym c.seat_all.ensures.readers) c.requires.over in
    few-answers (known_at c.args.desks.now) c.args.self.now.bounds c.requires.can.within c.args.cache.now (map (λ (desk : Desk). desk.text) c.seat_all.new.desks) (map (λ (desk : Desk). desk.answer) c.work.new.desks) (done-answers _ (known_at c.args.desks.now) c.seat_all.new.desks c.work.new.desks c.work.ensures.long c.work.ensures.each over)

pub returns-clause-texts : goal.returns-clause-texts
returns-clause-texts g c =
    let keep : KeepTexts (readers_of c.seat_all.new.desks) (readers_of c.work.new.desks) = done-keep _ c.seat_all.new.desks c.work.new.desks c.work.ensures.long c.work.ensures.each in
    subst (KeepTexts (readers_of c.args.desks.now)) (sym c.keep_all.ensures.readers) (subst (λ rs. KeepTexts rs (readers_of c.work.new.desks)) c.seat_all.ensures.readers keep)

pub returns-clause-partly : goal.returns-clause-partly
returns-clause-partly g c =
    let known = known_at c.args.desks.now in
    let bounds = c.args.self.now.bounds in
    let cache = c.args.cache.now in
    let answers = map (λ (desk : Desk). desk.answer) c.work.new.desks in
    let over : AreOver known (readers_of c.seat_all.new.desks) = subst (AreOver known) (sym c.seat_all.ensures.readers) c.requires.over in
    let are : AreAnswers (basis_at known bounds cache) (room_of cache) c.args.front.now answers = subst (λ ts. AreAnswers (basis_at known bounds cache) (room_of cache) ts answers) c.seat_all.ensures.texts (done-answers _ known c.seat_all.new.desks c.work.new.desks c.work.ensures.long c.work.ensures.each over) in
    let texts : map (λ (desk : Desk). desk.text) c.work.new.desks ≡ c.args.front.now = done-texts _ c.seat_all.new.desks c.work.new.desks c.work.ensures.long c.work.ensures.each ∙ c.seat_all.ensures.texts in
    let part = answers-partly known bounds c.requires.can.within cache cache c.args.front.now answers (omega arith) c.requires.stale are in
    (part.0, c.keep_all.ensures.exactly ∙ ap (λ ts. answers_kept cache ts answers) texts ∙ part.1)

pub returns-clause-exactly : goal.returns-clause-exactly
returns-clause-exactly g c =
    let known = known_at c.args.desks.now in
    let bounds = c.args.self.now.bounds in
    let cache = c.args.cache.now in
    let answers = map (λ (desk : Desk). desk.answer) c.work.new.desks in
    let over : AreOver known (readers_of c.seat_all.new.desks) = subst (AreOver known) (sym c.seat_all.ensures.readers) c.requires.over in
    let are : AreAnswers (basis_at known bounds cache) (room_of cache) c.args.front.now answers = subst (λ ts. AreAnswers (basis_at known bounds cache) (room_of cache) ts answers) c.seat_all.ensures.texts (done-answers _ known c.seat_all.new.desks c.work.new.desks c.work.ensures.long c.work.ensures.each over) in
    let texts : map (λ (desk : Desk). desk.text) c.work.new.desks ≡ c.args.front.now = done-texts _ c.seat_all.new.desks c.work.new.desks c.work.ensures.long c.work.ensures.each ∙ c.seat_all.ensures.texts in
    on-ok c.keep_all.result (λ given. c.keep_all.ensures.exactly ∙ ap (λ ts. answers_kept cache ts answers) texts ∙ answers-filled known bounds c.requires.can.within cache cache c.args.front.now answers (omega arith) c.requires.stale are given) c.keep_all.ensures.given

pub returns-clause-reads : goal.returns-clause-reads
returns-clause-reads g c =
    let known = known_at c.args.desks.now in
    let over : AreOver known (readers_of c.seat_all.new.desks) = subst (AreOver known) (sym c.seat_all.ensures.readers) c.requires.over in
    let few = done-reads _ known c.seat_all.new.desks c.work.new.desks c.work.ensures.long c.work.ensures.each over in
    let after = ap reads_together c.keep_all.ensures.readers in
    let before = ap reads_together c.seat_all.ensures.readers in
    let lines = ap (reads_all (basis_at known c.args.self.now.bounds c.args.cache.now)) c.seat_all.ensures.texts in
    omega arith
