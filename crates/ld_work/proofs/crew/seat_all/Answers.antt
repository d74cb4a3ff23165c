use Rattle.std.proofs.Common.{◌<◌, ◌+◌, length, refl, arith}
use Rattle.ld_work.specs.declared.desk.Desk.{Desk}
use Rattle.ld_work.proofs.Seats.{set-kept, take-more}
use Rattle.ld_work.proofs.crew.seat_all.Goals as goal

pub loop-place-preserved : goal.loop-place-preserved
loop-place-preserved c =
    let within : c.loop-place.place < length c.loop-place.desks = omega arith in
    let within' : c.loop-place.place < length c.args.front.now = omega arith in
    record {
      texts = take-more (λ (desk : Desk). desk.text) c.loop-place.desks c.args.front.now c.loop-place.place (c.loop-place.place + 1) _ (record { 0 = 0 }) (omega arith) within within' refl c.loop-place.invariant.texts;
      readers = set-kept (λ (desk : Desk). desk.reader) c.args.desks.now c.loop-place.desks c.loop-place.place c.index-desks-place.result _ within refl c.loop-place.invariant.readers;
    }
