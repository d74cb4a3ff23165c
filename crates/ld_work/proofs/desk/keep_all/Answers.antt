use Rattle.std.proofs.Common.{◌≡◌, ◌<◌, ◌+◌, false, true, length, get_or, map, sym, arith}
use Rattle.ld_work.specs.Inside.Answering.{answers_kept, wants_memory}
use Rattle.ld_work.specs.declared.desk.Desk.{Desk}
use Rattle.ld_work.proofs.Seats.{behind-kept, desk-at, goes-on, set-kept, stops}
use Rattle.ld_work.proofs.desk.keep_all.Goals as goal

pub keep_answer-requires-clause-vacant : goal.keep_answer-requires-clause-vacant
keep_answer-requires-clause-vacant c =
    let within : c.loop-place.place < length c.loop-place.desks = omega arith in
    (desk-at (λ (desk : Desk). desk.text) (λ (desk : Desk). desk.answer) c.args.desks.now c.loop-place.desks c.loop-place.cache c.loop-place.place c.index-desks-place.result within c.loop-place.auto.desks c.loop-place.invariant.texts c.loop-place.invariant.rest c.loop-place.invariant.vacant c.loop-place.invariant.apart c.requires.few).vacant

pub keep_answer-requires-clause-within : goal.keep_answer-requires-clause-within
keep_answer-requires-clause-within c =
    let within : c.loop-place.place < length c.loop-place.desks = omega arith in
    (desk-at (λ (desk : Desk). desk.text) (λ (desk : Desk). desk.answer) c.args.desks.now c.loop-place.desks c.loop-place.cache c.loop-place.place c.index-desks-place.result within c.loop-place.auto.desks c.loop-place.invariant.texts c.loop-place.invariant.rest c.loop-place.invariant.vacant c.loop-place.invariant.apart c.requires.few).within

pub keep_answer-requires-clause-few : goal.keep_answer-requires-clause-few
keep_answer-requires-clause-few c =
    let within : c.loop-place.place < length c.loop-place.desks = omega arith in
    (desk-at (λ (desk : Desk). desk.text) (λ (desk : Desk). desk.answer) c.args.desks.now c.loop-place.desks c.loop-place.cache c.loop-place.place c.index-desks-place.result within c.loop-place.auto.desks c.loop-place.invariant.texts c.loop-place.invariant.rest c.loop-place.invariant.vacant c.loop-place.invariant.apart c.requires.few).few

pub returns-in_err-keep_answer-clause-exactly : goal.returns-in_err-keep_answer-clause-exactly
returns-in_err-keep_answer-clause-exactly c =
    let within : c.loop-place.place < length c.loop-place.desks = omega arith in
    let at = desk-at (λ (desk : Desk). desk.text) (λ (desk : Desk). desk.answer) c.args.desks.now c.loop-place.desks c.loop-place.cache c.loop-place.place c.index-desks-place.result within c.loop-place.auto.desks c.loop-place.invariant.texts c.loop-place.invariant.rest c.loop-place.invariant.vacant c.loop-place.invariant.apart c.requires.few in
    let wants : wants_memory (get_or c.loop-place.desks c.loop-place.place c.index-desks-place.result).answer ≡ true = sym c.in_err-keep_answer.ensures.memory in
    stops (λ (desk : Desk). desk.text) (λ (desk : Desk). desk.answer) c.args.desks.now c.loop-place.desks c.loop-place.cache c.loop-place.place c.index-desks-place.result c.keep_answer.new.cache _ at c.in_err-keep_answer.ensures.exactly wants c.loop-place.invariant.goes

pub returns-in_err-keep_answer-clause-readers : goal.returns-in_err-keep_answer-clause-readers
returns-in_err-keep_answer-clause-readers c =
    let within : c.loop-place.place < length c.loop-place.desks = omega arith in
    set-kept (λ (desk : Desk). desk.reader) c.args.desks.now c.loop-place.desks c.loop-place.place c.index-desks-place.result c.keep_answer.new.desk within c.in_err-keep_answer.ensures.reader c.loop-place.invariant.readers

pub loop-place-preserved : goal.loop-place-preserved
loop-place-preserved c =
    let within : c.loop-place.place < length c.loop-place.desks = omega arith in
    let at = desk-at (λ (desk : Desk). desk.text) (λ (desk : Desk). desk.answer) c.args.desks.now c.loop-place.desks c.loop-place.cache c.loop-place.place c.index-desks-place.result within c.loop-place.auto.desks c.loop-place.invariant.texts c.loop-place.invariant.rest c.loop-place.invariant.vacant c.loop-place.invariant.apart c.requires.few in
    let given : wants_memory (get_or c.loop-place.desks c.loop-place.place c.index-desks-place.result).answer ≡ false = sym c.in_ok-keep_answer.ensures.memory in
    let on = goes-on (λ (desk : Desk). desk.text) (λ (desk : Desk). desk.answer) c.args.desks.now c.loop-place.desks c.loop-place.cache c.loop-place.place c.index-desks-place.result c.keep_answer.new.cache (answers_kept c.args.cache.now (map (λ (desk : Desk). desk.text) c.args.desks.now) (map (λ (desk : Desk). desk.answer) c.args.desks.now)) (c.loop-place.place + 1) (omega arith) (omega arith) at c.in_ok-keep_answer.ensures.exactly given c.loop-place.invariant.goes c.loop-place.invariant.given in
    record {
      readers = set-kept (λ (desk : Desk). desk.reader) c.args.desks.now c.loop-place.desks c.loop-place.place c.index-desks-place.result c.keep_answer.new.desk within c.in_ok-keep_answer.ensures.reader c.loop-place.invariant.readers;
      texts = set-kept (λ (desk : Desk). desk.text) c.args.desks.now c.loop-place.desks c.loop-place.place c.index-desks-place.result c.keep_answer.new.desk within c.in_ok-keep_answer.ensures.text c.loop-place.invariant.texts;
      rest = behind-kept (λ (desk : Desk). desk.answer) c.args.desks.now c.loop-place.desks c.loop-place.place (c.loop-place.place + 1) c.keep_answer.new.desk (omega arith) c.loop-place.invariant.rest;
      goes = on.goes;
      given = on.given;
      vacant = on.vacant;
      apart = on.apart;
    }
