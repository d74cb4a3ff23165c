use Rattle.std.proofs.Common.{◌≡◌, ◌≤◌, ◌<◌, ap, length, min, subst, arith}
use Rattle.ld_entry.specs.declared.entry.Expansion.{Expansion}
use Rattle.ld_work.specs.Inside.Working.{texts_of}
use Rattle.ld_work.proofs.Within.{over, within-is}
use Rattle.ld_work.proofs.text.expand_within.Goals as goal

pub returns-then-as_slice-room-clause-fits : goal.returns-then-as_slice-room-clause-fits
returns-then-as_slice-room-clause-fits c =
    let room = c.args.room in
    let given = c.in_ok-expansion.expansion in
    let least : c.min.result ≡ min room.bounds.entries room.entries = omega arith in
    let slice : length c.as_slice.result.now ≡ length given.entries = ap length c.as_slice.ensures in
    let many : room.entries < length given.entries = omega arith in
    over (texts_of c.args.reader.now) room.bounds.depth room.bounds.entries room.entries c.min.result c.args.id given c.in_ok-expansion.ensures.exactly least many

pub returns-clause-fits : goal.returns-clause-fits
returns-clause-fits c =
    let room = c.args.room in
    let given = c.in_ok-expansion.expansion in
    let least : c.min.result ≡ min room.bounds.entries room.entries = omega arith in
    let slice : length c.as_slice.result.now ≡ length given.entries = ap length c.as_slice.ensures in
    let few : length given.entries ≤ room.entries = omega arith in
    let is = within-is (texts_of c.args.reader.now) room.bounds.depth room.bounds.entries room.entries c.min.result c.args.id given c.in_ok-expansion.ensures.exactly least few in
    (is, subst (λ (e : Expansion). length e.entries ≤ room.entries) is few)
