use Rattle.std.proofs.Common.{◌-◌, min, length, sym, ap, subst, arith, vec_capacity}
use Rattle.std.proofs.lemmas.Result.{IfOk-weaker}
use Rattle.ld_graph.specs.Seen.{HasRoomToLearn}
use Rattle.ld_graph.proofs.Preparing.{graph_of, keeps_graph}
use Rattle.ld_graph.proofs.graph.Graph.prepare_learn.Goals as goal

pub returns-in_err-reserve_text-clause-same : goal.returns-in_err-reserve_text-clause-same
returns-in_err-reserve_text-clause-same c =
    let room = min (vec_capacity c.self.inside.heights - length c.self.inside.heights.items) c.self.inside.marks.room in
    rw (c.self.view_is) at (keeps_graph c.self.inside.depth c.self.inside.links c.reserve_text.new.self room room c.reserve_text.ensures.same (omega arith))

pub returns-in_err-reserve-clause-same : goal.returns-in_err-reserve-clause-same
returns-in_err-reserve-clause-same c =
    let room = min (vec_capacity c.self.inside.heights - length c.self.inside.heights.items) c.self.inside.marks.room in
    let more = min (vec_capacity c.reserve.new.self - length c.reserve.new.self.items) c.self.inside.marks.room in
    rw (c.self.view_is) at (keeps_graph c.self.inside.depth c.self.inside.links c.reserve_text.new.self room more c.reserve_text.ensures.same (omega (arith, ap length c.reserve.ensures.items, c.reserve.ensures.capacity)))

pub returns-in_err-reserve-2-clause-same : goal.returns-in_err-reserve-2-clause-same
returns-in_err-reserve-2-clause-same c =
    let room = min (vec_capacity c.self.inside.heights - length c.self.inside.heights.items) c.self.inside.marks.room in
    let more = min (vec_capacity c.reserve.new.self - length c.reserve.new.self.items) c.reserve-2.new.self.room in
    rw (c.self.view_is) at (keeps_graph c.self.inside.depth c.self.inside.links c.reserve_text.new.self room more c.reserve_text.ensures.same (omega (arith, ap length c.reserve.ensures.items, c.reserve.ensures.capacity, c.reserve-2.ensures.kept)))

pub returns-clause-room : goal.returns-clause-room
returns-clause-room c =
    IfOk-weaker c.new.result _ _
    (λ learning is. subst (HasRoomToLearn (graph_of c.self.inside.depth c.keep_listed.new.self (min (vec_capacity c.reserve.new.self - length c.reserve.new.self.items) c.reserve-2.new.self.room))) (sym is) (record {
      room = omega (arith, c.in_ok-reserve_text.ensures.room, c.keep.ensures.same.room, c.keep_listed.ensures.same.room, c.in_ok-reserve.ensures.ok, ap length c.reserve.ensures.items, c.in_ok-reserve-2.ensures.room, c.reserve.ensures.len);
      file = c.keep_listed.ensures.same.places c.args.file.now.name c.in_ok-keep.ensures.place;
      names = c.in_ok-keep_listed.ensures.spares;
    }))
    c.new.ensures
