use Rattle.std.proofs.Common.{◌-◌, min, length, sym, ap, subst, arith, vec_capacity}
use Rattle.std.proofs.lemmas.Result.{IfOk-weaker}
use Rattle.ld_graph.specs.Seen.{HasRoomToEdit}
use Rattle.ld_graph.proofs.Preparing.{graph_of, keeps_graph}
use Rattle.ld_graph.proofs.graph.Graph.prepare_edit.Goals as goal

pub returns-in_err-keep_listed-clause-same : goal.returns-in_err-keep_listed-clause-same
returns-in_err-keep_listed-clause-same c =
    let room = min (vec_capacity c.self.inside.heights - length c.self.inside.heights.items) c.self.inside.marks.room in
    rw (c.self.view_is) at (keeps_graph c.self.inside.depth c.self.inside.links c.keep_listed.new.self room room c.keep_listed.ensures.same (omega arith))

pub overflow_cast-len : goal.overflow_cast-len
overflow_cast-len c = omega (arith, c.self.invariant.few, c.self.invariant.size, c.len.ensures, c.self.inside.heights.ok.0)

pub returns-clause-room : goal.returns-clause-room
returns-clause-room c =
    IfOk-weaker c.new.result _ _
    (λ editing is. subst (HasRoomToEdit (graph_of c.self.inside.depth c.keep_listed.new.self (min (vec_capacity c.self.inside.heights - length c.self.inside.heights.items) c.self.inside.marks.room))) (sym is) (record {
      names = c.in_ok-keep_listed.ensures.spares;
      texts = omega (arith, c.self.invariant.size, ap length c.keep_listed.ensures.same.items, c.len.ensures, c.self.inside.heights.ok.0);
    }))
    c.new.ensures

pub returns-clause-same : goal.returns-clause-same
returns-clause-same c =
    let room = min (vec_capacity c.self.inside.heights - length c.self.inside.heights.items) c.self.inside.marks.room in
    rw (c.self.view_is) at (keeps_graph c.self.inside.depth c.self.inside.links c.keep_listed.new.self room room c.keep_listed.ensures.same (omega arith))
