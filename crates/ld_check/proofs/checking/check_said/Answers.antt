use Rattle.std.proofs.lemmas.Result.{on_ok_weaker}
use Rattle.ld_check.proofs.Spoken.{said_each}
use Rattle.ld_check.proofs.checking.check_said.Goals as goal

pub returns : goal.returns
returns c =
    on_ok_weaker c.note-8.result (said_each c.args.number c.args.line.now c.args.into.now.items c.is_malformed.ensures c.is_out_of_range.ensures c.is_unnamed.ensures c.has_equal_points.ensures c.is_straight_triangle.ensures c.is_bent_quad.ensures c.is_uneven_quad.ensures c.is_singular_reference.ensures c.in_ok-note.ensures c.in_ok-note-2.ensures c.in_ok-note-3.ensures c.in_ok-note-4.ensures c.in_ok-note-5.ensures c.in_ok-note-6.ensures c.in_ok-note-7.ensures) c.note-8.ensures
