use Rattle.std.proofs.Common.{◌≡◌, ◌∙◌, false, get_or, sym, arith}
use Rattle.std.proofs.lemmas.List.{get_or_default}
use Rattle.ld_graph.proofs.Marked.{room_for}
use Rattle.ld_graph.proofs.marks.Marks.mark.Goals as goal

pub unwrap-requires : goal.unwrap-requires
unwrap-requires c =
    let marks = c.self.inside.marks.items in
    let lt = rw (← c.self.view_is) at c.requires in
    let un : get_or marks c.args.text false ≡ false = get_or_default marks c.args.text false c.index.result.now lt ∙ sym c.index.ensures ∙ c.if-not-index.true in
    let room = room_for marks c.args.text lt un in
    c.push.ensures.succeeds (omega (arith, c.self.invariant.0.count, room, c.self.invariant.1))
