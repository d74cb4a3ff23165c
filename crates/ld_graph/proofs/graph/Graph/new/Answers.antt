use Rattle.std.proofs.Common.{suc, length, refl, ap, sym, arith}
use Rattle.ld_graph.proofs.Heights.{height_past}
use Rattle.ld_graph.proofs.graph.Graph.new.Goals as goal

pub invariant_of-result : goal.invariant_of-result
invariant_of-result c =
    rw (c.new.ensures, c.new-2.ensures.items) (record {
      deep = c.requires.most;
      few = omega arith;
      right = λ text. sym (height_past (suc c.args.depth) text);
      size = refl;
      marks = ap length c.new-3.ensures.marks;
      none = c.new-3.ensures.list;
    })
