use Rattle.std.proofs.Common.{◌≡◌, ◌++◌, [], ◌∷◌, subst, arith, length-set, false}
use Rattle.ld_graph.specs.Inside.Marking.{IsListed}
use Rattle.ld_graph.proofs.Marked.{last_marked, listed_pop, marked_below}
use Rattle.ld_graph.proofs.marks.Marks.take_last.Goals as goal

pub index_mut-requires : goal.index_mut-requires
index_mut-requires c =
    let items : c.self.inside.list.items ≡ c.pop.new.self.items ++ c.in_ok-text.text ∷ [] = c.in_ok-text.ensures.items in
    let marks = c.self.inside.marks.items in
    let listed : IsListed marks (c.pop.new.self.items ++ c.in_ok-text.text ∷ []) = subst (IsListed marks) items c.self.invariant.0 in
    let below = marked_below marks c.in_ok-text.text (last_marked marks c.pop.new.self.items c.in_ok-text.text listed) in
    omega (arith, below, c.self.inside.marks.ok.0)

pub invariant_of-self-2 : goal.invariant_of-self-2
invariant_of-self-2 c =
    let items : c.self.inside.list.items ≡ c.pop.new.self.items ++ c.in_ok-text.text ∷ [] = c.in_ok-text.ensures.items in
    let marks = c.self.inside.marks.items in
    let listed : IsListed marks (c.pop.new.self.items ++ c.in_ok-text.text ∷ []) = subst (IsListed marks) items c.self.invariant.0 in
    let below = marked_below marks c.in_ok-text.text (last_marked marks c.pop.new.self.items c.in_ok-text.text listed) in
    (listed_pop marks c.pop.new.self.items c.in_ok-text.text below listed, omega (arith, length-set marks c.in_ok-text.text false, c.self.invariant.1, c.pop.ensures.capacity))
