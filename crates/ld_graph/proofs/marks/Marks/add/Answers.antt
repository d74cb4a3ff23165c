use Rattle.std.proofs.Common.{◌≡◌, ◌++◌, ◌∷◌, [], false, rules, arith}
use Rattle.std.proofs.lemmas.List.{length_push}
use Rattle.ld_graph.proofs.Marked.{listed_push}
use Rattle.ld_graph.proofs.marks.Marks.add.Goals as goal

pub invariant_of-self : goal.invariant_of-self
invariant_of-self c =
    let pushed : c.push.new.self.items ≡ c.self.inside.marks.items ++ false ∷ [] = search rules in
    let room = rw (← c.self.view_is) at c.requires in
    rw pushed (listed_push c.self.inside.marks.items c.self.inside.list.items c.self.invariant.0, omega (arith, room, length_push c.self.inside.marks.items false))
