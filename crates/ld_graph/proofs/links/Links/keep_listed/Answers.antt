use Rattle.ld_graph.proofs.links.Links.keep_listed.Goals as goal

pub returns-in-Some-clause-spares : goal.returns-in-Some-clause-spares
returns-in-Some-clause-spares c = rw (c.in-Some.is, ← c.deref.ensures.value) c.keep_each.ensures.spares
