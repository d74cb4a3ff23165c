use Rattle.ld_graph.proofs.Linked.{got, looks_right}
use Rattle.ld_graph.proofs.links.Links.looks_at.Goals as goal

pub returns : goal.returns
returns c =
    let texts = c.self.inside.texts.items in
    let from = got texts c.deref.result.now c.args.user c.in-Some.from.now c.deref.ensures.value c.in-Some.ensures.lookup.0 c.in-Some.ensures.lookup.1 in
    let file = got texts c.deref-2.result.now c.args.text c.in-Some-get.file.now c.deref-2.ensures.value c.in-Some-get.ensures.lookup.0 c.in-Some-get.ensures.lookup.1 in
    rw (← c.self.view_is) (looks_right c.self.inside.nodes texts c.args.user c.args.text c.in-Some.from.now c.in-Some-get.file.now c.looks_in.result from file c.looks_in.ensures)
