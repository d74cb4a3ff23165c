use Rattle.std.proofs.Common.{◌≡◌, ◌∙◌, Some, ap, sym}
use Rattle.ld_names.specs.Standing.{folders_of}
use Rattle.ld_graph.specs.Items.{first_present}
use Rattle.ld_graph.specs.Inside.Linking.{is_there, node_of}
use Rattle.ld_graph.specs.Inside.Nodes.{number_in}
use Rattle.ld_graph.proofs.Linked.{found_right, got}
use Rattle.ld_graph.proofs.links.Links.found.Goals as goal

pub returns : goal.returns
returns c =
    let texts = c.self.inside.texts.items in
    let from = got texts c.deref.result.now c.args.user c.in_ok-from.field-0.now c.deref.ensures.value c.in_ok-from.ensures.lookup.0 c.in_ok-from.ensures.lookup.1 in
    let node : node_of c.self.inside.nodes texts c.args.text ≡ Some c.in_ok-node_of.field-0.now = ap (λ xs. node_of c.self.inside.nodes xs c.args.text) (sym c.deref-2.ensures.value) ∙ sym c.in_ok-node_of.ensures in
    rw (← c.self.view_is)
    (c.found.ensures
    ∙ ap (λ xs. first_present (number_in c.in_ok-node_of.field-0.now.numbers.items) (is_there xs) (folders_of c.in_ok-from.field-0.now.folder)) c.deref-3.ensures.value
    ∙ found_right c.self.inside.nodes c.self.inside.keys.entries texts c.self.invariant c.args.user c.args.text c.in_ok-from.field-0.now c.in_ok-node_of.field-0.now from node)
