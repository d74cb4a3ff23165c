use Rattle.std.proofs.Common.{◌≡◌, ◌∙◌, Some, None, get_or, ap, sym}
use Rattle.std.proofs.lemmas.List.Elements.{Contains-get_or}
use Rattle.ld_graph.specs.Inside.Linking.{node_of}
use Rattle.ld_graph.proofs.Linked.{no_users, users_right, users_within}
use Rattle.ld_graph.proofs.links.Links.users.Goals as goal

pub returns-in-Some-clause-users : goal.returns-in-Some-clause-users
returns-in-Some-clause-users c =
    let node : node_of c.self.inside.nodes c.self.inside.texts.items c.args.text ≡ Some c.in-Some.node.now = ap (λ xs. node_of c.self.inside.nodes xs c.args.text) (sym c.deref.ensures.value) ∙ sym c.in-Some.ensures in
    rw (← c.self.view_is, c.deref-in-Some.ensures.value) (users_right c.self.inside.nodes c.self.inside.keys.entries c.self.inside.texts.items c.self.invariant c.args.text c.in-Some.node.now node)

pub returns-in-Some-clause-within : goal.returns-in-Some-clause-within
returns-in-Some-clause-within c =
    let node : node_of c.self.inside.nodes c.self.inside.texts.items c.args.text ≡ Some c.in-Some.node.now = ap (λ xs. node_of c.self.inside.nodes xs c.args.text) (sym c.deref.ensures.value) ∙ sym c.in-Some.ensures in
    rw (← c.self.view_is, c.deref-in-Some.ensures.value) (λ k d lt. users_within c.self.inside.nodes c.self.inside.keys.entries c.self.inside.texts.items c.self.invariant c.args.text c.in-Some.node.now node (get_or c.in-Some.node.now.users.items k d) (Contains-get_or c.in-Some.node.now.users.items k d lt))

pub returns-in-None-clause-users : goal.returns-in-None-clause-users
returns-in-None-clause-users c =
    let none : node_of c.self.inside.nodes c.self.inside.texts.items c.args.text ≡ None = ap (λ xs. node_of c.self.inside.nodes xs c.args.text) (sym c.deref.ensures.value) ∙ sym c.in-None.ensures in
    rw (← c.self.view_is) (no_users c.self.inside.nodes c.self.inside.keys.entries c.self.inside.texts.items c.self.invariant c.args.text none)
