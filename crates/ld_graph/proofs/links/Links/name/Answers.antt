use Rattle.std.proofs.Common.{◌≡◌, ◌∙◌, Some, option_map, ap, sym}
use Rattle.ld_graph.proofs.Linked.{got, name_right}
use Rattle.ld_graph.proofs.links.Links.name.Goals as goal

pub returns-in_err-get-2 : goal.returns-in_err-get-2
returns-in_err-get-2 c =
    let texts = c.self.inside.texts.items in
    let one = got texts c.deref.result.now c.args.text c.in_ok-get.field-0.now c.deref.ensures.value c.in_ok-get.ensures.lookup.0 c.in_ok-get.ensures.lookup.1 in
    let has : c.in_ok-get.field-0.now.names ≡ Some c.in_ok-names.names.now = sym c.in_ok-names.ensures.value in
    let key = got c.in_ok-names.names.now.items c.deref-2.result.now c.args.index c.in_ok-key.key.now c.deref-2.ensures.value c.in_ok-key.ensures.lookup.0 c.in_ok-key.ensures.lookup.1 in
    let right = name_right c.self.inside.nodes c.self.inside.keys.entries texts c.self.invariant c.args.text c.args.index c.in_ok-get.field-0.now c.in_ok-names.names.now c.in_ok-key.key.now one has key in
    let none = c.in_err-get-2.ensures in
    let e = none ∙ right.1 in cc

pub returns : goal.returns
returns c =
    let texts = c.self.inside.texts.items in
    let one = got texts c.deref.result.now c.args.text c.in_ok-get.field-0.now c.deref.ensures.value c.in_ok-get.ensures.lookup.0 c.in_ok-get.ensures.lookup.1 in
    let has : c.in_ok-get.field-0.now.names ≡ Some c.in_ok-names.names.now = sym c.in_ok-names.ensures.value in
    let key = got c.in_ok-names.names.now.items c.deref-2.result.now c.args.index c.in_ok-key.key.now c.deref-2.ensures.value c.in_ok-key.ensures.lookup.0 c.in_ok-key.ensures.lookup.1 in
    let right = name_right c.self.inside.nodes c.self.inside.keys.entries texts c.self.invariant c.args.text c.args.index c.in_ok-get.field-0.now c.in_ok-names.names.now c.in_ok-key.key.now one has key in
    let same : Some c.in_ok-get-2.field-0.now ≡ Some right.0 = c.in_ok-get-2.ensures ∙ right.1 in
    rw (← c.self.view_is) (ap (option_map (λ node. node.name)) same ∙ right.2)
