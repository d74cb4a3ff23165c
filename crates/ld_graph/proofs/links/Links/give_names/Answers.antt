use Rattle.std.proofs.Common.{◌≡◌, ◌<◌, ◌∙◌, Some, None, length, get_or, true, ap, refl, sym, subst}
use Rattle.std.proofs.lemmas.List.{length-map}
use Rattle.std.proofs.lemmas.Option.{slice_get_read}
use Rattle.std.specs.Prelude.{bytes_eq}
use Rattle.std.specs.List.{list_any, slice_get}
use Rattle.ld_graph.specs.Inside.Linking.{item_of, items_of}
use Rattle.ld_graph.specs.Items.{names_at, with_names_at}
use Rattle.ld_graph.proofs.Naming.{are_keys, can_learn, names_are}
use Rattle.ld_graph.proofs.Rewritten.{still_learnt}
use Rattle.ld_graph.proofs.links.Links.give_names.Goals as goal

pub learn_names-keys-requires-clause-names : goal.learn_names-keys-requires-clause-names
learn_names-keys-requires-clause-names c = λ k d less. can_learn c.self.inside.nodes c.self.inside.keys.entries c.args.text (get_or c.args.names.now k d) (subst (λ view. list_any (bytes_eq (get_or c.args.names.now k d)) view.spares ≡ true) (sym c.self.view_is) (c.requires.spares k d less))

known : (c : goal.Joined-index_mut) → slice_get c.self.inside.texts.items c.args.text ≡ Some c.index_mut.result.now
known c =
    let texts = c.self.inside.texts.items in
    let few : c.args.text < length texts = subst (λ n. c.args.text < n) (ap (λ view. length view.items) (sym c.self.view_is) ∙ length-map texts (item_of c.self.inside.nodes)) c.requires.text in
    slice_get_read texts (length texts) c.args.text c.index_mut.result.now refl few c.index_mut.ensures.value

absent : (c : goal.Joined-index_mut) → names_at (items_of c.self.inside.nodes c.self.inside.texts.items) c.args.text ≡ None
absent c = ap (λ view. names_at view.items c.args.text) c.self.view_is ∙ c.requires.absent

pub invariant_of-self : goal.invariant_of-self
invariant_of-self c =
    let nodes = c.self.inside.nodes in
    let keys = c.self.inside.keys.entries in
    let texts = c.self.inside.texts.items in
    let own = c.learn_names-keys.result.items in
    (still_learnt nodes c.learn_names-keys.new.nodes keys texts c.self.invariant c.args.text c.index_mut.result.now (known c) (absent c) own (are_keys nodes keys texts c.self.invariant own c.args.names.now c.learn_names-keys.ensures.keys) c.learn_names-keys.ensures.learns _ refl refl refl).0

pub returns : goal.returns
returns c =
    let nodes = c.self.inside.nodes in
    let keys = c.self.inside.keys.entries in
    let texts = c.self.inside.texts.items in
    let own = c.learn_names-keys.result.items in
    rw (← c.self.view_is) ((still_learnt nodes c.learn_names-keys.new.nodes keys texts c.self.invariant c.args.text c.index_mut.result.now (known c) (absent c) own (are_keys nodes keys texts c.self.invariant own c.args.names.now c.learn_names-keys.ensures.keys) c.learn_names-keys.ensures.learns _ refl refl refl).1 ∙ ap (λ names. with_names_at (items_of nodes texts) c.args.text (Some names)) (names_are nodes keys texts c.self.invariant own c.args.names.now c.learn_names-keys.ensures.keys))
