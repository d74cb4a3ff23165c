use Rattle.std.proofs.Common.{◌≡◌, ◌<◌, ◌∙◌, Some, [], length, option_map, unwrap_or, ap, refl, sym, subst}
use Rattle.std.proofs.lemmas.List.{length-map}
use Rattle.std.proofs.lemmas.Option.{slice_get_read}
use Rattle.std.specs.List.{slice_get}
use Rattle.ld_graph.specs.Inside.Linking.{item_of}
use Rattle.ld_graph.specs.Inside.Nodes.{Forgets, has_spare}
use Rattle.ld_graph.proofs.Rewritten.{passes_more, still_forgotten}
use Rattle.ld_graph.proofs.links.Links.take_names.Goals as goal

known : (c : goal.Joined-names) → slice_get c.self.inside.texts.items c.args.text ≡ Some c.index_mut.result.now
known c =
    let texts = c.self.inside.texts.items in
    let few : c.args.text < length texts = subst (λ n. c.args.text < n) (ap (λ view. length view.items) (sym c.self.view_is) ∙ length-map texts (item_of c.self.inside.nodes)) c.requires in
    slice_get_read texts (length texts) c.args.text c.index_mut.result.now refl few c.index_mut.ensures.value

forgets : (c : goal.Joined-names) → Forgets c.self.inside.nodes c.forget_listed.new.nodes (unwrap_or (option_map (λ keys. keys.items) c.index_mut.result.now.names) []) c.args.text
forgets c = subst (λ names. Forgets c.self.inside.nodes c.forget_listed.new.nodes (unwrap_or (option_map (λ keys. keys.items) names) []) c.args.text) c.replace-names.ensures.value c.forget_listed.ensures

pub invariant_of-self : goal.invariant_of-self
invariant_of-self c = (still_forgotten c.self.inside.nodes c.forget_listed.new.nodes c.self.inside.keys.entries c.self.inside.texts.items c.self.invariant c.args.text c.index_mut.result.now (known c) (forgets c) _ refl refl c.replace-names.ensures.after).0

pub returns-clause-items : goal.returns-clause-items
returns-clause-items c = rw (← c.self.view_is) (still_forgotten c.self.inside.nodes c.forget_listed.new.nodes c.self.inside.keys.entries c.self.inside.texts.items c.self.invariant c.args.text c.index_mut.result.now (known c) (forgets c) _ refl refl c.replace-names.ensures.after).1

pub returns-clause-spares : goal.returns-clause-spares
returns-clause-spares c = λ name. rw (← c.self.view_is) (passes_more has_spare c.self.inside.nodes c.forget_listed.new.nodes c.self.inside.keys.entries c.forget_listed.ensures.spare name)
