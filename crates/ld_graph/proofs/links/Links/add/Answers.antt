use Rattle.std.proofs.Common.{◌≡◌, ◌++◌, ◌∷◌, ◌∙◌, Some, None, [], true, length, ap, refl, sym, subst, arith}
use Rattle.std.specs.Prelude.{bytes_eq, if◌then◌else◌}
use Rattle.std.specs.List.{list_any}
use Rattle.std.specs.Option.{option_copied, option_copied_mut}
use Rattle.std.specs.Result.{is_ok}
use Rattle.slab.specs.Slab.{get, with_value}
use Rattle.ld_graph.specs.Inside.Linking.{IsLinked, items_of}
use Rattle.ld_graph.specs.Inside.Nodes.{has_space, has_spare, key_of}
use Rattle.ld_graph.specs.declared.node.Text.{Text}
use Rattle.ld_graph.proofs.Added.{items_are, linked_more, spares_stay}
use Rattle.ld_graph.proofs.Naming.{node_with}
use Rattle.ld_graph.proofs.Rewritten.{passes_more}
use Rattle.ld_graph.proofs.Users.{copied_mut_some, copied_some}
use Rattle.ld_graph.proofs.links.Links.add.Goals as goal

pub unwrap-key-requires : goal.unwrap-key-requires
unwrap-key-requires c =
    let with = node_with has_space c.self.inside.nodes c.self.inside.keys.entries c.args.file.name (subst (λ view. list_any (bytes_eq c.args.file.name) view.places ≡ true) (sym c.self.view_is) c.requires.place) in
    copied_some c.get.result with.0 (c.get.ensures.value ∙ with.1)

pub unwrap-requires : goal.unwrap-requires
unwrap-requires c =
    let with = node_with has_space c.self.inside.nodes c.self.inside.keys.entries c.args.file.name (subst (λ view. list_any (bytes_eq c.args.file.name) view.places ≡ true) (sym c.self.view_is) c.requires.place) in
    let same : with.0 ≡ c.unwrap-key.result.now = (let e = sym with.1 ∙ sym c.get.ensures.value ∙ ap option_copied c.unwrap-key.ensures in cc) in
    copied_mut_some c.get_mut.result with.2.0 (c.get_mut.ensures.value ∙ ap (get c.self.inside.nodes) (sym same) ∙ with.2.1)

pub add_number-requires : goal.add_number-requires
add_number-requires c =
    let with = node_with has_space c.self.inside.nodes c.self.inside.keys.entries c.args.file.name (subst (λ view. list_any (bytes_eq c.args.file.name) view.places ≡ true) (sym c.self.view_is) c.requires.place) in
    let same : with.0 ≡ c.unwrap-key.result.now = (let e = sym with.1 ∙ sym c.get.ensures.value ∙ ap option_copied c.unwrap-key.ensures in cc) in
    let node : with.2.0 ≡ c.unwrap.result.now = (let e = sym with.2.1 ∙ ap (get c.self.inside.nodes) same ∙ sym c.get_mut.ensures.value ∙ ap option_copied_mut c.unwrap.ensures in cc) in
    ap has_space (sym node) ∙ with.2.2

is_key : (c : goal.After-drop-file) → key_of c.self.inside.keys.entries c.args.file.name ≡ Some c.unwrap-key.result.now
is_key c = sym c.get.ensures.value ∙ ap option_copied c.unwrap-key.ensures

node_at : (c : goal.After-drop-file) → get c.self.inside.nodes c.unwrap-key.result.now ≡ Some c.unwrap.result.now
node_at c = sym c.get_mut.ensures.value ∙ ap option_copied_mut c.unwrap.ensures

numbers : (c : goal.After-drop-file) → c.add_number.new.self.numbers.items ≡ c.unwrap.result.now.numbers.items ++ (c.args.file.folder, length c.self.inside.texts.items) ∷ []
numbers c =
    let same : c.len-text.result ≡ length c.self.inside.texts.items = omega (arith, c.len-text.ensures, c.self.inside.texts.ok) in
    c.add_number.ensures.numbers ∙ ap (λ n. c.unwrap.result.now.numbers.items ++ (c.args.file.folder, n) ∷ []) same

-- the text that is added
text_of : goal.After-drop-file → Text
text_of c = record { folder = c.args.file.folder; name = c.unwrap-key.result.now; names = None }

pushed : (c : goal.After-drop-file) → c.push.new.self.items ≡ c.self.inside.texts.items ++ text_of c ∷ []
unfolding text_of
pushed c = c.push.ensures.items ∙ ap (λ pushed. if is_ok pushed then c.self.inside.texts.items ++ text_of c ∷ [] else c.self.inside.texts.items) c.unwrap-2.ensures

pub invariant_of-self : goal.invariant_of-self
unfolding text_of
invariant_of-self c =
    let nodes = c.self.inside.nodes in
    let keys = c.self.inside.keys.entries in
    let texts = c.self.inside.texts.items in
    let key = c.unwrap-key.result.now in
    subst (IsLinked (with_value nodes key c.add_number.new.self) keys) (sym (pushed c)) (linked_more nodes keys texts c.self.invariant c.args.file key c.unwrap.result.now c.add_number.new.self (is_key c) (node_at c) c.add_number.ensures.name (numbers c) c.add_number.ensures.users (text_of c) refl refl refl)

pub returns-clause-items : goal.returns-clause-items
unfolding text_of
returns-clause-items c =
    let nodes = c.self.inside.nodes in
    let keys = c.self.inside.keys.entries in
    let texts = c.self.inside.texts.items in
    let key = c.unwrap-key.result.now in
    rw (← c.self.view_is) (ap (items_of (with_value nodes key c.add_number.new.self)) (pushed c) ∙ items_are nodes keys texts c.self.invariant c.args.file key c.unwrap.result.now c.add_number.new.self (is_key c) (node_at c) c.add_number.ensures.name (numbers c) c.add_number.ensures.users (text_of c) refl refl refl)

pub returns-clause-spares : goal.returns-clause-spares
returns-clause-spares c = λ name. rw (← c.self.view_is) (passes_more has_spare c.self.inside.nodes (with_value c.self.inside.nodes c.unwrap-key.result.now c.add_number.new.self) c.self.inside.keys.entries (spares_stay c.self.inside.nodes c.self.inside.keys.entries c.self.inside.texts.items c.self.invariant c.args.file c.unwrap-key.result.now c.unwrap.result.now c.add_number.new.self (is_key c) (node_at c) c.add_number.ensures.name (numbers c) c.add_number.ensures.users (record { folder = c.args.file.folder; name = c.unwrap-key.result.now; names = None }) refl refl refl) name)
