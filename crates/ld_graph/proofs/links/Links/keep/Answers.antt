use Rattle.std.proofs.Common.{◌≡◌, ◌∙◌, ℕ, List, Option, Some, None, Bool, cond, true, refl, sym, ap, subst, arith}
use Rattle.std.proofs.lemmas.Result.{on_ok_weaker}
use Rattle.std.specs.List.{list_any}
use Rattle.std.specs.Prelude.{bytes_eq}
use Rattle.std.specs.Option.{is_some, option_copied_mut, option_map}
use Rattle.slab.specs.Slab.{Updates, get, with_value}
use Rattle.ld_graph.specs.Inside.Linking.{IsLinked, KeepsLinks}
use Rattle.ld_graph.specs.Inside.Nodes.{has_space, has_spare, key_of, names_with}
use Rattle.ld_graph.specs.contracts.links.Links.{the_view}
use Rattle.ld_graph.specs.declared.node.Node.{Node}
use Rattle.ld_graph.proofs.Keeping.{alike_linked, further_items, further_linked, further_passes, further_place, more_names, more_passes, more_users, passes_now, roomier_items, roomier_linked, roomier_passes, same_name}
use Rattle.ld_graph.proofs.Linked.{node_at}
use Rattle.ld_graph.proofs.Rewritten.{items_same, passes_more}
use Rattle.ld_graph.proofs.links.Links.keep.Goals.{After-get_mut, After-self-1, After-insert_reserved}
use Rattle.ld_graph.proofs.links.Links.keep.Goals as goal

some_behind : {A B : Type 0} (f : A → B) (found : Option A) → is_some (option_map f found) ≡ true → is_some found ≡ true
some_behind f None some = some
some_behind f (Some x) some = refl

pub unwrap-requires : goal.unwrap-requires
unwrap-requires c =
    let at = (c.self.invariant.keys_are c.args.name.now c.in-Some.key.now).0 (sym c.in-Some.ensures.value) in
    let node = node_at c.self.inside.nodes c.in-Some.key.now c.args.name.now at in
    some_behind (λ x. x.now) c.get_mut.result (ap is_some (c.get_mut.ensures.value ∙ node.1))

here : (c : After-self-1) → get c.self.inside.nodes c.in-Some.key.now ≡ Some c.unwrap.result.now
here c = sym c.get_mut.ensures.value ∙ ap option_copied_mut c.unwrap.ensures

pub invariant_of-self : goal.invariant_of-self
invariant_of-self c =
    let nodes = c.self.inside.nodes in
    let key = c.in-Some.key.now in
    let e = c.reserve.ensures in
    alike_linked nodes (with_value nodes key c.reserve.new.self) c.self.inside.keys.entries c.self.inside.texts.items
    (more_names nodes key c.unwrap.result.now c.reserve.new.self (here c) e.name e.numbers) (more_users nodes key c.unwrap.result.now c.reserve.new.self (here c) e.users) c.self.invariant

pub returns-in-Some-clause-same : goal.returns-in-Some-clause-same
returns-in-Some-clause-same c =
    let nodes = c.self.inside.nodes in
    let key = c.in-Some.key.now in
    let old = c.unwrap.result.now in
    let new = c.reserve.new.self in
    let e = c.reserve.ensures in
    let keeps : KeepsLinks (the_view c.self.inside) (the_view (record c.self.inside { nodes = with_value nodes key new })) = record {
      items = items_same nodes (with_value nodes key new) (more_names nodes key old new (here c) e.name e.numbers).names c.self.inside.texts.items;
      room = omega arith;
      spares = passes_more has_spare nodes (with_value nodes key new) c.self.inside.keys.entries (more_passes nodes key old new (here c) has_spare e.keeps_spare);
      places = passes_more has_space nodes (with_value nodes key new) c.self.inside.keys.entries (more_passes nodes key old new (here c) has_space e.keeps_space);
    } in
    rw (c.self.view_is) at keeps

pub returns-in-Some-clause-spare : goal.returns-in-Some-clause-spare
returns-in-Some-clause-spare c =
    on_ok_weaker c.reserve.result (passes_now c.self.inside.nodes c.in-Some.key.now c.unwrap.result.now c.reserve.new.self (here c) has_spare c.self.inside.keys.entries c.args.name.now (sym c.in-Some.ensures.value)) c.reserve.ensures.spare

pub returns-in-Some-clause-place : goal.returns-in-Some-clause-place
returns-in-Some-clause-place c =
    on_ok_weaker c.reserve.result (passes_now c.self.inside.nodes c.in-Some.key.now c.unwrap.result.now c.reserve.new.self (here c) has_space c.self.inside.keys.entries c.args.name.now (sym c.in-Some.ensures.value)) c.reserve.ensures.space

pub invariant_of-self-in_err-reserve : goal.invariant_of-self-in_err-reserve
invariant_of-self-in_err-reserve c = roomier_linked c.self.inside.nodes c.reserve-2.new.self c.reserve-2.new.self.capacity c.self.inside.keys.entries c.self.inside.texts.items c.reserve-2.ensures.rest_kept c.self.invariant

pub invariant_of-self-in_err-copy : goal.invariant_of-self-in_err-copy
invariant_of-self-in_err-copy c = roomier_linked c.self.inside.nodes c.reserve-2.new.self c.reserve-2.new.self.capacity c.self.inside.keys.entries c.self.inside.texts.items c.reserve-2.ensures.rest_kept c.self.invariant

pub invariant_of-self-in_err-insert : goal.invariant_of-self-in_err-insert
invariant_of-self-in_err-insert c =
    subst (λ keys. IsLinked c.reserve-2.new.self keys c.self.inside.texts.items) (sym c.in_err-insert.ensures.err)
    (roomier_linked c.self.inside.nodes c.reserve-2.new.self c.reserve-2.new.self.capacity c.self.inside.keys.entries c.self.inside.texts.items c.reserve-2.ensures.rest_kept c.self.invariant)

-- ---- a further node

linked : (c : After-insert_reserved) → IsLinked c.reserve-2.new.self c.self.inside.keys.entries c.self.inside.texts.items
linked c = roomier_linked c.self.inside.nodes c.reserve-2.new.self c.reserve-2.new.self.capacity c.self.inside.keys.entries c.self.inside.texts.items c.reserve-2.ensures.rest_kept c.self.invariant

missing : (c : After-insert_reserved) → key_of c.self.inside.keys.entries c.args.name.now ≡ None
missing c = sym c.in_default.ensures.value

key_is : (c : After-insert_reserved) → c.insert_reserved.result ≡ c.vacant_key.result
key_is c = c.insert_reserved.ensures.key ∙ sym c.vacant_key.ensures.value

updates : (c : After-insert_reserved) → Updates c.reserve-2.new.self c.insert_reserved.new.self c.vacant_key.result (Some c.in_ok-node.node)
updates c = rw (key_is c) at c.insert_reserved.ensures.updates

put : (c : After-insert_reserved) (other : List ℕ) → key_of c.insert.new.self.entries other ≡ cond (same_name c.args.name.now other) (Some c.vacant_key.result) (key_of c.self.inside.keys.entries other)
put c other = (rw c.in_ok-copy.ensures at c.in_ok-insert.ensures.updates).0 other

pub invariant_of-self-2 : goal.invariant_of-self-2
invariant_of-self-2 c =
    let e = c.in_ok-node.ensures in
    further_linked c.file_laws.ensures.same c.reserve-2.new.self c.self.inside.keys.entries c.self.inside.texts.items (linked c) c.args.name.now (missing c) c.vacant_key.result c.in_ok-node.node c.insert_reserved.new.self c.vacant_key.ensures.vacant (updates c) e.name e.numbers e.users c.insert.new.self.entries (put c)

pub returns-clause-same : goal.returns-clause-same
returns-clause-same c =
    let e = c.in_ok-node.ensures in
    let nodes = c.self.inside.nodes in
    let roomy = c.reserve-2.new.self in
    let keys = c.self.inside.keys.entries in
    let texts = c.self.inside.texts.items in
    let passes : (test : Node → Bool) (other : List ℕ) → list_any (bytes_eq other) (names_with test nodes keys) ≡ true → list_any (bytes_eq other) (names_with test c.insert_reserved.new.self c.insert.new.self.entries) ≡ true = λ test other has. further_passes c.file_laws.ensures.same roomy keys texts (linked c) c.args.name.now (missing c) c.vacant_key.result c.in_ok-node.node c.insert_reserved.new.self c.vacant_key.ensures.vacant (updates c) e.name e.numbers e.users c.insert.new.self.entries (put c) test other
    (roomier_passes nodes roomy roomy.capacity keys test other c.reserve-2.ensures.rest_kept has) in
    let keeps : KeepsLinks (the_view c.self.inside) (the_view (record c.self.inside { nodes = c.insert_reserved.new.self; keys = c.insert.new.self })) = record {
      items = further_items c.file_laws.ensures.same roomy keys texts (linked c) c.args.name.now (missing c) c.vacant_key.result c.in_ok-node.node c.insert_reserved.new.self c.vacant_key.ensures.vacant (updates c) e.name e.numbers e.users c.insert.new.self.entries (put c)
          ∙ roomier_items nodes roomy roomy.capacity texts c.reserve-2.ensures.rest_kept;
      room = omega arith;
      spares = passes has_spare;
      places = passes has_space;
    } in
    rw (c.self.view_is) at keeps

pub returns-clause-spare : goal.returns-clause-spare
returns-clause-spare c =
    let e = c.in_ok-node.ensures in
    further_place c.file_laws.ensures.same c.reserve-2.new.self c.self.inside.keys.entries c.self.inside.texts.items (linked c) c.args.name.now (missing c) c.vacant_key.result c.in_ok-node.node c.insert_reserved.new.self c.vacant_key.ensures.vacant (updates c) e.name e.numbers e.users c.insert.new.self.entries (put c) has_spare e.spare

pub returns-clause-place : goal.returns-clause-place
returns-clause-place c =
    let e = c.in_ok-node.ensures in
    further_place c.file_laws.ensures.same c.reserve-2.new.self c.self.inside.keys.entries c.self.inside.texts.items (linked c) c.args.name.now (missing c) c.vacant_key.result c.in_ok-node.node c.insert_reserved.new.self c.vacant_key.ensures.vacant (updates c) e.name e.numbers e.users c.insert.new.self.entries (put c) has_space e.space
