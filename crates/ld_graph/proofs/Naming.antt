-- The keys of names, and the memory that their nodes have.
use Rattle.std.proofs.Common.{◌≡◌, ◌<◌, ℕ, List, [], ◌∷◌, Option, Some, None, map, length, true, false, cond, inl, refl, sym, ap, ap₂, ◌∙◌, subst, arith, tests, Bool}
use Rattle.std.proofs.lemmas.Slice.Eq.{bytes_eq-Decides}
use Rattle.std.specs.Prelude.{◌||◌, bytes_eq}
use Rattle.std.specs.List.{Contains, filter, list_any}
use Rattle.std.specs.Option.{option_map_or}
use Rattle.std.specs.Vec.{vec_capacity}
use Rattle.slab.specs.Slab.{get}
use Rattle.ld_graph.specs.Inside.Linking.{IsKey, IsLinked}
use Rattle.ld_graph.specs.Inside.Nodes.{AreKeysOf, CanLearn, Nodes, has_spare, key_of, name_of, names_with, passes, passes_at}
use Rattle.ld_graph.specs.declared.node.Node.{Node}
use Rattle.ld_graph.specs.declared.node.Text.{Text}
use Rattle.ld_graph.proofs.FoundBy.{contains_map, made_by}
use Rattle.ld_graph.proofs.Linked.{name_here}

-- a name that passes a filter passes its test
passes_filter : (p : List ℕ → Bool) (name : List ℕ) (names : List (List ℕ)) → list_any (bytes_eq name) (filter p names) ≡ true → p name ≡ true
passes_filter p name [] is = cc
passes_filter p name (first ∷ names) is = by (p first) refl (bytes_eq name first) refl (passes_filter p name names) is
  where
    by : (kept : Bool) → p first ≡ kept → (same : Bool) → bytes_eq name first ≡ same → (list_any (bytes_eq name) (filter p names) ≡ true → p name ≡ true) → list_any (bytes_eq name) (cond kept (first ∷ filter p names) (filter p names)) ≡ true → p name ≡ true
    by true keeps true same later is = ap p ((bytes_eq-Decides name first).0 same) ∙ keeps
    by true keeps false same later is = later (sym (ap (λ b. b || list_any (bytes_eq name) (filter p names)) same) ∙ is)
    by false keeps same equal later is = later is

-- a name that passes a test has a node that does
node_passes : (test : Node → Bool) (nodes : Nodes) (keys : List (List ℕ × ℕ)) (name : List ℕ) → passes test nodes keys name ≡ true → (key : ℕ) × (key_of keys name ≡ Some key) × ((node : Node) × (get nodes key ≡ Some node) × (test node ≡ true))
node_passes test nodes keys name is = by (key_of keys name) refl is
  where
    at : (key : ℕ) (node : Option Node) → get nodes key ≡ node → option_map_or test node false ≡ true → (one : Node) × (get nodes key ≡ Some one) × (test one ≡ true)
    at key None known e = cc
    at key (Some node) known e = (node, known, e)

    by : (key : Option ℕ) → key_of keys name ≡ key → option_map_or (passes_at test nodes) key false ≡ true → (key : ℕ) × (key_of keys name ≡ Some key) × ((node : Node) × (get nodes key ≡ Some node) × (test node ≡ true))
    by None known e = cc
    by (Some key) known e = (key, known, at key (get nodes key) refl e)

-- the name that is asked for has a node that is so
pub node_with : (test : Node → Bool) (nodes : Nodes) (keys : List (List ℕ × ℕ)) (name : List ℕ) → list_any (bytes_eq name) (names_with test nodes keys) ≡ true → (key : ℕ) × (key_of keys name ≡ Some key) × ((node : Node) × (get nodes key ≡ Some node) × (test node ≡ true))
node_with test nodes keys name is = node_passes test nodes keys name (passes_filter (passes test nodes keys) name (map (λ entry. entry.0) keys) is)

pub can_learn : (nodes : Nodes) (keys : List (List ℕ × ℕ)) (text : ℕ) (name : List ℕ) → list_any (bytes_eq name) (names_with has_spare nodes keys) ≡ true → CanLearn nodes keys text name
can_learn nodes keys text name is =
    let with = node_with has_spare nodes keys name is in
    let room : length with.2.0.users.items < vec_capacity with.2.0.users = grind (arith, tests, with.2.2) in
    (with.0, with.1, (with.2.0, with.2.1, inl room))

-- ---- the names of keys

pub names_are : (nodes : Nodes) (keys : List (List ℕ × ℕ)) (texts : List Text) → IsLinked nodes keys texts → (own : List ℕ) (names : List (List ℕ)) → AreKeysOf keys own names → map (name_of nodes) own ≡ names
names_are nodes keys texts linked [] [] are = refl
names_are nodes keys texts linked [] (name ∷ names) are = cc
names_are nodes keys texts linked (key ∷ own) [] are = cc
names_are nodes keys texts linked (key ∷ own) (name ∷ names) are =
    let one : key_of keys name ≡ Some key = cc in
    let rest : AreKeysOf keys own names = cc in
    ap₂ (λ n ns. n ∷ ns) (name_here nodes key name ((linked.keys_are name key).0 one)) (names_are nodes keys texts linked own names rest)

pub are_keys : (nodes : Nodes) (keys : List (List ℕ × ℕ)) (texts : List Text) → IsLinked nodes keys texts → (own : List ℕ) (names : List (List ℕ)) → AreKeysOf keys own names → (key : ℕ) → Contains own key → IsKey nodes key
are_keys nodes keys texts linked own names are key has =
    let by = made_by (key_of keys) names (Some key) (got.0) (got.1) (got.2) in
    (by.0, (linked.keys_are by.0 key).0 by.2)
  where
    got : Contains (map (key_of keys) names) (Some key)
    got = subst (λ found. Contains found (Some key)) are (contains_map Some own key has.0 has.1 has.2)
