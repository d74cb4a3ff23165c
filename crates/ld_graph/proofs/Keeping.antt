-- A name gets a node, or its node more memory.
use Rattle.std.proofs.Common.{◌≡◌, ◌≢◌, ◌⊎◌, ◌||◌, ◌&&◌, ℕ, zero, suc, Bool, true, false, cond, List, [], ◌∷◌, Option, Some, None, map, filter, bytes_eq, inl, inr, ⊎_elim, refl, sym, ap, ap₂, ◌∙◌, subst, arith}
use Rattle.std.specs.BTreeMap.{is_at}
use Rattle.std.specs.Cmp.Lexicographic.{slice_cmp, texts_ties}
use Rattle.std.specs.List.{Contains, list_any, slice_get}
use Rattle.std.specs.Ordering.{nat_cmp}
use Rattle.std.specs.Option.{is_some, option_map, option_map_or, unwrap_or}
use Rattle.std.proofs.lemmas.Bool.{cases_Bool}
use Rattle.std.proofs.lemmas.Cmp.{eq_by_cmp_equiv, nat_list_cmp_total}
use Rattle.std.proofs.lemmas.Map.Lookups.{exact_bytes}
use Rattle.std.proofs.lemmas.Map.Views.{tells_apart}
use Rattle.std.proofs.lemmas.Slice.Eq.{bytes_eq-Decides}
use Rattle.slab.specs.Slab.{Updates, get, with_value}
use Rattle.ld_names.specs.Finding.{IsFileEquality}
use Rattle.ld_names.specs.Standing.{file_in}
use Rattle.ld_names.specs.declared.file.FileId.{FileId}
use Rattle.ld_names.specs.declared.file.Folder.{Folder}
use Rattle.ld_graph.specs.Items.{Item, numbers_of}
use Rattle.ld_graph.specs.Inside.Linking.{IsKey, IsLinked, IsNode, KeepsLinks, Linked, Uses, item_of, items_of, keys_in}
use Rattle.ld_graph.specs.Inside.Nodes.{KeepsNames, Nodes, key_of, name_at, name_of, names_with, number_in, numbers_at, passes, passes_at, users_at}
use Rattle.ld_graph.specs.declared.node.Node.{Node}
use Rattle.ld_graph.specs.declared.node.Text.{Text}
use Rattle.ld_graph.proofs.Dirt.{file_of_number}
use Rattle.ld_graph.proofs.FoundBy.{made_by}
use Rattle.ld_graph.proofs.Linked.{known_text, name_here, names_by, names_none}
use Rattle.ld_graph.proofs.Listed.{here, none_in, there}
use Rattle.ld_graph.proofs.Rewritten.{items_same, key_same}
use Rattle.ld_graph.proofs.Users.{at_key, at_other, same_or_not}

-- ---- names by their order

abbrev pub same_name : List ℕ → List ℕ → Bool
same_name name other = is_at (slice_cmp nat_cmp name) other

same_name-is : (name other : List ℕ) → same_name name other ≡ true → name ≡ other
same_name-is name other same = tells_apart exact_bytes name other same

same_name-refl : (name : List ℕ) → same_name name name ≡ true
same_name-refl name = (eq_by_cmp_equiv nat_list_cmp_total).refl name

-- a name stands in the map where it has a key
has_key-is : (keys : List (List ℕ × ℕ)) (name : List ℕ) → list_any (bytes_eq name) (map (λ entry. entry.0) keys) ≡ is_some (key_of keys name)
has_key-is [] name = refl
has_key-is (entry ∷ keys) name =
    let names : List (List ℕ) = map (λ entry. entry.0) keys in
    let cases : (b : Bool) → (b || list_any (bytes_eq name) names) ≡ is_some (cond b (Some entry.1) (key_of keys name)) = λ b. elim b as (λ b. (b || list_any (bytes_eq name) names) ≡ is_some (cond b (Some entry.1) (key_of keys name))) [ true ↦ refl | false ↦ has_key-is keys name ] in
    ap (λ b. b || list_any (bytes_eq name) names) (texts_ties name entry.0) ∙ cases (same_name name entry.0)

module _ (keep : List ℕ → Bool) (name : List ℕ) where
  kept-step : (kept same : Bool) (first : List ℕ) (names : List (List ℕ)) → keep first ≡ kept → bytes_eq name first ≡ same → list_any (bytes_eq name) (filter keep names) ≡ (keep name && list_any (bytes_eq name) names) → list_any (bytes_eq name) (cond kept (first ∷ filter keep names) (filter keep names)) ≡ (keep name && (same || list_any (bytes_eq name) names))
  kept-step true true first names is same rest =
      let here : keep name ≡ true = ap keep ((bytes_eq-Decides name first).0 same) ∙ is in
      ap (λ b. b || list_any (bytes_eq name) (filter keep names)) same ∙ sym (ap (λ b. b && true) here)
  kept-step true false first names is same rest = ap (λ b. b || list_any (bytes_eq name) (filter keep names)) same ∙ rest
  kept-step false true first names is same rest =
      let here : keep name ≡ false = ap keep ((bytes_eq-Decides name first).0 same) ∙ is in
      rest ∙ ap (λ b. b && list_any (bytes_eq name) names) here ∙ sym (ap (λ b. b && true) here)
  kept-step false false first names is same rest = rest

  -- a name is among those that are kept where it is one of them and is kept
  kept-is : (names : List (List ℕ)) → list_any (bytes_eq name) (filter keep names) ≡ (keep name && list_any (bytes_eq name) names)
  kept-is [] = elim (keep name) as (λ b. false ≡ (b && false)) [ true ↦ refl | false ↦ refl ]
  kept-is (first ∷ names) = kept-step (keep first) (bytes_eq name first) first names refl refl (kept-is names)

pub named-is : (test : Node → Bool) (nodes : Nodes) (keys : List (List ℕ × ℕ)) (name : List ℕ) → list_any (bytes_eq name) (names_with test nodes keys) ≡ passes test nodes keys name
named-is test nodes keys name =
    kept-is (passes test nodes keys) name (map (λ entry. entry.0) keys) ∙ ap (λ b. passes test nodes keys name && b) (has_key-is keys name) ∙ by (key_of keys name)
  where
    and_true : (b : Bool) → (b && true) ≡ b
    and_true true = refl
    and_true false = refl

    by : (found : Option ℕ) → (option_map_or (passes_at test nodes) found false && is_some found) ≡ option_map_or (passes_at test nodes) found false
    by None = refl
    by (Some x) = and_true (passes_at test nodes x)

-- ---- a node with more memory

module _ (nodes : Nodes) (key : ℕ) (old new : Node) (is : get nodes key ≡ Some old) where
  abbrev after : Nodes
  after = with_value nodes key new

  alike_at : {A : Type 0} (f : Option Node → A) → f (Some new) ≡ f (Some old) → (other : ℕ) → f (get after other) ≡ f (get nodes other)
  alike_at f same other =
      ⊎_elim
      (λ equal. ap (λ k. f (get after k)) equal ∙ ap f (at_key nodes key old new is) ∙ same ∙ sym (ap f is) ∙ sym (ap (λ k. f (get nodes k)) equal))
      (λ differs. ap f (at_other nodes key old new is other differs)) (same_or_not other key)

  pub more_names : new.name ≡ old.name → new.numbers.items ≡ old.numbers.items → KeepsNames nodes after
  more_names name numbers = record {
    names = alike_at (option_map (λ (node : Node). node.name)) (ap Some name);
    numbers = alike_at (λ node. option_map_or (λ (node : Node). node.numbers.items) node []) numbers;
  }

  pub more_users : new.users.items ≡ old.users.items → (other : ℕ) → users_at after other ≡ users_at nodes other
  more_users users = alike_at (λ node. option_map_or (λ (node : Node). node.users.items) node []) users

  pub more_passes : (test : Node → Bool) → (test old ≡ true → test new ≡ true) → (other : ℕ) → passes_at test nodes other ≡ true → passes_at test after other ≡ true
  more_passes test kept other has =
      ⊎_elim
      (λ equal. ap (λ k. passes_at test after k) equal ∙ ap (λ node. option_map_or test node false) (at_key nodes key old new is) ∙ kept (sym (ap (λ node. option_map_or test node false) is) ∙ sym (ap (λ k. passes_at test nodes k) equal) ∙ has))
      (λ differs. ap (λ node. option_map_or test node false) (at_other nodes key old new is other differs) ∙ has) (same_or_not other key)

  pub passes_now : (test : Node → Bool) (keys : List (List ℕ × ℕ)) (name : List ℕ) → key_of keys name ≡ Some key → test new ≡ true → list_any (bytes_eq name) (names_with test after keys) ≡ true
  passes_now test keys name known passes_it =
      named-is test after keys name ∙ ap (λ k. option_map_or (passes_at test after) k false) known ∙ ap (λ node. option_map_or test node false) (at_key nodes key old new is) ∙ passes_it

pub alike_linked : (old new : Nodes) (keys : List (List ℕ × ℕ)) (texts : List Text) → KeepsNames old new → ((key : ℕ) → users_at new key ≡ users_at old key) → IsLinked old keys texts → IsLinked new keys texts
alike_linked old new keys texts same users linked =
    let items = items_same old new same.names texts in
    record {
      keys_are = λ name key. ((λ is. same.names key ∙ (linked.keys_are name key).0 is), (λ is. (linked.keys_are name key).1 (sym (same.names key) ∙ is)));
      nodes_are = λ key name is.
          let node = linked.nodes_are key name (sym (same.names key) ∙ is) in
          record {
            numbers_are = λ folder. ap (λ numbers. number_in numbers folder) (same.numbers key) ∙ node.numbers_are folder ∙ ap (λ all. numbers_of all name folder) (sym items);
            users_are = λ user. (
              (λ c. subst (λ all. Uses all user name) (sym items) ((node.users_are user).0 (subst (λ xs. Contains xs user) (users key) c))),
              (λ u. subst (λ xs. Contains xs user) (sym (users key)) ((node.users_are user).1 (subst (λ all. Uses all user name) items u))),
            );
          };
      own = λ text one is. key_same old new same.names one.name (linked.own text one is);
      named = λ text one key is has. key_same old new same.names key (linked.named text one key is has);
    }

-- so where only the capacity is another
pub roomier : (nodes : Nodes) (capacity : ℕ) → KeepsNames nodes (record nodes { capacity = capacity })
roomier nodes capacity = record { names = λ key. refl; numbers = λ key. refl }

pub roomier_linked : (nodes new : Nodes) (capacity : ℕ) (keys : List (List ℕ × ℕ)) (texts : List Text) → new ≡ record nodes { capacity = capacity } → IsLinked nodes keys texts → IsLinked new keys texts
roomier_linked nodes new capacity keys texts same linked = subst (λ (n : Nodes). IsLinked n keys texts) (sym same) (alike_linked nodes (record nodes { capacity = capacity }) keys texts (roomier nodes capacity) (λ key. refl) linked)

pub roomier_items : (nodes new : Nodes) (capacity : ℕ) (texts : List Text) → new ≡ record nodes { capacity = capacity } → items_of new texts ≡ items_of nodes texts
roomier_items nodes new capacity texts same = ap (λ (n : Nodes). items_of n texts) same ∙ items_same nodes (record nodes { capacity = capacity }) (λ key. refl) texts

pub roomier_passes : (nodes new : Nodes) (capacity : ℕ) (keys : List (List ℕ × ℕ)) (test : Node → Bool) (name : List ℕ) → new ≡ record nodes { capacity = capacity } → list_any (bytes_eq name) (names_with test nodes keys) ≡ true → list_any (bytes_eq name) (names_with test new keys) ≡ true
roomier_passes nodes new capacity keys test name same has = ap (λ (n : Nodes). list_any (bytes_eq name) (names_with test n keys)) same ∙ named-is test (record nodes { capacity = capacity }) keys name ∙ sym (named-is test nodes keys name) ∙ has

-- ---- a name has no key that no text has

map_at : {X Y : Type 0} (f g : X → Y) (xs : List X) → ((k : ℕ) (x : X) → slice_get xs k ≡ Some x → f x ≡ g x) → map f xs ≡ map g xs
map_at f g [] e = refl
map_at f g (x ∷ xs) e = ap₂ (λ y ys. y ∷ ys) (e zero x refl) (map_at f g xs (λ k. e (suc k)))

map_in : {X Y : Type 0} (f g : X → Y) (xs : List X) → ((x : X) → Contains xs x → f x ≡ g x) → map f xs ≡ map g xs
map_in f g [] e = refl
map_in f g (x ∷ xs) e = ap₂ (λ y ys. y ∷ ys) (e x (here x xs)) (map_in f g xs (λ y c. e y (there y x xs c)))

module _ (equality : IsFileEquality) (nodes : Nodes) (keys : List (List ℕ × ℕ)) (texts : List Text) (linked : IsLinked nodes keys texts) (name : List ℕ) (unknown : key_of keys name ≡ None) where
  no_key : (key : ℕ) → IsKey nodes key → name_of nodes key ≡ name → ⊥
  no_key key is same =
      let at : name_at nodes key ≡ Some name = is.1 ∙ ap Some (sym (name_here nodes key is.0 is.1) ∙ same) in
      let e = sym ((linked.keys_are name key).1 at) ∙ unknown in cc

  pub no_file : (folder : Folder) → numbers_of (items_of nodes texts) name folder ≡ None
  no_file folder = at (numbers_of (items_of nodes texts) name folder) refl
    where
      at : (number : Option ℕ) → numbers_of (items_of nodes texts) name folder ≡ number → number ≡ None
      at None is = refl
      at (Some text) is =
          let one = known_text nodes texts text (file_in folder name) (file_of_number equality (items_of nodes texts) (file_in folder name) text is) in
          absurd (no_key one.0.name (linked.own text one.0 one.1) (sym (ap (λ (f : FileId). f.name) one.2)))

  pub no_use : (text : ℕ) → Uses (items_of nodes texts) text name → ⊥
  no_use text uses = at (slice_get texts text) refl
    where
      of : (one : Text) → slice_get texts text ≡ Some one → (own : Option (List ℕ)) → keys_in one ≡ own → Contains (unwrap_or (option_map (map (name_of nodes)) own) []) name → ⊥
      of one known None are c = none_in name c
      of one known (Some own) are c =
          let by = made_by (name_of nodes) own name c.0 c.1 c.2 in
          no_key by.0 (linked.named text one by.0 known (subst (λ o. Contains (unwrap_or o []) by.0) (sym are) by.1)) by.2

      at : (one : Option Text) → slice_get texts text ≡ one → ⊥
      at None known = none_in name (subst (λ o. Contains (unwrap_or o []) name) (names_none nodes texts text known) uses)
      at (Some one) known = of one known (keys_in one) refl (subst (λ o. Contains (unwrap_or o []) name) (names_by nodes texts text one known) uses)

  -- ---- a further node

  module _ (key : ℕ) (node : Node) (new : Nodes) (vacant : get nodes key ≡ None) (updates : Updates nodes new key (Some node)) (its_name : node.name ≡ name) (no_numbers : node.numbers.items ≡ []) (no_users : node.users.items ≡ []) (more : List (List ℕ × ℕ)) (put : (other : List ℕ) → key_of more other ≡ cond (same_name name other) (Some key) (key_of keys other)) where
    old_key : (other : ℕ) → IsKey nodes other → other ≢ key
    old_key other is equal = let e = sym is.1 ∙ ap (name_at nodes) equal ∙ ap (option_map (λ (n : Node). n.name)) vacant in cc

    name_new : name_at new key ≡ Some name
    name_new = ap (option_map (λ (n : Node). n.name)) updates.changed ∙ ap Some its_name

    name_old : (other : ℕ) → other ≢ key → name_at new other ≡ name_at nodes other
    name_old other differs = ap (option_map (λ (n : Node). n.name)) (updates.others other differs)

    still_key : (other : ℕ) → IsKey nodes other → IsKey new other
    still_key other is = (is.0, name_old other (old_key other is) ∙ is.1)

    still_name : (other : ℕ) → IsKey nodes other → name_of new other ≡ name_of nodes other
    still_name other is = ap (λ one. unwrap_or one []) (name_old other (old_key other is))

    own_same : (own : Option (List ℕ)) → ((k : ℕ) → Contains (unwrap_or own []) k → IsKey nodes k) → option_map (map (name_of new)) own ≡ option_map (map (name_of nodes)) own
    own_same None known = refl
    own_same (Some own) known = ap Some (map_in (name_of new) (name_of nodes) own (λ k c. still_name k (known k c)))

    pub further_items : items_of new texts ≡ items_of nodes texts
    further_items = map_at (item_of new) (item_of nodes) texts
        (λ text one is. ap₂ (λ own all. let item : Item = (file_in one.folder own, all) in item) (still_name one.name (linked.own text one is)) (own_same (keys_in one) (λ k has. linked.named text one k is has)))

    put_here : key_of more name ≡ Some key
    put_here = put name ∙ ap (λ same. cond same (Some key) (key_of keys name)) (same_name-refl name)

    keys_to : (other : List ℕ) (k : ℕ) → key_of more other ≡ Some k → name_at new k ≡ Some other
    keys_to other k is = by (cases_Bool (same_name name other))
      where
        by : (same_name name other ≡ true) ⊎ (same_name name other ≡ false) → name_at new k ≡ Some other
        by (inl same) =
            let e : Some key ≡ Some k = sym (put other ∙ ap (λ s. cond s (Some key) (key_of keys other)) same) ∙ is in
            let equal : key ≡ k = cc in
            ap (name_at new) (sym equal) ∙ name_new ∙ ap Some (same_name-is name other same)
        by (inr apart) =
            let e : key_of keys other ≡ Some k = sym (put other ∙ ap (λ s. cond s (Some key) (key_of keys other)) apart) ∙ is in
            let was = (linked.keys_are other k).0 e in
            name_old k (old_key k (other, was)) ∙ was

    keys_from : (other : List ℕ) (k : ℕ) → name_at new k ≡ Some other → key_of more other ≡ Some k
    keys_from other k is = ⊎_elim
        (λ equal.
        let e : Some name ≡ Some other = sym (ap (name_at new) equal ∙ name_new) ∙ is in
        let same : name ≡ other = cc in
        ap (key_of more) (sym same) ∙ put_here ∙ ap Some (sym equal))
        (λ differs.
        let was : name_at nodes k ≡ Some other = sym (name_old k differs) ∙ is in
        let known = (linked.keys_are other k).1 was in
        let apart : same_name name other ≡ false = ⊎_elim (λ same. absurd (let e = sym unknown ∙ ap (key_of keys) (same_name-is name other same) ∙ known in cc)) (λ apart. apart) (cases_Bool (same_name name other)) in
        put other ∙ ap (λ s. cond s (Some key) (key_of keys other)) apart ∙ known)
        (same_or_not k key)

    node_new : IsNode (items_of nodes texts) name (numbers_at new key) (users_at new key)
    node_new =
        let numbers : numbers_at new key ≡ [] = ap (λ n. option_map_or (λ (one : Node). one.numbers.items) n []) updates.changed ∙ no_numbers in
        let users : users_at new key ≡ [] = ap (λ n. option_map_or (λ (one : Node). one.users.items) n []) updates.changed ∙ no_users in
        record {
          numbers_are = λ folder. ap (λ ns. number_in ns folder) numbers ∙ sym (no_file folder);
          users_are = λ text. ((λ c. absurd (none_in text (subst (λ us. Contains us text) users c))), (λ u. absurd (no_use text u)));
        }

    node_old : (k : ℕ) (other : List ℕ) → k ≢ key → name_at new k ≡ Some other → IsNode (items_of nodes texts) other (numbers_at new k) (users_at new k)
    node_old k other differs is =
        let was = linked.nodes_are k other (sym (name_old k differs) ∙ is) in
        let same = updates.others k differs in
        let numbers = ap (λ n. option_map_or (λ (one : Node). one.numbers.items) n []) same in
        let users = ap (λ n. option_map_or (λ (one : Node). one.users.items) n []) same in
        record {
          numbers_are = λ folder. ap (λ ns. number_in ns folder) numbers ∙ was.numbers_are folder;
          users_are = λ text. ((λ c. (was.users_are text).0 (subst (λ us. Contains us text) users c)), (λ u. subst (λ us. Contains us text) (sym users) ((was.users_are text).1 u)));
        }

    pub further_linked : IsLinked new more texts
    further_linked = record {
      keys_are = λ other k. (keys_to other k, keys_from other k);
      nodes_are = λ k other is. subst (λ items. IsNode items other (numbers_at new k) (users_at new k)) (sym further_items)
          (⊎_elim
          (λ equal. let e : Some name ≡ Some other = sym (ap (name_at new) equal ∙ name_new) ∙ is in let same : name ≡ other = cc in
          subst (λ j. IsNode (items_of nodes texts) other (numbers_at new j) (users_at new j)) (sym equal) (subst (λ n. IsNode (items_of nodes texts) n (numbers_at new key) (users_at new key)) same node_new))
          (λ differs. node_old k other differs is)
          (same_or_not k key));
      own = λ text one is. still_key one.name (linked.own text one is);
      named = λ text one k is has. still_key k (linked.named text one k is has);
    }

    -- what passed does so still, and the new name where its node does
    pub further_passes : (test : Node → Bool) (other : List ℕ) → list_any (bytes_eq other) (names_with test nodes keys) ≡ true → list_any (bytes_eq other) (names_with test new more) ≡ true
    further_passes test other has = named-is test new more other ∙ by (key_of keys other) refl (sym (named-is test nodes keys other) ∙ has)
      where
        by : (k : Option ℕ) → key_of keys other ≡ k → option_map_or (passes_at test nodes) k false ≡ true → passes test new more other ≡ true
        by None is p = cc
        by (Some k) is p =
            let was = (linked.keys_are other k).0 is in
            let differs = old_key k (other, was) in
            ap (λ o. option_map_or (passes_at test new) o false) (keys_from other k (name_old k differs ∙ was))
            ∙ ap (λ n. option_map_or test n false) (updates.others k differs) ∙ p

    pub further_place : (test : Node → Bool) → test node ≡ true → list_any (bytes_eq name) (names_with test new more) ≡ true
    further_place test passes_it =
        named-is test new more name ∙ ap (λ o. option_map_or (passes_at test new) o false) put_here ∙ ap (λ n. option_map_or test n false) updates.changed ∙ passes_it

-- ---- one after another

pub keeps_none : (links : Linked) → KeepsLinks links links
keeps_none links = record { items = refl; room = omega arith; spares = λ name has. has; places = λ name has. has }

pub keeps_more : (old mid new : Linked) → KeepsLinks old mid → KeepsLinks mid new → KeepsLinks old new
keeps_more old mid new one two = record {
  items = two.items ∙ one.items;
  room = let a = one.room in let b = two.room in omega arith;
  spares = λ name has. two.spares name (one.spares name has);
  places = λ name has. two.places name (one.places name has);
}
