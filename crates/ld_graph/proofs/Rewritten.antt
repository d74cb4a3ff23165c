-- One text gets other names.
use Rattle.std.proofs.Common.{◌≡◌, ◌⊎◌, ℕ, zero, suc, List, [], ◌∷◌, Option, Some, None, map, set, true, false, cond, inl, inr, ⊎_elim, refl, sym, ap, ap₂, ◌∙◌, subst, Bool}
use Rattle.std.proofs.lemmas.List.{map-set}
use Rattle.std.proofs.lemmas.Option.{slice_get_within}
use Rattle.std.specs.Prelude.{◌↔◌, ◌||◌, bytes_eq}
use Rattle.std.specs.List.{Contains, filter, list_any, position, slice_get}
use Rattle.std.specs.Option.{option_and_then, option_map, option_map_or, unwrap_or}
use Rattle.ld_names.specs.Standing.{file_in, same_file}
use Rattle.ld_names.specs.declared.file.FileId.{FileId}
use Rattle.ld_graph.specs.Items.{Item, Items, Names, files_of, names_at, with_names_at}
use Rattle.ld_graph.specs.Inside.Linking.{IsKey, IsLinked, Uses, file_of, item_of, items_of, keys_in}
use Rattle.ld_graph.specs.Inside.Nodes.{Forgets, KeepsNames, Learns, Nodes, key_of, name_at, name_of, names_with, number_in, passes, passes_at, users_at}
use Rattle.ld_graph.specs.declared.node.Node.{Node}
use Rattle.ld_graph.specs.declared.node.Text.{Text}
use Rattle.ld_graph.proofs.FoundBy.{contains_map, made_by}
use Rattle.ld_graph.proofs.Linked.{item_at, name_here, names_by}
use Rattle.ld_graph.proofs.Listed.{none_in}
use Rattle.ld_graph.proofs.Written.{get_other, get_same}
use Rattle.ld_graph.proofs.Users.{same_or_not}

map_same : {A B : Type 0} (f g : A → B) → ((x : A) → f x ≡ g x) → (xs : List A) → map f xs ≡ map g xs
map_same f g same [] = refl
map_same f g same (x ∷ xs) = ap₂ (λ y ys. y ∷ ys) (same x) (map_same f g same xs)

same_names : (f g : ℕ → List ℕ) → ((key : ℕ) → f key ≡ g key) → (keys : Option (List ℕ)) → option_map (map f) keys ≡ option_map (map g) keys
same_names f g same None = refl
same_names f g same (Some keys) = ap Some (map_same f g same keys)

-- ---- where all names keep their keys, so do the items

module _ (old new : Nodes) (same : (key : ℕ) → name_at new key ≡ name_at old key) where
  pub names_same : (key : ℕ) → name_of new key ≡ name_of old key
  names_same key = ap (λ name. unwrap_or name []) (same key)

  pub item_same : (text : Text) → item_of new text ≡ item_of old text
  item_same text = ap₂ (λ name names. (record { folder = text.folder; name = name }, names)) (names_same text.name) (same_names (name_of new) (name_of old) names_same (keys_in text))

  pub items_same : (texts : List Text) → items_of new texts ≡ items_of old texts
  items_same texts = map_same (item_of new) (item_of old) item_same texts

  pub key_same : (key : ℕ) → IsKey old key → IsKey new key
  key_same key is = (is.0, same key ∙ is.1)

-- ---- the items with other names of one text

module _ (items : Items) (text : ℕ) (item : Item) (names : Names) (at : slice_get items text ≡ Some item) where
  pub with_is : with_names_at items text names ≡ set items text (item.0, names)
  with_is = ap (λ one. option_map_or (λ (one : Item). set items text (one.0, names)) one items) at

  pub names_there : names_at (with_names_at items text names) text ≡ names
  names_there =
      ap (λ all. names_at all text) with_is ∙ ap (option_and_then (λ (one : Item). one.1)) (get_same items text (item.0, names) (slice_get_within items text item at))

  pub names_elsewhere : (other : ℕ) → (other ≡ text → ⊥) → names_at (with_names_at items text names) other ≡ names_at items other
  names_elsewhere other differs =
      ap (λ all. names_at all other) with_is ∙ ap (option_and_then (λ (one : Item). one.1)) (get_other items text other (item.0, names) differs)

  set_same : (xs : List FileId) (k : ℕ) (x : FileId) → slice_get xs k ≡ Some x → set xs k x ≡ xs
  set_same [] k x is = refl
  set_same (y ∷ xs) zero x is = let e : y ≡ x = cc in ap (λ z. z ∷ xs) (sym e)
  set_same (y ∷ xs) (suc k) x is = ap (λ zs. y ∷ zs) (set_same xs k x is)

  file_there : (xs : Items) (k : ℕ) → slice_get xs k ≡ Some item → slice_get (files_of xs) k ≡ Some item.0
  file_there [] k is = cc
  file_there (y ∷ xs) zero is = let e : y ≡ item = cc in ap (λ (i : Item). Some i.0) e
  file_there (y ∷ xs) (suc k) is = file_there xs k is

  pub files_stay : files_of (with_names_at items text names) ≡ files_of items
  files_stay =
      ap files_of with_is ∙ map-set (λ (one : Item). one.0) items text (item.0, names) ∙ set_same (files_of items) text item.0 (file_there items text at)

-- ---- a text with the same name and folder in the place of another

module _ (old new : Nodes) (same : KeepsNames old new) (texts : List Text) (text : ℕ) (one two : Text) (at : slice_get texts text ≡ Some one) (folder : two.folder ≡ one.folder) (name : two.name ≡ one.name) where
  abbrev names : Names
  names = option_map (map (name_of old)) (keys_in two)

  file_same : file_of old two ≡ file_of old one
  file_same = ap₂ (λ folder name. record { folder = folder; name = name_of old name }) folder name

  pub items_are : items_of new (set texts text two) ≡ with_names_at (items_of old texts) text names
  items_are =
      items_same old new same.names (set texts text two) ∙ map-set (item_of old) texts text two ∙ ap (λ file. set (items_of old texts) text (file, names)) file_same ∙ sym (with_is (items_of old texts) text (item_of old one) names (item_at old texts text one at))

  module _ (keys : List (List ℕ × ℕ)) (linked : IsLinked old keys texts) (own : (key : ℕ) → Contains (unwrap_or (keys_in two) []) key → IsKey old key) (users : (key user : ℕ) (name : List ℕ) → name_at old key ≡ Some name → Contains (users_at new key) user ↔ Uses (with_names_at (items_of old texts) text names) user name) where
    texts_at : (other : ℕ) (x : Text) → slice_get (set texts text two) other ≡ Some x → ((other ≡ text) × (x ≡ two)) ⊎ (slice_get texts other ≡ Some x)
    texts_at other x is =
        ⊎_elim
        (λ equal. inl (equal, let e = sym (get_same texts text two (slice_get_within texts text one at)) ∙ sym (ap (slice_get (set texts text two)) equal) ∙ is in cc))
        (λ differs. inr (sym (get_other texts text other two differs) ∙ is)) (same_or_not other text)

    pub linked_still : IsLinked new keys (set texts text two)
    linked_still = record {
      keys_are = λ name key. ((λ is. same.names key ∙ (linked.keys_are name key).0 is), (λ is. (linked.keys_are name key).1 (sym (same.names key) ∙ is)));
      nodes_are = λ key name is.
          let was : name_at old key ≡ Some name = sym (same.names key) ∙ is in
          let node = linked.nodes_are key name was in
          record {
            numbers_are = λ folder. ap (λ numbers. number_in numbers folder) (same.numbers key) ∙ node.numbers_are folder ∙ ap (λ files. position (same_file (file_in folder name)) files) (sym (files_stay (items_of old texts) text (item_of old one) names (item_at old texts text one at)) ∙ sym (ap files_of items_are));
            users_are = λ user. subst (λ items. Contains (users_at new key) user ↔ Uses items user name) (sym items_are) (users key user name was);
          };
      own = λ other x is. key_same old new same.names x.name (⊎_elim (λ here. subst (IsKey old) (sym name ∙ sym (ap (λ (t : Text). t.name) here.1)) (linked.own text one at)) (λ there. linked.own other x there) (texts_at other x is));
      named = λ other x key is has. key_same old new same.names key (⊎_elim (λ here. own key (subst (λ (t : Text). Contains (unwrap_or (keys_in t) []) key) here.1 has)) (λ there. linked.named other x key there has) (texts_at other x is));
    }

-- ---- keys and their names

pub key_here : (nodes : Nodes) (keys : List (List ℕ × ℕ)) (texts : List Text) → IsLinked nodes keys texts → (key other : ℕ) (name : List ℕ) → name_at nodes key ≡ Some name → name_at nodes other ≡ Some name → other ≡ key
key_here nodes keys texts linked key other name is also = let e = sym ((linked.keys_are name other).1 also) ∙ (linked.keys_are name key).1 is in cc

-- the names of keys have a name where the keys have its key
in_names : (nodes : Nodes) (own : List ℕ) (key : ℕ) (name : List ℕ) → name_at nodes key ≡ Some name → Contains own key → Contains (map (name_of nodes) own) name
in_names nodes own key name is has = subst (Contains (map (name_of nodes) own)) (name_here nodes key name is) (contains_map (name_of nodes) own key has.0 has.1 has.2)

in_keys : (nodes : Nodes) (keys : List (List ℕ × ℕ)) (texts : List Text) → IsLinked nodes keys texts → (own : List ℕ) → ((key : ℕ) → Contains own key → IsKey nodes key) → (key : ℕ) (name : List ℕ) → name_at nodes key ≡ Some name → Contains (map (name_of nodes) own) name → Contains own key
in_keys nodes keys texts linked own known key name is has =
    let by = made_by (name_of nodes) own name has.0 has.1 has.2 in
    let its = known by.0 by.1 in
    let also : name_at nodes by.0 ≡ Some name = its.1 ∙ ap Some (sym (name_here nodes by.0 its.0 its.1) ∙ by.2) in
    subst (Contains own) (key_here nodes keys texts linked key by.0 name is also) by.1

listed_names : (nodes : Nodes) (own : Option (List ℕ)) → unwrap_or (option_map (map (name_of nodes)) own) [] ≡ map (name_of nodes) (unwrap_or own [])
listed_names nodes None = refl
listed_names nodes (Some own) = refl

-- ---- who uses a name then

module _ (old new : Nodes) (keys : List (List ℕ × ℕ)) (texts : List Text) (linked : IsLinked old keys texts) (text : ℕ) (one : Text) (at : slice_get texts text ≡ Some one) where
  abbrev items : Items
  items = items_of old texts

  abbrev item : Item
  item = item_of old one

  item_here : slice_get items text ≡ Some item
  item_here = item_at old texts text one at

  -- the names of the text that stood there
  names_were : names_at items text ≡ option_map (map (name_of old)) (keys_in one)
  names_were = names_by old texts text one at

  uses_elsewhere : (names : Names) (user : ℕ) (name : List ℕ) → (user ≡ text → ⊥) → Uses (with_names_at items text names) user name ↔ Uses items user name
  uses_elsewhere names user name differs =
      let same = names_elsewhere items text item names item_here user differs in
      ((λ u. subst (λ ns. Contains (unwrap_or ns []) name) same u), (λ u. subst (λ ns. Contains (unwrap_or ns []) name) (sym same) u))

  uses_there : (names : Names) (user : ℕ) (name : List ℕ) → user ≡ text → Uses (with_names_at items text names) user name ↔ Contains (unwrap_or names []) name
  uses_there names user name equal =
      let same = ap (names_at (with_names_at items text names)) equal ∙ names_there items text item names item_here in
      ((λ u. subst (λ ns. Contains (unwrap_or ns []) name) same u), (λ u. subst (λ ns. Contains (unwrap_or ns []) name) (sym same) u))

  users_forgotten : Forgets old new (unwrap_or (keys_in one) []) text → (key user : ℕ) (name : List ℕ) → name_at old key ≡ Some name → Contains (users_at new key) user ↔ Uses (with_names_at items text None) user name
  users_forgotten forgets key user name is =
      let node = linked.nodes_are key name is in (
        (λ c.
            let both = (forgets.users key user).0 c in
            let used = (node.users_are user).0 both.0 in
            ⊎_elim
            (λ equal.
            let names = ap (names_at items) equal ∙ names_were in
            let listed = subst (λ ns. Contains ns name) (ap (λ ns. unwrap_or ns []) names ∙ listed_names old (keys_in one)) used in
            absurd (both.1 (in_keys old keys texts linked (unwrap_or (keys_in one) []) (λ k has. linked.named text one k at has) key name is listed) equal))
            (λ differs. (uses_elsewhere None user name differs).1 used) (same_or_not user text)),
        (λ u. ⊎_elim
            (λ equal. absurd (none_in name ((uses_there None user name equal).0 u)))
            (λ differs. (forgets.users key user).1 ((node.users_are user).1 ((uses_elsewhere None user name differs).0 u), λ has equal. differs equal))
            (same_or_not user text)),
      )

  users_learnt : names_at items text ≡ None → (own : List ℕ) → ((key : ℕ) → Contains own key → IsKey old key) → Learns old new own text → (key user : ℕ) (name : List ℕ) → name_at old key ≡ Some name → Contains (users_at new key) user ↔ Uses (with_names_at items text (Some (map (name_of old) own))) user name
  users_learnt none own known learns key user name is =
      let node = linked.nodes_are key name is in
      let names : Names = Some (map (name_of old) own) in (
        (λ c. ⊎_elim
            (λ was.
            let used = (node.users_are user).0 was in
            ⊎_elim
            (λ equal. absurd (none_in name (subst (λ ns. Contains (unwrap_or ns []) name) (ap (names_at items) equal ∙ none) used)))
            (λ differs. (uses_elsewhere names user name differs).1 used) (same_or_not user text))
            (λ more. (uses_there names user name more.1).1 (in_names old own key name is more.0))
            ((learns.users key user).0 c)),
        (λ u. ⊎_elim
            (λ equal. (learns.users key user).1 (inr (in_keys old keys texts linked own known key name is ((uses_there names user name equal).0 u), equal)))
            (λ differs. (learns.users key user).1 (inl ((node.users_are user).1 ((uses_elsewhere names user name differs).0 u))))
            (same_or_not user text)),
      )

  pub still_forgotten : Forgets old new (unwrap_or (keys_in one) []) text → (two : Text) → two.folder ≡ one.folder → two.name ≡ one.name → two.names ≡ None → IsLinked new keys (set texts text two) × (items_of new (set texts text two) ≡ with_names_at items text None)
  still_forgotten forgets two folder name none =
      let no_keys : keys_in two ≡ None = ap (option_map (λ own. own.items)) none in
      let no_names : option_map (map (name_of old)) (keys_in two) ≡ None = ap (option_map (map (name_of old))) no_keys in (
        linked_still old new forgets.same texts text one two at folder name keys linked
            (λ key has. absurd (none_in key (subst (λ own. Contains (unwrap_or own []) key) no_keys has)))
            (λ key user which is. subst (λ names. Contains (users_at new key) user ↔ Uses (with_names_at items text names) user which) (sym no_names) (users_forgotten forgets key user which is)),
        items_are old new forgets.same texts text one two at folder name ∙ ap (with_names_at items text) no_names,
      )

  pub still_learnt : names_at items text ≡ None → (own : List ℕ) → ((key : ℕ) → Contains own key → IsKey old key) → Learns old new own text → (two : Text) → two.folder ≡ one.folder → two.name ≡ one.name → keys_in two ≡ Some own → IsLinked new keys (set texts text two) × (items_of new (set texts text two) ≡ with_names_at items text (Some (map (name_of old) own)))
  still_learnt none own known learns two folder name has_keys =
      let its_names : option_map (map (name_of old)) (keys_in two) ≡ Some (map (name_of old) own) = ap (option_map (map (name_of old))) has_keys in (
        linked_still old new learns.same texts text one two at folder name keys linked
            (λ key has. known key (subst (λ keys. Contains (unwrap_or keys []) key) has_keys has))
            (λ key user which is. subst (λ names. Contains (users_at new key) user ↔ Uses (with_names_at items text names) user which) (sym its_names) (users_learnt none own known learns key user which is)),
        items_are old new learns.same texts text one two at folder name ∙ ap (with_names_at items text) its_names,
      )

-- ---- memory

any_more : (test p q : List ℕ → Bool) → ((x : List ℕ) → p x ≡ true → q x ≡ true) → (xs : List (List ℕ)) → list_any test (filter p xs) ≡ true → list_any test (filter q xs) ≡ true
any_more test p q more [] is = is
any_more test p q more (x ∷ xs) is = by (p x) (q x) (more x) (any_more test p q more xs) is
  where
    or_left : (a b : Bool) → a ≡ true → (a || b) ≡ true
    or_left true b is = refl
    or_left false b is = cc

    or_right : (a b : Bool) → b ≡ true → (a || b) ≡ true
    or_right true b is = refl
    or_right false b is = is

    either : (a b c : Bool) → (b ≡ true → c ≡ true) → (a || b) ≡ true → (a || c) ≡ true
    either true b c go is = refl
    either false b c go is = go is

    by : (a b : Bool) → (a ≡ true → b ≡ true) → (list_any test (filter p xs) ≡ true → list_any test (filter q xs) ≡ true) → list_any test (cond a (x ∷ filter p xs) (filter p xs)) ≡ true → list_any test (cond b (x ∷ filter q xs) (filter q xs)) ≡ true
    by true true go later is = either (test x) (list_any test (filter p xs)) (list_any test (filter q xs)) later is
    by true false go later is = let e = go refl in cc
    by false true go later is = or_right (test x) (list_any test (filter q xs)) (later is)
    by false false go later is = later is

-- what more nodes pass, more names do
pub passes_more : (test : Node → Bool) (old new : Nodes) (keys : List (List ℕ × ℕ)) → ((key : ℕ) → passes_at test old key ≡ true → passes_at test new key ≡ true) → (name : List ℕ) → list_any (bytes_eq name) (names_with test old keys) ≡ true → list_any (bytes_eq name) (names_with test new keys) ≡ true
passes_more test old new keys more name =
    any_more (bytes_eq name) (passes test old keys) (passes test new keys) (λ other. by (key_of keys other)) (map (λ entry. entry.0) keys)
  where
    by : (key : Option ℕ) → option_map_or (passes_at test old) key false ≡ true → option_map_or (passes_at test new) key false ≡ true
    by None is = is
    by (Some key) is = more key is

-- ---- an absent text made absent stays

set_item : (xs : Items) (k : ℕ) (x : Item) → slice_get xs k ≡ Some x → set xs k x ≡ xs
set_item [] k x is = refl
set_item (y ∷ xs) zero x is = let e : y ≡ x = cc in ap (λ z. z ∷ xs) (sym e)
set_item (y ∷ xs) (suc k) x is = ap (λ zs. y ∷ zs) (set_item xs k x is)

pub absent_stays : (items : Items) (text : ℕ) → names_at items text ≡ None → with_names_at items text None ≡ items
absent_stays items text none = by (slice_get items text) refl none
  where
    by : (item : Option Item) → slice_get items text ≡ item → option_and_then (λ (one : Item). one.1) item ≡ None → with_names_at items text None ≡ items
    by None at is = ap (λ one. option_map_or (λ (one : Item). set items text (one.0, None)) one items) at
    by (Some item) at is = with_is items text item None at ∙ ap (λ (names : Names). set items text (item.0, names)) (sym is) ∙ set_item items text item at
