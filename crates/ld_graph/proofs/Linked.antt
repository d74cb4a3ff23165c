-- What the nodes say of the items.
use Rattle.std.proofs.Common.{◌≡◌, ◌<◌, ℕ, suc, Bool, true, List, [], ◌∷◌, Option, Some, None, map, length, get_or, refl, sym, ap, ap₂, ◌∙◌, subst, arith, tests, nat_lt, Vec, Global}
use Rattle.std.proofs.lemmas.Option.{slice_get-map, slice_get_read, slice_get_within, get_or_from_slice_get}
use Rattle.std.specs.List.{Contains, cons_option, filter_map, slice_get}
use Rattle.std.specs.Option.{is_some, option_and_then, option_map, option_map_or, unwrap_or}
use Rattle.slab.specs.Slab.{get}
use Rattle.ld_names.specs.Standing.{folders_of}
use Rattle.ld_names.specs.declared.file.FileId.{FileId}
use Rattle.ld_names.specs.declared.file.Folder.{Folder}
use Rattle.ld_graph.specs.Items.{Item, Items, file_at, first_present, found, found_by, here_or, names_at, numbers_of, presence, present_or, web_of}
use Rattle.ld_graph.specs.Web.{children_of, over, over_children, tallest}
use Rattle.ld_graph.specs.Inside.Linking.{AreUsers, IsKey, IsLinked, LooksAt, Uses, found_by_name, file_of, found_at, is_there, item_of, items_of, keys_in, node_of}
use Rattle.ld_graph.specs.Inside.Nodes.{Nodes, name_at, name_of, number_in, numbers_at, users_at}
use Rattle.ld_graph.specs.declared.node.Node.{Node}
use Rattle.ld_graph.specs.declared.node.Text.{Text}
use Rattle.ld_graph.proofs.FoundBy.{children_is, file_is}
use Rattle.ld_graph.proofs.Listed.{here, there}

-- ---- one node

pub node_at : (nodes : Nodes) (key : ℕ) (name : List ℕ) → name_at nodes key ≡ Some name → (node : Node) × (get nodes key ≡ Some node) × (node.name ≡ name)
node_at nodes key name is = at (get nodes key) refl is
  where
    at : (one : Option Node) → get nodes key ≡ one → option_map (λ (node : Node). node.name) one ≡ Some name → (node : Node) × (get nodes key ≡ Some node) × (node.name ≡ name)
    at None known e = cc
    at (Some node) known e = (node, known, let same : node.name ≡ name = cc in same)

pub name_here : (nodes : Nodes) (key : ℕ) (name : List ℕ) → name_at nodes key ≡ Some name → name_of nodes key ≡ name
name_here nodes key name is = ap (λ one. unwrap_or one []) is

pub numbers_here : (nodes : Nodes) (key : ℕ) (node : Node) → get nodes key ≡ Some node → numbers_at nodes key ≡ node.numbers.items
numbers_here nodes key node is = ap (λ one. option_map_or (λ (n : Node). n.numbers.items) one []) is

pub users_here : (nodes : Nodes) (key : ℕ) (node : Node) → get nodes key ≡ Some node → users_at nodes key ≡ node.users.items
users_here nodes key node is = ap (λ one. option_map_or (λ (n : Node). n.users.items) one []) is

-- ---- the same is found

present_same : (numbers others : Folder → Option ℕ) (present seen : ℕ → Option Bool) → ((folder : Folder) → numbers folder ≡ others folder) → ((text : ℕ) → present text ≡ seen text) → (folders : List Folder) → first_present numbers present folders ≡ first_present others seen folders
present_same numbers others present seen n p [] = refl
present_same numbers others present seen n p (folder ∷ folders) =
    at (numbers folder) ∙ ap₂ (λ number later. here_or number seen later) (n folder) (present_same numbers others present seen n p folders)
  where
    at : (number : Option ℕ) → here_or number present (first_present numbers present folders) ≡ here_or number seen (first_present numbers present folders)
    at None = refl
    at (Some text) = ap (λ now. present_or text now (first_present numbers present folders)) (p text)

pub some_same : {A B : Type 0} (f : A → B) (o : Option A) → is_some (option_map f o) ≡ is_some o
some_same f None = refl
some_same f (Some x) = refl

filtered_same : {X Y Z : Type 0} (h : X → Y) (f : Y → Option Z) (g : X → Option Z) (xs : List X) → ((x : X) → Contains xs x → f (h x) ≡ g x) → filter_map f (map h xs) ≡ filter_map g xs
filtered_same h f g [] e = refl
filtered_same h f g (x ∷ xs) e = ap₂ cons_option (e x (here x xs)) (filtered_same h f g xs (λ y c. e y (there y x xs c)))

-- ---- items

pub item_at : (nodes : Nodes) (texts : List Text) (text : ℕ) (one : Text) → slice_get texts text ≡ Some one → slice_get (items_of nodes texts) text ≡ Some (item_of nodes one)
item_at nodes texts text one is = slice_get-map (item_of nodes) texts text ∙ ap (option_map (item_of nodes)) is

pub item_none : (nodes : Nodes) (texts : List Text) (text : ℕ) → slice_get texts text ≡ None → slice_get (items_of nodes texts) text ≡ None
item_none nodes texts text is = slice_get-map (item_of nodes) texts text ∙ ap (option_map (item_of nodes)) is

pub file_by : (nodes : Nodes) (texts : List Text) (text : ℕ) (one : Text) → slice_get texts text ≡ Some one → file_at (items_of nodes texts) text ≡ Some (file_of nodes one)
file_by nodes texts text one is = file_is (items_of nodes texts) text ∙ ap (option_map (λ (item : Item). item.0)) (item_at nodes texts text one is)

pub file_none : (nodes : Nodes) (texts : List Text) (text : ℕ) → slice_get texts text ≡ None → file_at (items_of nodes texts) text ≡ None
file_none nodes texts text is = file_is (items_of nodes texts) text ∙ ap (option_map (λ (item : Item). item.0)) (item_none nodes texts text is)

pub names_by : (nodes : Nodes) (texts : List Text) (text : ℕ) (one : Text) → slice_get texts text ≡ Some one → names_at (items_of nodes texts) text ≡ option_map (map (name_of nodes)) (keys_in one)
names_by nodes texts text one is = ap (option_and_then (λ (item : Item). item.1)) (item_at nodes texts text one is)

pub names_none : (nodes : Nodes) (texts : List Text) (text : ℕ) → slice_get texts text ≡ None → names_at (items_of nodes texts) text ≡ None
names_none nodes texts text is = ap (option_and_then (λ (item : Item). item.1)) (item_none nodes texts text is)

pub known_text : (nodes : Nodes) (texts : List Text) (text : ℕ) (file : FileId) → file_at (items_of nodes texts) text ≡ Some file → (one : Text) × (slice_get texts text ≡ Some one) × (file ≡ file_of nodes one)
known_text nodes texts text file is = at (slice_get texts text) refl (sym (file_is (items_of nodes texts) text ∙ ap (option_map (λ (item : Item). item.0)) (slice_get-map (item_of nodes) texts text)) ∙ is)
  where
    at : (one : Option Text) → slice_get texts text ≡ one → option_map (λ (item : Item). item.0) (option_map (item_of nodes) one) ≡ Some file → (x : Text) × (slice_get texts text ≡ Some x) × (file ≡ file_of nodes x)
    at None known e = cc
    at (Some one) known e = (one, known, let same : file_of nodes one ≡ file = cc in sym same)

pub there_same : (nodes : Nodes) (texts : List Text) (text : ℕ) → presence (items_of nodes texts) text ≡ is_there texts text
there_same nodes texts text = ap (option_map (λ (item : Item). is_some item.1)) (slice_get-map (item_of nodes) texts text) ∙ at (slice_get texts text)
  where
    at : (one : Option Text) → option_map (λ (item : Item). is_some item.1) (option_map (item_of nodes) one) ≡ option_map (λ (x : Text). is_some x.names) one
    at None = refl
    at (Some one) = ap Some (some_same (map (name_of nodes)) (keys_in one) ∙ some_same (λ xs. xs.items) one.names)

pub present_by : (nodes : Nodes) (texts : List Text) (text : ℕ) (one : Text) → slice_get texts text ≡ Some one → is_some one.names ≡ is_some (names_at (items_of nodes texts) text)
present_by nodes texts text one is = sym (ap is_some (names_by nodes texts text one is) ∙ some_same (map (name_of nodes)) (keys_in one) ∙ some_same (λ xs. xs.items) one.names)

-- a text with names is known
pub user_below : (items : Items) (user : ℕ) (name : List ℕ) → Uses items user name → user < length items
user_below items user name uses = at (slice_get items user) refl uses
  where
    at : (item : Option Item) → slice_get items user ≡ item → Contains (unwrap_or (option_and_then (λ (x : Item). x.1) item) []) name → user < length items
    at None known c = absurd (omega (arith, c.1))
    at (Some item) known c = slice_get_within items user item known

module _ (nodes : Nodes) (keys : List (List ℕ × ℕ)) (texts : List Text) (linked : IsLinked nodes keys texts) where
  abbrev items : Items
  items = items_of nodes texts

  pub found_same : (from : Folder) (key : ℕ) (name : List ℕ) → name_at nodes key ≡ Some name → found_at nodes texts from key ≡ found items from name
  found_same from key name is =
      let one = node_at nodes key name is in
      let node = linked.nodes_are key name is in
      ap (option_and_then (λ (n : Node). first_present (number_in n.numbers.items) (is_there texts) (folders_of from))) one.1
      ∙ present_same (number_in one.0.numbers.items) (numbers_of items name) (is_there texts) (presence items)
      (λ folder. ap (λ ns. number_in ns folder) (sym (numbers_here nodes key one.0 one.1)) ∙ node.numbers_are folder)
      (λ text. sym (there_same nodes texts text)) (folders_of from)

  -- the node of a text's name
  pub own_node : (text : ℕ) (one : Text) → slice_get texts text ≡ Some one → (node : Node) × (node_of nodes texts text ≡ Some node) × (get nodes one.name ≡ Some node) × (name_at nodes one.name ≡ Some (name_of nodes one.name))
  own_node text one is =
      let key = linked.own text one is in
      let node = node_at nodes one.name key.0 key.1 in
      (node.0, ap (option_and_then (λ (x : Text). get nodes x.name)) is ∙ node.1, node.1, key.1 ∙ ap Some (sym (name_here nodes one.name key.0 key.1)))

  pub users_right : (text : ℕ) (node : Node) → node_of nodes texts text ≡ Some node → AreUsers items text node.users.items
  users_right text node is file file_there =
      let one = known_text nodes texts text file file_there in
      let own = own_node text one.0 one.1 in
      let same : own.0 ≡ node = (let e = sym own.1 ∙ is in cc) in
      let name : name_of nodes one.0.name ≡ file.name = sym (ap (λ (f : FileId). f.name) one.2) in
      let here : users_at nodes one.0.name ≡ node.users.items = users_here nodes one.0.name own.0 own.2 ∙ ap (λ (n : Node). n.users.items) same in
      λ user.
      let both = (linked.nodes_are one.0.name (name_of nodes one.0.name) own.3).users_are user in
      (λ c. subst (Uses items user) name (both.0 (subst (λ us. Contains us user) (sym here) c)), λ u. subst (λ us. Contains us user) here (both.1 (subst (Uses items user) (sym name) u)))

  -- whose users are known texts
  pub users_within : (text : ℕ) (node : Node) → node_of nodes texts text ≡ Some node → (user : ℕ) → Contains node.users.items user → user < length items
  users_within text node is = at (slice_get texts text) refl
    where
      at : (one : Option Text) → slice_get texts text ≡ one → (user : ℕ) → Contains node.users.items user → user < length items
      at None known user c = let e = sym is ∙ ap (option_and_then (λ (x : Text). get nodes x.name)) known in cc
      at (Some one) known user c =
          let file = file_by nodes texts text one known in
          user_below items user (file_of nodes one).name ((users_right text node is (file_of nodes one) file user).0 c)

  -- ---- what the keys of a text find

  keys_found : (from : Folder) (own : Option (List ℕ)) → ((key : ℕ) → Contains (unwrap_or own []) key → IsKey nodes key) → option_map (filter_map (found items from)) (option_map (map (name_of nodes)) own) ≡ option_map (filter_map (found_at nodes texts from)) own
  keys_found from None known = refl
  keys_found from (Some own) known = ap Some (filtered_same (name_of nodes) (found items from) (found_at nodes texts from) own
      (λ key c. let is = known key c in ap (found items from) (name_here nodes key is.0 is.1) ∙ sym (found_same from key is.0 is.1)))

  pub children_by : (text : ℕ) (one : Text) → slice_get texts text ≡ Some one → children_of (web_of items) text ≡ option_map (filter_map (found_at nodes texts one.folder)) (keys_in one)
  children_by text one is =
      children_is items text
      ∙ ap (λ item. unwrap_or (option_map (found_by items) item) None) (item_at nodes texts text one is)
      ∙ keys_found one.folder (keys_in one) (λ key. linked.named text one key is)

  pub children_none : (text : ℕ) → slice_get texts text ≡ None → children_of (web_of items) text ≡ None
  children_none text is = children_is items text ∙ ap (λ item. unwrap_or (option_map (found_by items) item) None) (item_none nodes texts text is)

-- ---- what the calls answer

pub got : {X : Type 0} (xs ys : List X) (k : ℕ) (x : X) → ys ≡ xs → true ≡ nat_lt k (length ys) → x ≡ get_or ys k x → slice_get xs k ≡ Some x
got xs ys k x same lt is = subst (λ zs. slice_get zs k ≡ Some x) same (slice_get_read ys (length ys) k x refl (grind (arith, tests, lt)) is)

the_same : {X : Type 0} (o : Option X) (x y : X) → o ≡ Some x → o ≡ Some y → x ≡ y
the_same o x y a b = let e = sym a ∙ b in cc

pub looks_right : (nodes : Nodes) (texts : List Text) (user text : ℕ) (from file : Text) (answer : Bool) → slice_get texts user ≡ Some from → slice_get texts text ≡ Some file → (answer ≡ true → Contains (folders_of from.folder) file.folder) × (Contains (folders_of from.folder) file.folder → answer ≡ true) → (answer ≡ true → LooksAt (items_of nodes texts) user text) × (LooksAt (items_of nodes texts) user text → answer ≡ true)
looks_right nodes texts user text from file answer is also exact = (
  λ yes. record { from = file_of nodes from; file = file_of nodes file; from_is = file_by nodes texts user from is; file_is = file_by nodes texts text file also; looked_in = exact.0 yes },
  λ looks.
      let a : looks.from ≡ file_of nodes from = the_same (file_at (items_of nodes texts) user) looks.from (file_of nodes from) looks.from_is (file_by nodes texts user from is) in
      let b : looks.file ≡ file_of nodes file = the_same (file_at (items_of nodes texts) text) looks.file (file_of nodes file) looks.file_is (file_by nodes texts text file also) in
      exact.1 (subst (λ (f : FileId). Contains (folders_of f.folder) file.folder) a (subst (λ (f : FileId). Contains (folders_of looks.from.folder) f.folder) b looks.looked_in)),
)

module _ (nodes : Nodes) (keys : List (List ℕ × ℕ)) (texts : List Text) (linked : IsLinked nodes keys texts) where
  pub found_right : (user text : ℕ) (from : Text) (node : Node) → slice_get texts user ≡ Some from → node_of nodes texts text ≡ Some node → first_present (number_in node.numbers.items) (is_there texts) (folders_of from.folder) ≡ found_by_name (items_of nodes texts) user text
  found_right user text from node is node_is = at (slice_get texts text) refl
    where
      at : (one : Option Text) → slice_get texts text ≡ one → first_present (number_in node.numbers.items) (is_there texts) (folders_of from.folder) ≡ found_by_name (items_of nodes texts) user text
      at None known = let e = sym node_is ∙ ap (option_and_then (λ (x : Text). get nodes x.name)) known in cc
      at (Some one) known =
          let own = own_node nodes keys texts linked text one known in
          let same : own.0 ≡ node = the_same (node_of nodes texts text) own.0 node own.1 node_is in
          ap (λ (n : Node). first_present (number_in n.numbers.items) (is_there texts) (folders_of from.folder)) (sym same)
          ∙ sym (ap (option_and_then (λ (n : Node). first_present (number_in n.numbers.items) (is_there texts) (folders_of from.folder))) own.2)
          ∙ found_same nodes keys texts linked from.folder one.name (name_of nodes one.name) own.3
          ∙ sym (ap (option_and_then (λ (file : FileId). option_and_then (λ (f : FileId). found (items_of nodes texts) f.folder file.name) (file_at (items_of nodes texts) user))) (file_by nodes texts text one known)
          ∙ ap (option_and_then (λ (f : FileId). found (items_of nodes texts) f.folder (name_of nodes one.name))) (file_by nodes texts user from is))

  pub not_found : (user text : ℕ) → node_of nodes texts text ≡ None → found_by_name (items_of nodes texts) user text ≡ None
  not_found user text none = at (slice_get texts text) refl
    where
      at : (one : Option Text) → slice_get texts text ≡ one → found_by_name (items_of nodes texts) user text ≡ None
      at None known = ap (option_and_then (λ (file : FileId). option_and_then (λ (f : FileId). found (items_of nodes texts) f.folder file.name) (file_at (items_of nodes texts) user))) (file_none nodes texts text known)
      at (Some one) known = let own = own_node nodes keys texts linked text one known in let e = sym own.1 ∙ none in cc

  pub name_right : (text index : ℕ) (one : Text) (own : Vec ℕ Global) (key : ℕ) → slice_get texts text ≡ Some one → one.names ≡ Some own → slice_get own.items index ≡ Some key → (node : Node) × (get nodes key ≡ Some node) × (Some node.name ≡ option_and_then (λ names. slice_get names index) (names_at (items_of nodes texts) text))
  name_right text index one own key is has at =
      let mine : keys_in one ≡ Some own.items = ap (option_map (λ v. v.items)) has in
      let within = slice_get_within own.items index key at in
      let contains : Contains (unwrap_or (keys_in one) []) key = rw mine (index, within, get_or_from_slice_get own.items index key key at) in
      let known = linked.named text one key is contains in
      let node = node_at nodes key known.0 known.1 in (
        node.0,
        node.1,
        ap Some (node.2 ∙ sym (name_here nodes key known.0 known.1)) ∙ sym (
            ap (option_and_then (λ names. slice_get names index)) (names_by nodes texts text one is ∙ ap (option_map (map (name_of nodes))) mine) ∙ slice_get-map (name_of nodes) own.items index ∙ ap (option_map (name_of nodes)) at),
      )

  pub over_right : (text cap : ℕ) (one : Text) (own : Vec ℕ Global) (heights : ℕ → ℕ) → slice_get texts text ≡ Some one → one.names ≡ Some own → over (web_of (items_of nodes texts)) heights text ≡ suc (tallest heights (filter_map (found_at nodes texts one.folder) own.items))
  over_right text cap one own heights is has =
      ap (over_children heights) (children_by nodes keys texts linked text one is ∙ ap (option_map (filter_map (found_at nodes texts one.folder))) (ap (option_map (λ v. v.items)) has))

  pub over_absent : (text : ℕ) (one : Text) (heights : ℕ → ℕ) → slice_get texts text ≡ Some one → one.names ≡ None → over (web_of (items_of nodes texts)) heights text ≡ 0
  over_absent text one heights is none =
      ap (over_children heights) (children_by nodes keys texts linked text one is ∙ ap (option_map (filter_map (found_at nodes texts one.folder))) (ap (option_map (λ v. v.items)) none))

  pub no_users : (text : ℕ) → node_of nodes texts text ≡ None → AreUsers (items_of nodes texts) text []
  no_users text none file known =
      let one = known_text nodes texts text file known in
      let own = own_node nodes keys texts linked text one.0 one.1 in
      let e = sym own.1 ∙ none in cc
