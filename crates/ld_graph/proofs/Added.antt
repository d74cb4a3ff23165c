-- A file that is not known becomes one more text.
use Rattle.std.proofs.Common.{◌≡◌, ◌++◌, ◌⊎◌, ◌&&◌, ℕ, zero, suc, List, [], ◌∷◌, Option, Some, None, map, length, true, false, cond, inl, inr, ⊎_elim, refl, sym, ap, ap₂, ◌∙◌, subst, arith, tests, Bool}
use Rattle.std.proofs.lemmas.Bool.{and_parts}
use Rattle.std.proofs.lemmas.List.{length-map, map-append}
use Rattle.std.proofs.lemmas.Slice.Eq.{bytes_eq-Decides}
use Rattle.std.specs.Prelude.{bytes_eq, nat_lt}
use Rattle.std.specs.Vec.{vec_capacity}
use Rattle.std.specs.List.{Contains, position, slice_get}
use Rattle.std.specs.Map.{lookup}
use Rattle.std.specs.Option.{option_map, option_map_or, option_or, unwrap_or}
use Rattle.slab.specs.Slab.{get, with_value}
use Rattle.ld_names.specs.Standing.{file_in, same_file, same_folder}
use Rattle.ld_names.specs.declared.file.FileId.{FileId}
use Rattle.ld_names.specs.declared.file.Folder.{Folder}
use Rattle.ld_graph.specs.Items.{Item, Items, files_of, names_at, number_of}
use Rattle.ld_graph.specs.Inside.Linking.{IsLinked, file_of, item_of, items_of}
use Rattle.ld_graph.specs.Inside.Nodes.{Nodes, has_spare, key_of, name_at, name_of, number_in, numbers_at, passes_at, users_at}
use Rattle.ld_graph.specs.declared.node.Node.{Node}
use Rattle.ld_graph.specs.declared.node.Text.{Text}
use Rattle.ld_graph.proofs.Linked.{name_here}
use Rattle.ld_graph.proofs.Listed.{none_in}
use Rattle.ld_graph.proofs.Rewritten.{items_same, key_here, key_same}
use Rattle.ld_graph.proofs.Users.{at_key, at_other, same_at, same_or_not}

-- ---- one more at the end

lookup-push : (folder other : Folder) (numbers : List (Folder × ℕ)) (text : ℕ) → lookup (same_folder folder) (numbers ++ (other, text) ∷ []) ≡ option_or (lookup (same_folder folder) numbers) (cond (same_folder folder other) (Some text) None)
lookup-push folder other [] text = refl
lookup-push folder other (first ∷ numbers) text =
    elim (same_folder folder first.0) as (λ b. cond b (Some first.1) (lookup (same_folder folder) (numbers ++ (other, text) ∷ [])) ≡ option_or (cond b (Some first.1) (lookup (same_folder folder) numbers)) (cond (same_folder folder other) (Some text) None)) [ true ↦ refl | false ↦ lookup-push folder other numbers text ]

position-cons : {X : Type 0} (test : X → Bool) (x : X) (xs : List X) → position test (x ∷ xs) ≡ cond (test x) (Some 0) (option_map suc (position test xs))
position-cons test x xs = grind (arith, tests)

or-map : (first second : Option ℕ) → option_map suc (option_or first second) ≡ option_or (option_map suc first) (option_map suc second)
or-map None second = refl
or-map (Some n) second = refl

cond-map : (b : Bool) (n : ℕ) → option_map suc (cond b (Some n) None) ≡ cond b (Some (suc n)) None
cond-map true n = refl
cond-map false n = refl

pub position-push : (test : FileId → Bool) (files : List FileId) (file : FileId) → position test (files ++ file ∷ []) ≡ option_or (position test files) (cond (test file) (Some (length files)) None)
position-push test [] file = position-cons test file [] ∙ refl
position-push test (first ∷ files) file =
    position-cons test first (files ++ file ∷ []) ∙ ap (λ rest. cond (test first) (Some 0) (option_map suc rest)) (position-push test files file) ∙ by (test first) ∙ sym (ap (λ front. option_or front (cond (test file) (Some (suc (length files))) None)) (position-cons test first files))
  where
    by : (b : Bool) → cond b (Some 0) (option_map suc (option_or (position test files) (cond (test file) (Some (length files)) None))) ≡ option_or (cond b (Some 0) (option_map suc (position test files))) (cond (test file) (Some (suc (length files))) None)
    by true = refl
    by false = or-map (position test files) (cond (test file) (Some (length files)) None) ∙ ap (option_or (option_map suc (position test files))) (cond-map (test file) (length files))

pub get-push : {X : Type 0} (xs : List X) (x : X) (k : ℕ) (y : X) → slice_get (xs ++ x ∷ []) k ≡ Some y → (slice_get xs k ≡ Some y) ⊎ (y ≡ x)
get-push [] x zero y is = let e : x ≡ y = cc in inr (sym e)
get-push [] x (suc k) y is = cc
get-push (first ∷ xs) x zero y is = inl is
get-push (first ∷ xs) x (suc k) y is = get-push xs x k y is

names-push : (items : Items) (file : FileId) (k : ℕ) → names_at (items ++ (file, None) ∷ []) k ≡ names_at items k
names-push [] file zero = refl
names-push [] file (suc k) = refl
names-push (item ∷ items) file zero = refl
names-push (item ∷ items) file (suc k) = names-push items file k

-- ---- the name of the file has its node

module _ (old : Nodes) (keys : List (List ℕ × ℕ)) (texts : List Text) (linked : IsLinked old keys texts) (file : FileId) (key : ℕ) (node added : Node) (is_key : key_of keys file.name ≡ Some key) (at : get old key ≡ Some node) (name : added.name ≡ node.name) (numbers : added.numbers.items ≡ node.numbers.items ++ (file.folder, length texts) ∷ []) (users : added.users ≡ node.users) (text : Text) (folder_is : text.folder ≡ file.folder) (name_is : text.name ≡ key) (names_is : text.names ≡ None) where
  abbrev new : Nodes
  new = with_value old key added

  abbrev items : Items
  items = items_of old texts

  pub name_stays : (other : ℕ) → name_at new other ≡ name_at old other
  name_stays = same_at old key node added at (option_map (λ (node : Node). node.name)) (ap Some name)

  users_stay : (other : ℕ) → users_at new other ≡ users_at old other
  users_stay = same_at old key node added at (λ one. option_map_or (λ (node : Node). node.users.items) one []) (ap (λ users. users.items) users)

  pub spares_stay : (other : ℕ) → passes_at has_spare old other ≡ true → passes_at has_spare new other ≡ true
  spares_stay other has = same_at old key node added at (λ one. option_map_or has_spare one false) (ap (λ users. nat_lt (length users.items) (vec_capacity users)) users) other ∙ has

  named_here : name_at old key ≡ Some file.name
  named_here = (linked.keys_are file.name key).0 is_key

  file_is : file_of new text ≡ file
  file_is = ap₂ (λ folder name. record { folder = folder; name = name }) folder_is (ap (name_of new) name_is ∙ name_here new key file.name (name_stays key ∙ named_here))

  item_is : item_of new text ≡ (file, None)
  item_is = ap₂ (λ file names. (file, names)) file_is (ap (λ names. option_map (map (name_of new)) (option_map (λ keys. keys.items) names)) names_is)

  pub items_are : items_of new (texts ++ text ∷ []) ≡ items ++ (file, None) ∷ []
  items_are = map-append (item_of new) texts (text ∷ []) ∙ ap₂ (λ front last. front ++ last ∷ []) (items_same old new name_stays texts) item_is

  files_are : files_of (items_of new (texts ++ text ∷ [])) ≡ files_of items ++ file ∷ []
  files_are = ap files_of items_are ∙ map-append (λ (item : Item). item.0) items ((file, None) ∷ [])

  count : length (files_of items) ≡ length texts
  count = length-map items (λ (item : Item). item.0) ∙ length-map texts (item_of old)

  -- the file is that of the name exactly in its folder
  same_there : (folder : Folder) → same_file (file_in folder file.name) file ≡ same_folder folder file.folder
  unfolding same_file
  same_there folder = ap (λ b. same_folder folder file.folder && b) ((bytes_eq-Decides file.name file.name).1 refl) ∙ by (same_folder folder file.folder)
    where
      by : (b : Bool) → (b && true) ≡ b
      by true = refl
      by false = refl

  not_there : (folder : Folder) (other : List ℕ) → (other ≡ file.name → ⊥) → same_file (file_in folder other) file ≡ false
  unfolding same_file
  not_there folder other differs = by (same_file (file_in folder other) file) refl
    where
      by : (b : Bool) → same_file (file_in folder other) file ≡ b → b ≡ false
      by true is = absurd (differs ((bytes_eq-Decides other file.name).0 (and_parts (same_folder folder file.folder) (bytes_eq other file.name) is).1))
      by false is = refl

  numbered : (other : ℕ) (which : List ℕ) → name_at old other ≡ Some which → (folder : Folder) → number_in (numbers_at new other) folder ≡ position (same_file (file_in folder which)) (files_of items ++ file ∷ [])
  numbered other which is folder =
      ⊎_elim
      (λ equal.
      let same_name : which ≡ file.name = (let e = sym is ∙ ap (name_at old) equal ∙ named_here in cc) in
      ap (λ k. number_in (numbers_at new k) folder) equal
      ∙ ap (λ one. number_in (option_map_or (λ (node : Node). node.numbers.items) one []) folder) (at_key old key node added at)
      ∙ ap (λ numbers. number_in numbers folder) numbers
      ∙ lookup-push folder file.folder node.numbers.items (length texts)
      ∙ ap (λ number. option_or number (cond (same_folder folder file.folder) (Some (length texts)) None)) (sym (ap (λ one. number_in (option_map_or (λ (node : Node). node.numbers.items) one []) folder) at) ∙ (linked.nodes_are key file.name named_here).numbers_are folder)
      ∙ ap (λ last. option_or (number_of items (file_in folder file.name)) last) (ap₂ (λ b n. cond b (Some n) None) (sym (same_there folder)) (sym count))
      ∙ sym (position-push (same_file (file_in folder file.name)) (files_of items) file)
      ∙ ap (λ name. position (same_file (file_in folder name)) (files_of items ++ file ∷ [])) (sym same_name))
      (λ differs.
      let other_name : which ≡ file.name → ⊥ = λ same. differs (key_here old keys texts linked key other file.name named_here (is ∙ ap Some same)) in
      ap (λ one. number_in (option_map_or (λ (node : Node). node.numbers.items) one []) folder) (at_other old key node added at other differs)
      ∙ (linked.nodes_are other which is).numbers_are folder
      ∙ none_behind (number_of items (file_in folder which))
      ∙ ap (λ b. option_or (number_of items (file_in folder which)) (cond b (Some (length (files_of items))) None)) (sym (not_there folder which other_name))
      ∙ sym (position-push (same_file (file_in folder which)) (files_of items) file))
      (same_or_not other key)
    where
      none_behind : (number : Option ℕ) → number ≡ option_or number None
      none_behind None = refl
      none_behind (Some n) = refl

  pub linked_more : IsLinked new keys (texts ++ text ∷ [])
  linked_more = record {
    keys_are = λ which other. ((λ is. name_stays other ∙ (linked.keys_are which other).0 is), (λ is. (linked.keys_are which other).1 (sym (name_stays other) ∙ is)));
    nodes_are = λ other which is.
        let was : name_at old other ≡ Some which = sym (name_stays other) ∙ is in
        let its = linked.nodes_are other which was in
        record {
          numbers_are = λ folder. numbered other which was folder ∙ ap (position (same_file (file_in folder which))) (sym files_are);
          users_are = λ user.
              let names : names_at (items_of new (texts ++ text ∷ [])) user ≡ names_at items user = ap (λ all. names_at all user) items_are ∙ names-push items file user in (
                (λ c. subst (λ ns. Contains (unwrap_or ns []) which) (sym names) ((its.users_are user).0 (subst (λ us. Contains us user) (users_stay other) c))),
                (λ u. subst (λ us. Contains us user) (sym (users_stay other)) ((its.users_are user).1 (subst (λ ns. Contains (unwrap_or ns []) which) names u))),
              );
        };
    own = λ other x is. key_same old new name_stays x.name (⊎_elim (λ was. linked.own other x was) (λ here. (file.name, ap (λ (t : Text). name_at old t.name) here ∙ ap (name_at old) name_is ∙ named_here)) (get-push texts text other x is));
    named = λ other x which is has. key_same old new name_stays which (⊎_elim (λ was. linked.named other x which was has) (λ here. absurd (none_in which (subst (λ own. Contains (unwrap_or (option_map (λ keys. keys.items) own) []) which) (ap (λ (t : Text). t.names) here ∙ names_is) has))) (get-push texts text other x is));
  }
