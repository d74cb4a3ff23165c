-- Texts whose references are kept by the keys of their names.
use Rattle.std.specs.Prelude.{◌≡◌, ◌↔◌, ◌≤◌, ℕ, Bool, true, List, [], Option, Some, All, bytes_eq, map, option_and_then, option_map, slice_get, unwrap_or, Vec}
use Rattle.std.specs.declared.alloc.Global.{Global}
use Rattle.std.specs.List.{Contains, list_any}
use Rattle.std.specs.Option.{is_some}
use Rattle.ld_names.specs.Standing.{file_in, folders_of}
use Rattle.ld_names.specs.declared.file.FileId.{FileId}
use Rattle.ld_graph.specs.Items.{Item, Items, file_at, first_present, found, names_at, numbers_of}
use Rattle.ld_graph.specs.Inside.Nodes.{Nodes, key_of, name_at, name_of, number_in, numbers_at, users_at}
use Rattle.ld_graph.specs.declared.node.Node.{Node}
use Rattle.ld_graph.specs.declared.node.Text.{Text}
use Rattle.slab.specs.Slab.{get}
use Rattle.ld_names.specs.declared.file.Folder.{Folder}

-- an item for each text; the names that one more text can refer by, those that one more file can have, and for how many
-- more texts there is room
pub record Linked : Type 0 where
  pub items : Items
  pub spares : List (List ℕ)
  pub places : List (List ℕ)
  pub room : ℕ

abbrev pub has_spare : Linked → List ℕ → Bool
has_spare links name = list_any (bytes_eq name) links.spares

abbrev pub has_place : Linked → List ℕ → Bool
has_place links name = list_any (bytes_eq name) links.places

abbrev pub HaveSpares : Linked → List (List ℕ) → Type 0
HaveSpares links names = All (λ name. has_spare links name ≡ true) names

-- the keys of the names of a text's references
abbrev pub keys_in : Text → Option (List ℕ)
keys_in text = option_map (λ keys. keys.items) text.names

abbrev pub file_of : Nodes → Text → FileId
file_of nodes text = file_in text.folder (name_of nodes text.name)

abbrev pub item_of : Nodes → Text → Item
item_of nodes text = (file_of nodes text, option_map (map (name_of nodes)) (keys_in text))

abbrev pub items_of : Nodes → List Text → Items
items_of nodes texts = map (item_of nodes) texts

abbrev pub is_there : List Text → ℕ → Option Bool
is_there texts text = option_map (λ one. is_some one.names) (slice_get texts text)

-- the node of a text's name
abbrev pub node_of : Nodes → List Text → ℕ → Option Node
node_of nodes texts text = option_and_then (λ one. get nodes one.name) (slice_get texts text)

-- the present text that the name at a key finds from a folder
abbrev pub found_at : Nodes → List Text → Folder → ℕ → Option ℕ
found_at nodes texts from key = option_and_then (λ node. first_present (number_in node.numbers.items) (is_there texts) (folders_of from)) (get nodes key)

-- a reference of the text has the name
abbrev pub Uses : Items → ℕ → List ℕ → Type 0
Uses items text name = Contains (unwrap_or (names_at items text) []) name

-- a name's node has the numbers of its files and the texts that refer by it
pub record IsNode (items : Items) (name : List ℕ) (numbers : List (Folder × ℕ)) (users : List ℕ) : Type 0 where
  pub numbers_are : (folder : Folder) → number_in numbers folder ≡ numbers_of items name folder
  pub users_are : (text : ℕ) → Contains users text ↔ Uses items text name

abbrev pub IsKey : Nodes → ℕ → Type 0
IsKey nodes key = (name : List ℕ) × (name_at nodes key ≡ Some name)

-- each name has one node, those of the texts among them
pub record IsLinked (nodes : Nodes) (keys : List (List ℕ × ℕ)) (texts : List Text) : Type 0 where
  pub keys_are : (name : List ℕ) (key : ℕ) → (key_of keys name ≡ Some key) ↔ (name_at nodes key ≡ Some name)
  pub nodes_are : (key : ℕ) (name : List ℕ) → name_at nodes key ≡ Some name → IsNode (items_of nodes texts) name (numbers_at nodes key) (users_at nodes key)
  pub own : (text : ℕ) (one : Text) → slice_get texts text ≡ Some one → IsKey nodes one.name
  pub named : (text : ℕ) (one : Text) (key : ℕ) → slice_get texts text ≡ Some one → Contains (unwrap_or (keys_in one) []) key → IsKey nodes key

-- the names that there may be
abbrev pub names_listed : Option (Vec (List ℕ) Global) → List (List ℕ)
names_listed names = unwrap_or (option_map (λ names. names.items) names) []

-- ---- what the calls answer

-- the texts that refer by the name of a text
abbrev pub AreUsers : Items → ℕ → List ℕ → Type 0
AreUsers items text users = (file : FileId) → file_at items text ≡ Some file → (user : ℕ) → Contains users user ↔ Uses items user file.name

-- the present text that a text finds by the name of another
abbrev pub found_by_name : Items → ℕ → ℕ → Option ℕ
found_by_name items user text = option_and_then (λ file. option_and_then (λ from. found items from.folder file.name) (file_at items user)) (file_at items text)

-- a text refers to a child by the name of a third one
pub record RefersByName (items : Items) (user child text : ℕ) : Type 0 where
  pub file : FileId
  pub file_is : file_at items text ≡ Some file
  pub uses : Uses items user file.name
  pub finds : found_by_name items user text ≡ Some child

-- a text looks in the folder of another
pub record LooksAt (items : Items) (user text : ℕ) : Type 0 where
  pub from : FileId
  pub file : FileId
  pub from_is : file_at items user ≡ Some from
  pub file_is : file_at items text ≡ Some file
  pub looked_in : Contains (folders_of from.folder) file.folder

-- the items stay; no memory is lost
pub record KeepsLinks (old new : Linked) : Type 0 where
  pub items : new.items ≡ old.items
  pub room : old.room ≤ new.room
  pub spares : (name : List ℕ) → has_spare old name ≡ true → has_spare new name ≡ true
  pub places : (name : List ℕ) → has_place old name ≡ true → has_place new name ≡ true
