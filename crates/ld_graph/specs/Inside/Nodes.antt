-- Names as nodes: the numbers of the files that have a name, by their folders, and the texts that refer by it.
use Rattle.std.specs.Prelude.{◌≡◌, ◌<◌, ◌⊎◌, ◌↔◌, ◌-◌, ℕ, Bool, true, false, List, [], Option, Some, length, map, nat_lt, option_map, slice_get, unwrap_or, filter}
use Rattle.std.specs.BTreeMap.{is_at}
use Rattle.std.specs.Cmp.Lexicographic.{slice_cmp}
use Rattle.std.specs.List.{Contains}
use Rattle.std.specs.Map.{lookup}
use Rattle.std.specs.Option.{option_map_or}
use Rattle.std.specs.Ordering.{nat_cmp}
use Rattle.std.specs.Vec.{vec_capacity}
use Rattle.slab.specs.Slab.{Slab, get}
use Rattle.ld_names.specs.declared.file.Folder.{Folder}
use Rattle.ld_names.specs.Standing.{same_folder}
use Rattle.ld_graph.specs.declared.node.Node.{Node}

abbrev pub Nodes : Type 0
Nodes = Slab Node

-- the name at a key
abbrev pub name_at : Nodes → ℕ → Option (List ℕ)
name_at nodes key = option_map (λ node. node.name) (get nodes key)

abbrev pub name_of : Nodes → ℕ → List ℕ
name_of nodes key = unwrap_or (name_at nodes key) []

-- the numbers of the files of the name at a key
abbrev pub numbers_at : Nodes → ℕ → List (Folder × ℕ)
numbers_at nodes key = option_map_or (λ node. node.numbers.items) (get nodes key) []

abbrev pub number_in : List (Folder × ℕ) → Folder → Option ℕ
number_in numbers folder = lookup (same_folder folder) numbers

-- the texts that refer by the name at a key
abbrev pub users_at : Nodes → ℕ → List ℕ
users_at nodes key = option_map_or (λ node. node.users.items) (get nodes key) []

-- the key of a name
abbrev pub key_of : List (List ℕ × ℕ) → List ℕ → Option ℕ
key_of keys name = lookup (is_at (slice_cmp nat_cmp name)) keys

-- ---- memory

-- one more text can refer by the name
abbrev pub has_spare : Node → Bool
has_spare node = nat_lt (length node.users.items) (vec_capacity node.users)

-- one more file can have the name
abbrev pub has_space : Node → Bool
has_space node = nat_lt (length node.numbers.items) (vec_capacity node.numbers)

abbrev pub passes_at : (Node → Bool) → Nodes → ℕ → Bool
passes_at test nodes key = option_map_or test (get nodes key) false

-- the name has a node that is so
abbrev pub passes : (Node → Bool) → Nodes → List (List ℕ × ℕ) → List ℕ → Bool
passes test nodes keys name = option_map_or (passes_at test nodes) (key_of keys name) false

abbrev pub names_with : (Node → Bool) → Nodes → List (List ℕ × ℕ) → List (List ℕ)
names_with test nodes keys = filter (passes test nodes keys) (map (λ entry. entry.0) keys)

-- one more text can refer by the name, or this one is the last that does
abbrev pub CanAdd : Node → ℕ → Type 0
CanAdd node text = (length node.users.items < vec_capacity node.users) ⊎ (slice_get node.users.items (length node.users.items - 1) ≡ Some text)

abbrev pub CanAddAt : Nodes → ℕ → ℕ → Type 0
CanAddAt nodes text key = (node : Node) × (get nodes key ≡ Some node) × CanAdd node text

abbrev pub CanLearn : Nodes → List (List ℕ × ℕ) → ℕ → List ℕ → Type 0
CanLearn nodes keys text name = (key : ℕ) × (key_of keys name ≡ Some key) × CanAddAt nodes text key

-- the keys of these names
abbrev pub AreKeysOf : List (List ℕ × ℕ) → List ℕ → List (List ℕ) → Type 0
AreKeysOf keys found names = map Some found ≡ map (key_of keys) names

-- ---- what changes

-- all but the users
pub record KeepsNames (old new : Nodes) : Type 0 where
  pub names : (key : ℕ) → name_at new key ≡ name_at old key
  pub numbers : (key : ℕ) → numbers_at new key ≡ numbers_at old key

-- a text refers by further names
pub record Learns (old new : Nodes) (keys : List ℕ) (text : ℕ) : Type 0 where
  pub same : KeepsNames old new
  pub users : (key user : ℕ) → Contains (users_at new key) user ↔ (Contains (users_at old key) user ⊎ Contains keys key × (user ≡ text))
  pub room : (key : ℕ) → CanAddAt old text key → CanAddAt new text key

-- a text refers by these names no longer
pub record Forgets (old new : Nodes) (keys : List ℕ) (text : ℕ) : Type 0 where
  pub same : KeepsNames old new
  pub users : (key user : ℕ) → Contains (users_at new key) user ↔ Contains (users_at old key) user × (Contains keys key → (user ≡ text) → ⊥)
  pub spare : (key : ℕ) → passes_at has_spare old key ≡ true → passes_at has_spare new key ≡ true
