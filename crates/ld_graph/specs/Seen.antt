-- What contracts see of a graph, and of a change that it is ready for.
use Rattle.std.specs.Prelude.{◌≡◌, ◌≢◌, ◌≤◌, ◌<◌, ◌++◌, ℕ, Bool, true, List, [], ◌∷◌, Option, Some, None, All, length, bytes_eq, unwrap_or, IfSome}
use Rattle.std.specs.List.{list_any}
use Rattle.std.specs.Option.{option_map_or}
use Rattle.ld_names.specs.declared.file.FileId.{FileId}
use Rattle.ld_graph.specs.Items.{Items, Names, with_names_at}

-- the depth and an item for each text; and the memory that is taken: the names that one more text can refer by, those
-- that one more file can have, and for how many more texts there is room
pub record Graph : Type 0 where
  pub depth : ℕ
  pub items : Items
  pub spares : List (List ℕ)
  pub places : List (List ℕ)
  pub room : ℕ

abbrev pub has_spare : Graph → List ℕ → Bool
has_spare graph name = list_any (bytes_eq name) graph.spares

abbrev pub has_place : Graph → List ℕ → Bool
has_place graph name = list_any (bytes_eq name) graph.places

abbrev pub HaveSpares : Graph → List (List ℕ) → Type 0
HaveSpares graph names = All (λ name. has_spare graph name ≡ true) names

-- the names of a present text, none of an absent one
abbrev pub listed : Names → List (List ℕ)
listed names = unwrap_or names []

-- the depth and the items stay; no memory is lost
pub record KeepsGraph (old new : Graph) : Type 0 where
  pub depth : new.depth ≡ old.depth
  pub items : new.items ≡ old.items
  pub room : old.room ≤ new.room
  pub spares : (name : List ℕ) → has_spare old name ≡ true → has_spare new name ≡ true
  pub places : (name : List ℕ) → has_place old name ≡ true → has_place new name ≡ true

-- a file that is learnt, with the names of its references or as absent
pub record Learning : Type 0 where
  pub file : FileId
  pub names : Names

-- the memory for a learnt file is taken
pub record HasRoomToLearn (graph : Graph) (learning : Learning) : Type 0 where
  pub room : 0 < graph.room
  pub file : has_place graph learning.file.name ≡ true
  pub names : HaveSpares graph (listed learning.names)

abbrev pub items_learnt : Items → Learning → Items
items_learnt items learning = items ++ (learning.file, learning.names) ∷ []

-- a text that gets other names or is absent, and another one that is absent then; and the number of texts for which its
-- dirt has marks
pub record Editing : Type 0 where
  pub text : ℕ
  pub names : Names
  pub gone : Option ℕ
  pub texts : ℕ

-- the memory for an edit is taken
pub record HasRoomToEdit (graph : Graph) (editing : Editing) : Type 0 where
  pub names : HaveSpares graph (listed editing.names)
  pub texts : editing.texts ≡ length graph.items

-- the changed texts are known, and they are two
pub record IsEditOf (items : Items) (editing : Editing) : Type 0 where
  pub text : editing.text < length items
  pub gone : IfSome editing.gone (λ gone. gone < length items)
  pub differ : editing.gone ≢ Some editing.text

abbrev pub changed_by : Editing → List ℕ
changed_by editing = option_map_or (λ gone. gone ∷ editing.text ∷ []) editing.gone (editing.text ∷ [])

abbrev pub items_without : Items → Option ℕ → Items
items_without items gone = option_map_or (λ text. with_names_at items text None) gone items

abbrev pub items_edited : Items → Editing → Items
items_edited items editing = with_names_at (items_without items editing.gone) editing.text editing.names
