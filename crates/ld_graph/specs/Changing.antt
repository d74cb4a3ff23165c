-- The dirt of a change, which is this project's own: the texts whose expansions it may alter.
use Rattle.std.specs.Prelude.{◌≡◌, ◌≢◌, ◌⊎◌, ℕ, List, Some, None, slice_get}
use Rattle.std.specs.List.{Contains}
use Rattle.ld_names.specs.Standing.{folders_of}
use Rattle.ld_names.specs.declared.file.FileId.{FileId}
use Rattle.ld_graph.specs.Items.{Item, Items, file_at, names_at, number_of, presence, web_of}
use Rattle.ld_graph.specs.Web.{Reaches}

-- a reference of the text has the other's name, and the other's folder is among those looked in
pub record NamesText (items : Items) (text other : ℕ) : Type 0 where
  pub from : FileId
  pub file : FileId
  pub names : List (List ℕ)
  pub from_is : file_at items text ≡ Some from
  pub file_is : file_at items other ≡ Some file
  pub names_are : names_at items text ≡ Some names
  pub named : Contains names file.name
  pub looked_in : Contains (folders_of from.folder) file.folder

-- a text became known, appeared or went
abbrev pub HasTurned : Items → Items → ℕ → Type 0
HasTurned before after text = presence before text ≢ presence after text

-- a changed text, or one that names a file that appeared or went
abbrev pub IsTouched : Items → Items → List ℕ → Items → ℕ → Type 0
IsTouched before after changed items text = Contains changed text ⊎ ((other : ℕ) × HasTurned before after other × NamesText items text other)

-- a walk leads, before or after the change, to a touched text
abbrev pub IsDirty : Items → Items → List ℕ → ℕ → Type 0
IsDirty before after changed text = Reaches (web_of before) (IsTouched before after changed before) text ⊎ Reaches (web_of after) (IsTouched before after changed after) text

-- but for the changed texts all are the same, each text keeps its file, and each file its number
pub record IsChanged (before after : Items) (changed : List ℕ) : Type 0 where
  pub others : (text : ℕ) → Contains changed text ⊎ (slice_get before text ≡ slice_get after text)
  pub files : (text : ℕ) (file : FileId) → file_at before text ≡ Some file → file_at after text ≡ Some file
  pub numbers : (file : FileId) → (number_of before file ≡ number_of after file) ⊎ ((text : ℕ) × (number_of before file ≡ None) × (number_of after file ≡ Some text) × (presence before text ≡ None))

-- what is known stays, and each known file keeps its number
pub record IsMore (before after : Items) : Type 0 where
  pub items : (text : ℕ) (item : Item) → slice_get before text ≡ Some item → slice_get after text ≡ Some item
  pub kept : (file : FileId) (text : ℕ) → number_of before file ≡ Some text → number_of after file ≡ Some text
