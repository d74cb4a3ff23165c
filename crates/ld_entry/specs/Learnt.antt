-- Sets of known texts in which no file is wanted.
use Rattle.std.specs.Prelude.{◌≡◌, ◌≢◌, ℕ, Bool, true, List, [], ◌∷◌, Option, Some, None, nat_eq, slice_get, ⊤}
use Rattle.std.specs.List.{list_any}
use Rattle.ld_names.specs.Standing.{find, Known, known_map, Unknown}
use Rattle.ld_names.specs.declared.file.FileId.{FileId}
use Rattle.ld_names.specs.declared.file.Folder.{Folder}
use Rattle.ld_names.specs.declared.file.TextId.{TextId}
use Rattle.ld_line.specs.declared.line.Line.{Line}
use Rattle.ld_line.specs.declared.line.Line.TheVariants.{Ref}
use Rattle.ld_texts.specs.Reach.{reach, Reaches}
use Rattle.ld_entry.specs.NumberedTexts.{known_files, known_texts}

-- what is found, if anything, is in the set
abbrev pub FindsInside : (TextId → Bool) → Option TextId → Type 0
FindsInside inside None = ⊤
FindsInside inside (Some text) = inside text ≡ true

-- No reference among the lines of a text leaves the set, and none comes to a folder of which it isn't known whether it
-- has the name.
abbrev pub WantsNothing : (TextId → Bool) → Known → TextId → FileId → List Line → Type 0
WantsNothing inside known text file [] = ⊤
WantsNothing inside known text file (Ref word placement (Some name) ∷ lines) =
    ((folder : Folder) → find (known_map known) file.folder name ≢ Unknown folder) × FindsInside inside ((known_texts known).found text name) × WantsNothing inside known text file lines
WantsNothing inside known text file (line ∷ lines) = WantsNothing inside known text file lines

-- a set of known texts that no reference leaves, and in which nothing is wanted
abbrev pub IsClosed : (TextId → Bool) → Known → Type 0
IsClosed inside known =
    (text : TextId) → inside text ≡ true → (file : FileId) × (slice_get (known_files known) text.0 ≡ Some file) × WantsNothing inside known text file ((known_texts known).lines text)

-- a text is one of these
abbrev pub is_among : List ℕ → TextId → Bool
is_among texts text = list_any (nat_eq text.0) texts

-- the texts that a root reaches, the one of this number among them, are a set in which nothing is wanted
pub record IsLearnt (known : Known) (root : FileId) (id : ℕ) : Type 0 where
  pub texts : List ℕ
  pub reached : reach known root ≡ Reaches texts
  pub has_root : is_among texts (record { 0 = id }) ≡ true
  pub closed : IsClosed (is_among texts) known
