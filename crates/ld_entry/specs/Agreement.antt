-- Texts that agree on a set that no reference leaves, under the same numbers or under others.
use Rattle.std.specs.Prelude.{◌≡◌, ℕ, Bool, true, List, [], ◌∷◌, map, Some, Result, Ok, Err, option_map, slice_get, ⊤}
use Rattle.ld_names.specs.Standing.{find, Found, Map, Present}
use Rattle.ld_names.specs.declared.file.FileId.{FileId}
use Rattle.ld_names.specs.declared.file.Folder.{Folder}
use Rattle.ld_names.specs.declared.file.TextId.{TextId}
use Rattle.ld_line.specs.declared.line.Line.{Line}
use Rattle.ld_line.specs.declared.line.Line.TheVariants.{Org, Ref}
use Rattle.ld_entry.specs.Carrying.{Above, Link, Outcome}
use Rattle.ld_entry.specs.Learnt.{FindsInside}
use Rattle.ld_entry.specs.NumberedTexts.{lines_of_file, NumberedTexts, text_id_of}
use Rattle.ld_entry.specs.declared.entry.Entry.{Entry}
use Rattle.ld_entry.specs.declared.entry.Entry.TheVariants.{Drawn, Part}
use Rattle.ld_entry.specs.declared.entry.Expansion.{Expansion}
use Rattle.ld_entry.specs.declared.entry.Fault.{Fault}
use Rattle.ld_entry.specs.declared.entry.Source.{Source}

-- ---- The same numbers.

-- the names in the references among lines find the same, which is inside
abbrev pub FindsSame : (TextId → Bool) → NumberedTexts → NumberedTexts → TextId → List Line → Type 0
FindsSame inside texts other text [] = ⊤
FindsSame inside texts other text (Ref word placement (Some name) ∷ lines) =
    (other.found text name ≡ texts.found text name) × FindsInside inside (texts.found text name) × FindsSame inside texts other text lines
FindsSame inside texts other text (line ∷ lines) = FindsSame inside texts other text lines

-- the texts inside are the same, have the same targets, and find the same
pub record Agree (inside : TextId → Bool) (texts other : NumberedTexts) : Type 0 where
  pub lines : (text : TextId) → inside text ≡ true → other.lines text ≡ texts.lines text
  pub is_part : (text : TextId) → inside text ≡ true → other.is_part text ≡ texts.is_part text
  pub target : (text : TextId) → inside text ≡ true → other.target text ≡ texts.target text
  pub finds : (text : TextId) → inside text ≡ true → FindsSame inside texts other text (texts.lines text)

-- ---- The same numbers, by the files.

-- what a look-up finds has a number, which is inside
abbrev pub FoundInside : (TextId → Bool) → List FileId → Found → Type 0
FoundInside inside files (Present file) = (text : TextId) × (text_id_of files (Present file) ≡ Some text) × (inside text ≡ true)
FoundInside inside files found = ⊤

-- the names in the references among lines of a file of this folder find the same files, which are inside
abbrev pub FindsSameFiles : (TextId → Bool) → Map → Map → List FileId → Folder → List Line → Type 0
FindsSameFiles inside texts other files folder [] = ⊤
FindsSameFiles inside texts other files folder (Ref word placement (Some name) ∷ lines) =
    (find other folder name ≡ find texts folder name) × FoundInside inside files (find texts folder name) × FindsSameFiles inside texts other files folder lines
FindsSameFiles inside texts other files folder (line ∷ lines) = FindsSameFiles inside texts other files folder lines

-- a text is of the same file, which has the same number and the same text, and whose references find the same files
pub record IsSameText (inside : TextId → Bool) (texts other : Map) (files others : List FileId) (text : TextId) : Type 0 where
  pub file : FileId
  pub at : slice_get files text.0 ≡ Some file
  pub at_other : slice_get others text.0 ≡ Some file
  pub number : text_id_of others (Present file) ≡ text_id_of files (Present file)
  pub lines : other file ≡ texts file
  pub finds : FindsSameFiles inside texts other files file.folder (lines_of_file texts (Some file))

-- two maps say the same of the texts inside, which no reference leaves
abbrev pub MapsAgree : (TextId → Bool) → Map → Map → List FileId → List FileId → Type 0
MapsAgree inside texts other files others = (text : TextId) → inside text ≡ true → IsSameText inside texts other files others text

-- ---- Other numbers.

abbrev pub renamed_source : (TextId → TextId) → Source → Source
renamed_source rename source = record { text = rename source.text; line = source.line }

abbrev pub renamed_entry : (TextId → TextId) → Entry → Entry
renamed_entry rename (Drawn kind certified clip winding colour source points) = Drawn kind certified clip winding colour (renamed_source rename source) points
renamed_entry rename (Part file colour source) = Part (rename file) colour (renamed_source rename source)

abbrev pub renamed_fault : (TextId → TextId) → Fault → Fault
renamed_fault rename fault = record { what = fault.what; source = renamed_source rename fault.source }

abbrev pub renamed_outcome : (TextId → TextId) → Outcome → Outcome
renamed_outcome rename (Ok entry) = Ok (renamed_entry rename entry)
renamed_outcome rename (Err fault) = Err (renamed_fault rename fault)

abbrev pub renamed_link : (TextId → TextId) → Link → Link
renamed_link rename link = record { placement = link.placement; source = renamed_source rename link.source }

abbrev pub renamed_above : (TextId → TextId) → Above → Above
renamed_above rename above = record { links = map (renamed_link rename) above.links; colour = above.colour; below = above.below }

abbrev pub renamed_answer : (TextId → TextId) → Result (List Entry) Fault → Result (List Entry) Fault
renamed_answer rename (Ok entries) = Ok (map (renamed_entry rename) entries)
renamed_answer rename (Err fault) = Err (renamed_fault rename fault)

abbrev pub renamed_expansion : (TextId → TextId) → Expansion → Expansion
renamed_expansion rename expansion = record { entries = map (renamed_entry rename) expansion.entries; line_ends = expansion.line_ends; end = option_map (renamed_fault rename) expansion.end }

-- The replacement of a line, in the text of the other number. It is the same line, but that in a reference another name
-- may stand, which finds the text of the other number, or nothing where the line's own name finds nothing, and that
-- what an !LDRAW_ORG line says may differ; and what the line's own name finds is inside.
abbrev pub StandsFor : (TextId → Bool) → (TextId → TextId) → NumberedTexts → NumberedTexts → TextId → Line → Line → Type 0
StandsFor inside rename texts other text (Ref word placement (Some name)) replacement =
    (other_name : List ℕ) × (replacement ≡ Ref word placement (Some other_name)) × (other.found (rename text) other_name ≡ option_map rename (texts.found text name)) × FindsInside inside (texts.found text name)
StandsFor inside rename texts other text (Org part) replacement = (other_part : Bool) × (replacement ≡ Org other_part)
StandsFor inside rename texts other text line replacement = replacement ≡ line

-- The replacements of lines, behind which further !LDRAW_ORG lines may stand.
abbrev pub StandFor : (TextId → Bool) → (TextId → TextId) → NumberedTexts → NumberedTexts → TextId → List Line → List Line → Type 0
StandFor inside rename texts other text [] [] = ⊤
StandFor inside rename texts other text [] (replacement ∷ replacements) = ((part : Bool) × (replacement ≡ Org part)) × StandFor inside rename texts other text [] replacements
StandFor inside rename texts other text (line ∷ lines) [] = ⊥
StandFor inside rename texts other text (line ∷ lines) (replacement ∷ replacements) =
    StandsFor inside rename texts other text line replacement × StandFor inside rename texts other text lines replacements

-- the texts inside are the same under other numbers, which tell them apart
pub record AgreeAs (inside : TextId → Bool) (rename : TextId → TextId) (texts other : NumberedTexts) : Type 0 where
  pub lines : (text : TextId) → inside text ≡ true → StandFor inside rename texts other text (texts.lines text) (other.lines (rename text))
  pub is_part : (text : TextId) → inside text ≡ true → other.is_part (rename text) ≡ texts.is_part text
  pub target : (text : TextId) → inside text ≡ true → other.target (rename text) ≡ rename (texts.target text)
  pub apart : (text file : TextId) → inside text ≡ true → inside file ≡ true → rename text ≡ rename file → text ≡ file
