-- What an edit leaves and what it changes: over the known files, over what is known of each file, and over the texts as
-- they stand.
use Rattle.std.specs.Prelude.{◌≡◌, ◌≤◌, ◌<◌, ◌+◌, ◌-◌, ℕ, Bool, true, false, [], List, length, Some, None, IsSome, get_or}
use Rattle.std.specs.List.{list_all}
use Rattle.ld_names.specs.declared.file.FileId.{FileId}
use Rattle.ld_names.specs.Standing.{Known, Text, known_map, standing}
use Rattle.ld_texts.specs.Editing.{AreKnown, edit_change, edited, edited_map, files_in, is_block_text, misfit, names, refusal_of, text_in, text_of}
use Rattle.ld_texts.specs.Known.{AreDistinct, file_at, files_of, id_of, is_part_at, lines_at, moved_at, weight_of, weight_of_lines}
use Rattle.ld_texts.specs.declared.edit.Edit.{Edit}
use Rattle.ld_texts.specs.declared.edit.Edit.TheVariants.{Set, Insert, Restore}

-- every file keeps its number, and the files that the edit does not name keep their texts
pub record LeavesOthers (known : Known) (edit : Edit) : Type 0 where
  pub files : files_of (edited known edit) ≡ files_of known
  pub count : length (edited known edit) ≡ length known
  pub distinct : AreDistinct known → AreDistinct (edited known edit)
  pub id : (file : FileId) → id_of (edited known edit) file ≡ id_of known file
  pub file : (id : ℕ) → file_at (edited known edit) id ≡ file_at known id
  pub change : edit_change (edited known edit) edit ≡ edit_change known edit
  pub others : (other : FileId) → names edit other ≡ false → known_map (edited known edit) other ≡ known_map known other
  pub lines : (other : FileId) (id : ℕ) → names edit other ≡ false → id_of known other ≡ Some id → lines_at (edited known edit) id ≡ lines_at known id
  pub part : (other : FileId) (id : ℕ) → names edit other ≡ false → id_of known other ≡ Some id → is_part_at (edited known edit) id ≡ is_part_at known id
  pub moved : (other : FileId) (id : ℕ) → names edit other ≡ false → id_of known other ≡ Some id → moved_at (edited known edit) id ≡ moved_at known id

-- an edit of known files is the edit of the map of what is known, and of the texts as they stand
pub record EditsMaps (known : Known) (edit : Edit) : Type 0 where
  pub text : (file : FileId) → text_of known file ≡ text_in (known_map known) file
  pub map : AreKnown known (files_in edit) → (file : FileId) → known_map (edited known edit) file ≡ edited_map (known_map known) edit file
  pub stands : AreKnown known (files_in edit) → (shelf : FileId → Text) (file : FileId) → standing (known_map (edited known edit)) shelf file ≡ edited_map (standing (known_map known) shelf) edit file
  pub refusal : AreKnown known (files_in edit) → (shelf : FileId → Text) → misfit (text_in (standing (known_map known) shelf)) edit ≡ misfit (text_of known) edit

abbrev pub grows : Edit → Bool
grows (Set file line text) = true
grows (Insert file line text) = true
grows (Restore file lines) = true
grows edit = false

-- the weight after an edit that brings lines, which alone can pass the limit
pub record Weighs (known : Known) : Type 0 where
  pub set : (file : FileId) (line : ℕ) (text : List ℕ) (lines : List (List ℕ)) → text_of known file ≡ Some lines → line - 1 < length lines → weight_of (edited known (Set file line text)) + (length (get_or lines (line - 1) []) + 32) ≡ weight_of known + (length text + 32)
  pub inserted : (file : FileId) (line : ℕ) (text : List ℕ) (lines : List (List ℕ)) → text_of known file ≡ Some lines → weight_of (edited known (Insert file line text)) ≡ weight_of known + (length text + 32)
  pub restored : (file : FileId) (lines : List (List ℕ)) → IsSome (id_of known file) → text_of known file ≡ None → weight_of (edited known (Restore file lines)) ≡ weight_of known + weight_of_lines lines
  pub light : (max_weight : ℕ) (edit : Edit) → weight_of known ≤ max_weight → grows edit ≡ false → refusal_of max_weight known edit ≡ misfit (text_of known) edit

abbrev pub EditLaws : Type 0
EditLaws = (known : Known) (edit : Edit) → LeavesOthers known edit × EditsMaps known edit × Weighs known

-- a text whose lines a block may hold
abbrev pub is_of_block_lines : Text → Bool
is_of_block_lines None = true
is_of_block_lines (Some lines) = list_all is_block_text lines

abbrev pub are_of_block_lines : Known → Bool
are_of_block_lines known = list_all (λ entry. is_of_block_lines entry.1) known

-- an edit that is not refused leaves texts of such lines
abbrev pub KeepsBlockLines : Type 0
KeepsBlockLines = (max_weight : ℕ) (known : Known) (edit : Edit) → refusal_of max_weight known edit ≡ None → are_of_block_lines known ≡ true → are_of_block_lines (edited known edit) ≡ true
