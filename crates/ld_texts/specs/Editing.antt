-- Edits: which files they name, which texts they write, why they are refused, what they turn. All of it is this
-- project's own; what begins and ends a block is of the MPD Language Extension.
use Rattle.std.specs.Prelude.{◌+◌, ◌-◌, ◌==◌, ◌&&◌, ◌||◌, ℕ, Bool, not, List, [], ◌∷◌, length, slice_set, Option, Some, None, option_and_then, option_map, IsSome, unwrap_or, if◌then◌else◌, nat_lt, ⊤}
use Rattle.std.specs.List.{insert, remove, list_all, list_any}
use Rattle.std.specs.Map.{set_value}
use Rattle.std.specs.Option.{is_none, is_some, option_or}
use Rattle.ld_line.specs.Block.{block_line_of, is_other}
use Rattle.ld_line.specs.Word.{is_one_line}
use Rattle.ld_names.specs.declared.file.FileId.{FileId}
use Rattle.ld_names.specs.Standing.{Known, Map, Text, same_file}
use Rattle.ld_texts.specs.Known.{id_of, lines_at, weight_of}
use Rattle.ld_texts.specs.declared.change.Change.{Change}
use Rattle.ld_texts.specs.declared.change.Turned.{Turned}
use Rattle.ld_texts.specs.declared.change.Turned.TheVariants.{Altered, Appeared, Went}
use Rattle.ld_texts.specs.declared.edit.Edit.{Edit}
use Rattle.ld_texts.specs.declared.edit.Edit.TheVariants.{Set, Insert, Delete, New, Restore, Drop, Move}
use Rattle.ld_texts.specs.declared.edit.EditRefusal.{EditRefusal}
use Rattle.ld_texts.specs.declared.edit.EditRefusal.TheVariants.{BadLine, NoFile, FileThere, NoLine, Full}

-- ---- the files that an edit names

-- in order
abbrev pub files_in : Edit → List FileId
files_in (Set file line text) = file ∷ []
files_in (Insert file line text) = file ∷ []
files_in (Delete file line) = file ∷ []
files_in (New file) = file ∷ []
files_in (Restore file lines) = file ∷ []
files_in (Drop file) = file ∷ []
files_in (Move from to) = from ∷ to ∷ []

-- an edit names a file
abbrev pub names : Edit → FileId → Bool
names edit other = list_any (λ file. same_file file other) (files_in edit)

-- each of the files is known
abbrev pub AreKnown : Known → List FileId → Type 0
AreKnown known [] = ⊤
AreKnown known (file ∷ files) = IsSome (id_of known file) × AreKnown known files

-- ---- the texts that an edit writes

-- the text of a known file; a file that is not known counts as absent
abbrev pub text_of : Known → FileId → Text
text_of known file = option_and_then (lines_at known) (id_of known file)

-- the text of a file in a map
abbrev pub text_in : Map → FileId → Text
text_in texts file = unwrap_or (texts file) None

-- the files that get another text, each with that text, in order; None makes a file absent. Lines are numbered from 1
abbrev pub written_by : Edit → (FileId → Text) → List (FileId × Text)
written_by (Set file line text) texts = (file, option_map (λ lines. slice_set lines (line - 1) text) (texts file)) ∷ []
written_by (Insert file line text) texts = (file, option_map (λ lines. insert lines (line - 1) text) (texts file)) ∷ []
written_by (Delete file line) texts = (file, option_map (λ lines. remove lines (line - 1)) (texts file)) ∷ []
written_by (New file) texts = (file, Some []) ∷ []
written_by (Restore file lines) texts = (file, Some lines) ∷ []
written_by (Drop file) texts = (file, None) ∷ []
written_by (Move from to) texts = (from, None) ∷ (to, texts from) ∷ []

-- the known files with other texts, written one after another; each file keeps its place
abbrev pub with_texts : Known → List (FileId × Text) → Known
with_texts known [] = known
with_texts known ((file, text) ∷ more) = with_texts (set_value (same_file file) known text) more

-- a map with other texts, written one after another
abbrev pub map_with_texts : Map → List (FileId × Text) → Map
map_with_texts texts [] = texts
map_with_texts texts ((file, text) ∷ more) = map_with_texts (λ other. if same_file file other then Some text else texts other) more

-- what is known after an edit
abbrev pub edited : Known → Edit → Known
edited known edit = with_texts known (written_by edit (text_of known))

-- a map after an edit
abbrev pub edited_map : Map → Edit → Map
edited_map texts edit = map_with_texts texts (written_by edit (text_in texts))

-- ---- why an edit is refused

-- a line that a block may hold: no line feed stands in it, and it neither begins nor ends a block
abbrev pub is_block_text : List ℕ → Bool
is_block_text line = is_one_line line && is_other (block_line_of line)

abbrev pub refused_if : Bool → EditRefusal → Option EditRefusal
refused_if holds refusal = if holds then Some refusal else None

-- the file is absent, or it has no such line: none of number 0, and none more than so many behind the last
abbrev pub misses : ℕ → ℕ → Text → Option EditRefusal
misses further line None = Some NoFile
misses further line (Some lines) = refused_if (line == 0 || nat_lt (length lines + further) line) (NoLine (length lines))

-- why texts do not allow an edit, the first reason that holds
abbrev pub misfit : (FileId → Text) → Edit → Option EditRefusal
misfit texts (Set file line text) = option_or (refused_if (not (is_block_text text)) BadLine) (misses 0 line (texts file))
misfit texts (Insert file line text) = option_or (refused_if (not (is_block_text text)) BadLine) (misses 1 line (texts file))
misfit texts (Delete file line) = misses 0 line (texts file)
misfit texts (New file) = refused_if (is_some (texts file)) FileThere
misfit texts (Restore file lines) = option_or (refused_if (not (list_all is_block_text lines)) BadLine) (refused_if (is_some (texts file)) FileThere)
misfit texts (Drop file) = refused_if (is_none (texts file)) NoFile
misfit texts (Move from to) = option_or (refused_if (is_none (texts from)) NoFile) (refused_if (is_some (texts to)) FileThere)

-- the weight that is kept, where that after the edit passes the limit
abbrev pub overweight : ℕ → Known → Known → Option EditRefusal
overweight max_weight known after = refused_if (nat_lt max_weight (weight_of after)) (Full (weight_of known))

-- why an edit of known files is refused
abbrev pub refusal_of : ℕ → Known → Edit → Option EditRefusal
refusal_of max_weight known edit = option_or (misfit (text_of known) edit) (overweight max_weight known (edited known edit))

-- ---- what a change turned

-- one known file, by its number
abbrev pub turned : Known → FileId → Turned → Option Change
turned known file how = option_map (λ id. record { first = (record { 0 = id }, how); second = None }) (id_of known file)

-- the file that lost its lines, and the one that has them
abbrev pub move_change : Option ℕ → Option ℕ → Option Change
move_change (Some from) (Some to) = Some (record { first = (record { 0 = from }, Went); second = Some (record { 0 = to }, Appeared) })
move_change from to = None

-- by the numbers of the known files
abbrev pub edit_change : Known → Edit → Option Change
edit_change known (Set file line text) = turned known file Altered
edit_change known (Insert file line text) = turned known file Altered
edit_change known (Delete file line) = turned known file Altered
edit_change known (New file) = turned known file Appeared
edit_change known (Restore file lines) = turned known file Appeared
edit_change known (Drop file) = turned known file Went
edit_change known (Move from to) = move_change (id_of known from) (id_of known to)

-- ---- the memory of an edit

-- how many lines are to stand in memory that the edit brings
abbrev pub lines_needed : (FileId → Text) → Edit → ℕ
lines_needed texts (Insert file line text) = length (unwrap_or (texts file) []) + 1
lines_needed texts edit = 0
