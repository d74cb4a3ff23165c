-- When a graph agrees with texts, and the change of a graph that a change of texts is. A reference is a sub-file
-- reference of File Format 1.0.2 ("Line Type 1"); the rest is this project's own.
use Rattle.std.specs.Prelude.{◌≡◌, ◌↔◌, ℕ, Bool, true, List, Option, Some, None, map, length, option_map, unwrap_or, ⊤}
use Rattle.std.specs.List.{filter_map}
use Rattle.ld_names.specs.Standing.{Known, Text}
use Rattle.ld_names.specs.declared.file.FileId.{FileId}
use Rattle.ld_names.specs.declared.file.TextId.{TextId}
use Rattle.ld_line.specs.Moved.{name_in}
use Rattle.ld_line.specs.Reading.{line_of}
use Rattle.ld_texts.specs.Editing.{edited, text_of}
use Rattle.ld_texts.specs.Known.{id_of}
use Rattle.ld_texts.specs.Learning.{CanCommit, Ready, Learn, Apply, Texts, known_after}
use Rattle.ld_texts.specs.declared.edit.Edit.{Edit}
use Rattle.ld_texts.specs.declared.edit.Edit.TheVariants.{Set, Insert, Delete, New, Restore, Drop, Move}
use Rattle.ld_graph.specs.Changing.{IsDirty}
use Rattle.ld_graph.specs.Dirt.{is_dirty}
use Rattle.ld_graph.specs.Items.{Item, Items, Names}
use Rattle.ld_graph.specs.Seen.{Editing, Graph, HasRoomToEdit, HasRoomToLearn, Learning, changed_by}

-- ---- what a graph knows of texts

-- the names of the references among lines, in order; one without a name finds nothing
abbrev pub names_among : List (List ℕ) → List (List ℕ)
names_among lines = filter_map (λ line. name_in (line_of line)) lines

abbrev pub names_of : Text → Names
names_of text = option_map names_among text

abbrev pub item_of : FileId × Text → Item
item_of entry = (entry.0, names_of entry.1)

-- an item for each known file
unfoldable pub items_of_known : Known → Items
items_of_known known = map item_of known

-- the graph knows of the texts what their map says
abbrev pub Agrees : Graph → Texts → Type 0
Agrees graph texts = graph.items ≡ items_of_known texts.known

-- ---- a change of a graph

-- a file that is learnt, or texts that get other names
pub data GraphChange : Type 0 where
  Learns : Learning → GraphChange
  Edits : Editing → GraphChange

-- the file that is there after an edit with other lines, or is absent then; of a move, the one that gets the lines
abbrev pub written_file : Edit → FileId
written_file (Set file line text) = file
written_file (Insert file line text) = file
written_file (Delete file line) = file
written_file (New file) = file
written_file (Restore file lines) = file
written_file (Drop file) = file
written_file (Move from to) = to

-- the file that a move leaves
abbrev pub left_file : Edit → Option FileId
left_file (Move from to) = Some from
left_file edit = None

-- the number of a known file
abbrev pub number_in : Known → FileId → ℕ
number_in known file = unwrap_or (id_of known file) 0

-- the names after an edit of the text that it writes, and the text that it leaves
abbrev pub editing_of : Known → Edit → Editing
editing_of known edit =
    record { text = number_in known (written_file edit); names = names_of (text_of (edited known edit) (written_file edit)); gone = option_map (number_in known) (left_file edit); texts = length known }

-- what a change of known texts changes of a graph that agrees with them
unfoldable pub graph_change : Known → Ready → GraphChange
graph_change known (Learn file text) = Learns (record { file = file; names = names_of text })
graph_change known (Apply edit room) = Edits (editing_of known edit)

-- the graph has the memory for the change
abbrev pub HasRoom : Graph → GraphChange → Type 0
HasRoom graph (Learns learning) = HasRoomToLearn graph learning
HasRoom graph (Edits editing) = HasRoomToEdit graph editing

-- the texts are those with which the graph agrees, after the change
pub record IsAfter (graph : Graph) (change : GraphChange) (texts : Texts) : Type 0 where
  pub before : Texts
  pub ready : Ready
  pub agrees : Agrees graph before
  pub can : CanCommit before ready
  pub change_is : change ≡ graph_change before.known ready
  pub known_is : texts.known ≡ known_after before.known ready

-- the dirt of an edit, between the graph before and after it; of a learnt file it is not used
abbrev pub HasDirt : Graph → Graph → GraphChange → List Bool → Type 0
HasDirt old new (Learns learning) dirty = ⊤
HasDirt old new (Edits editing) dirty = (text : TextId) → (is_dirty dirty text ≡ true) ↔ IsDirty old.items new.items (changed_by editing) text.0
