-- What the items that known texts give a graph say of the texts, and what a change of the texts changes of them.
use Rattle.std.specs.Prelude.{◌≡◌, ◌⊎◌, ◌↔◌, ℕ, List, [], ◌∷◌, Option, Some, None, length, option_map}
use Rattle.std.specs.List.{Contains, filter_map}
use Rattle.std.specs.Option.{is_some}
use Rattle.ld_names.specs.declared.file.FileId.{FileId}
use Rattle.ld_names.specs.declared.file.Folder.{Folder}
use Rattle.ld_names.specs.declared.file.TextId.{TextId}
use Rattle.ld_names.specs.Standing.{Found, Present, Absent, Unknown, Known, Text, find, known_map}
use Rattle.ld_texts.specs.Editing.{AreKnown, edit_change, edited, files_in, refusal_of}
use Rattle.ld_texts.specs.Known.{AreDistinct, file_at as known_file, id_of, lines_at}
use Rattle.ld_texts.specs.Learning.{IsApt, Learn, Ready, known_after}
use Rattle.ld_texts.specs.declared.change.Change.{Change}
use Rattle.ld_texts.specs.declared.change.Turned.{Turned}
use Rattle.ld_texts.specs.declared.change.Turned.TheVariants.{Altered, Appeared, Learnt, Went}
use Rattle.ld_texts.specs.declared.edit.Edit.{Edit}
use Rattle.ld_graph.specs.Agreeing.{GraphChange, Learns, Edits, graph_change, editing_of, items_of_known, names_among}
use Rattle.ld_graph.specs.Changing.{HasTurned, IsChanged, IsDirty, IsMore}
use Rattle.ld_graph.specs.Items.{Items, file_at, found, names_at, number_of, presence, web_of}
use Rattle.ld_graph.specs.Seen.{IsEditOf, changed_by, items_edited, items_learnt}
use Rattle.ld_graph.specs.Web.{children_of}

-- the number of the file that a look-up finds
abbrev pub number_found : Known → Found → Option ℕ
number_found known (Present file) = id_of known file
number_found known Absent = None
number_found known (Unknown folder) = None

-- the items say of each number and of each file what the texts say
pub record ItemsAgree (known : Known) : Type 0 where
  pub count : length (items_of_known known) ≡ length known
  pub number : (file : FileId) → number_of (items_of_known known) file ≡ id_of known file
  pub file : (id : ℕ) → file_at (items_of_known known) id ≡ known_file known id
  pub presence : (id : ℕ) → presence (items_of_known known) id ≡ option_map (λ file. is_some (lines_at known id)) (known_file known id)
  pub names : (id : ℕ) → names_at (items_of_known known) id ≡ option_map names_among (lines_at known id)
  pub children : (id : ℕ) (file : FileId) (lines : List (List ℕ)) → known_file known id ≡ Some file → lines_at known id ≡ Some lines → children_of (web_of (items_of_known known)) id ≡ Some (filter_map (found (items_of_known known) file.folder) (names_among lines))
  pub childless : (id : ℕ) → lines_at known id ≡ None → children_of (web_of (items_of_known known)) id ≡ None
  pub found : (from : Folder) (name : List ℕ) → found (items_of_known known) from name ≡ number_found known (find (known_map known) from name)

-- the items after a change
abbrev pub items_after : Items → GraphChange → Items
items_after items (Learns learning) = items_learnt items learning
items_after items (Edits editing) = items_edited items editing

-- the texts that a change changed
abbrev pub changed_in : Items → GraphChange → List ℕ
changed_in items (Learns learning) = length items ∷ []
changed_in items (Edits editing) = changed_by editing

-- a change of files that are known, or of one that is not where it is learnt, is that change of the items; and which of
-- them it changes
pub record ChangesItems (known : Known) (ready : Ready) : Type 0 where
  pub items : items_of_known (known_after known ready) ≡ items_after (items_of_known known) (graph_change known ready)
  pub changed : IsChanged (items_of_known known) (items_of_known (known_after known ready)) (changed_in (items_of_known known) (graph_change known ready))

-- where a file is learnt all that was known stays
abbrev pub LearningKeepsItems : Type 0
LearningKeepsItems = (known : Known) (file : FileId) (text : Text) → id_of known file ≡ None → IsMore (items_of_known known) (items_of_known (known_after known (Learn file text)))

-- an edit that is not refused changes known texts, and two where it moves lines
abbrev pub EditsTexts : Type 0
EditsTexts = (max_weight : ℕ) (known : Known) (edit : Edit) → AreKnown known (files_in edit) → refusal_of max_weight known edit ≡ None → IsEditOf (items_of_known known) (editing_of known edit)

pub record ItemsLaws : Type 0 where
  pub agree : (known : Known) → ItemsAgree known
  pub change : (known : Known) (ready : Ready) → IsApt known ready → ChangesItems known ready
  pub learning : LearningKeepsItems
  pub edits : EditsTexts

-- ---- what an edit leaves outside its dirt

-- a text is in the dirt of an edit of known texts
abbrev pub IsDirtied : Known → Edit → ℕ → Type 0
IsDirtied known edit text = IsDirty (items_of_known known) (items_of_known (edited known edit)) (changed_by (editing_of known edit)) text

-- each name among the lines of a file of a folder finds what it found, which is outside the dirt too
pub record FindsClean (known : Known) (edit : Edit) (folder : Folder) (lines : List (List ℕ)) : Type 0 where
  pub finds : (name : List ℕ) → Contains (names_among lines) name → find (known_map (edited known edit)) folder name ≡ find (known_map known) folder name
  pub clean : (name : List ℕ) (file : FileId) → Contains (names_among lines) name → find (known_map known) folder name ≡ Present file → (other : ℕ) × (id_of known file ≡ Some other) × (IsDirtied known edit other → ⊥)

-- the text is the same, and its names find the same
pub record StaysClean (known : Known) (edit : Edit) (text : ℕ) (file : FileId) : Type 0 where
  pub same : known_map (edited known edit) file ≡ known_map known file
  pub finds : (lines : List (List ℕ)) → lines_at known text ≡ Some lines → FindsClean known edit file.folder lines

abbrev pub CleanTextsStay : Type 0
CleanTextsStay = (known : Known) (edit : Edit) (text : ℕ) (file : FileId) → AreDistinct known → AreKnown known (files_in edit) → known_file known text ≡ Some file → (IsDirtied known edit text → ⊥) → StaysClean known edit text file

-- ---- which files an edit turns

-- a file that appeared, went or was learnt, of those that changed
abbrev pub Turns : TextId × Turned → ℕ → Type 0
Turns (id, Learnt) text = id.0 ≡ text
Turns (id, Appeared) text = id.0 ≡ text
Turns (id, Went) text = id.0 ≡ text
Turns (id, Altered) text = ⊥

abbrev pub TurnsToo : Option (TextId × Turned) → ℕ → Type 0
TurnsToo None text = ⊥
TurnsToo (Some one) text = Turns one text

abbrev pub IsTurnedBy : Option Change → ℕ → Type 0
IsTurnedBy None text = ⊥
IsTurnedBy (Some change) text = Turns change.first text ⊎ TurnsToo change.second text

-- the files that an edit turned are those of which its change says so
abbrev pub EditsTurn : Type 0
EditsTurn = (max_weight : ℕ) (known : Known) (edit : Edit) (text : ℕ) → AreDistinct known → AreKnown known (files_in edit) → refusal_of max_weight known edit ≡ None → HasTurned (items_of_known known) (items_of_known (edited known edit)) text ↔ IsTurnedBy (edit_change known edit) text
