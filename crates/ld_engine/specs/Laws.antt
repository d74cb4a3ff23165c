-- What answers say: over the known texts, of the texts as they stand, and of their steps; and what learning leaves.
use Rattle.std.specs.Prelude.{◌≡◌, ℕ, List, [], length, Some, None, IsSome, Result, Ok, slice_get}
use Rattle.ld_io.specs.Shelf.{Files}
use Rattle.ld_mpd.specs.Blocks.{text_blocks, text_of}
use Rattle.ld_names.specs.Finding.{Exactly, IsThere}
use Rattle.ld_names.specs.Standing.{Absent, Known, Text, find, known_map, standing}
use Rattle.ld_names.specs.declared.file.FileId.{FileId}
use Rattle.ld_names.specs.declared.file.TextId.{TextId}
use Rattle.ld_num.specs.declared.point.Placement.{Placement}
use Rattle.ld_line.specs.declared.line.Line.TheVariants.{Ref}
use Rattle.ld_texts.specs.Known.{AreDistinct, file_at, id_of}
use Rattle.ld_texts.specs.Reach.{Reaches, reach, wanted}
use Rattle.ld_texts.specs.declared.edit.Edit.{Edit}
use Rattle.ld_colour.specs.declared.colour.Colour.{Colour}
use Rattle.ld_steps.specs.Laws.{AreSteps}
use Rattle.ld_entry.specs.NumberedTexts.{known_texts, NumberedTexts, standing_texts}
use Rattle.ld_engine.specs.Editing.{Edits}
use Rattle.ld_engine.specs.Learning.{LearnsBy, Wanting, learning, learning_by, text_on}
use Rattle.ld_engine.specs.Loading.{BeginsWith, load, main_of}
use Rattle.ld_engine.specs.Stepping.{answer_with_steps}
use Rattle.ld_engine.specs.declared.asking.Answer.{Answer}
use Rattle.ld_engine.specs.declared.editing.EditError.{EditError}
use Rattle.ld_engine.specs.declared.limits.Limits.{Limits}

-- Where nothing is wanted for a root, recursive expansion of the known texts answers it as that of the texts as they
-- stand does, whatever the shelf has of the files that are not known.
abbrev pub StandsForRoots : Type 0
StandsForRoots =
    (known : Known) (shelf : FileId → Text) → AreDistinct known → (root : FileId) (id : ℕ) → id_of known root ≡ Some id → wanted known root ≡ None → (depth most : ℕ) (colour : Colour) → answer_with_steps (standing_texts known shelf) depth most (record { 0 = id }) colour ≡ answer_with_steps (known_texts known) depth most (record { 0 = id }) colour

-- The steps of an answer: their ranges follow one another and cover its entries, and each view is the one before it, or
-- that changed by one rotation step.
abbrev pub StepsOfAnswers : Type 0
StepsOfAnswers =
    (texts : NumberedTexts) (depth most : ℕ) (root : TextId) (colour : Colour) (answer : Answer) → answer_with_steps texts depth most root colour ≡ Ok answer → AreSteps (length answer.entries) answer.steps

-- Learning leaves the texts as they stand: once it has ended, or has stopped, what is known and what the shelf has of
-- the other files say of every file what they said before.
abbrev pub LearningStands : Type 0
LearningStands =
    (limits : Limits) (files : Files) (root : FileId) (known : Known) (file : FileId) → standing (known_map (learning limits files root known).known) (text_on files) file ≡ standing (known_map known) (text_on files) file

-- nothing is wanted for the root, and a line of a text that it reaches refers to a name
pub record IsReached (known : Known) (root file : FileId) (text : TextId) (name : List ℕ) : Type 0 where
  pub reached : List ℕ
  pub reaches : reach known root ≡ Reaches reached
  pub place : ℕ
  pub is_reached : slice_get reached place ≡ Some text.0
  pub is_file : file_at known text.0 ≡ Some file
  pub before : ℕ
  pub word : ℕ
  pub placement : Placement
  pub refers : slice_get ((known_texts known).lines text) before ≡ Some (Ref word placement (Some name))

-- Where nothing is wanted, a name is found unless it is absent in every folder, among the known texts and among the
-- texts as they stand. So what refers to it is at fault as missing exactly where its look-up is absent.
pub record IsFoundUnlessAbsent : Type 0 where
  pub known : (known : Known) (root file : FileId) (text : TextId) (name : List ℕ) → AreDistinct known → IsReached known root file text name → Exactly ((known_texts known).found text name ≡ None) (find (known_map known) file.folder name ≡ Absent)
  pub standing : (known : Known) (shelf : FileId → Text) (root file : FileId) (text : TextId) (name : List ℕ) → AreDistinct known → IsReached known root file text name → Exactly ((standing_texts known shelf).found text name ≡ None) (find (standing (known_map known) shelf) file.folder name ≡ Absent)

-- A file has a main model; once the file is loaded, it is there; and it stays there, whatever is learnt.
pub record MainIsThere : Type 0 where
  pub one : (own bytes : List ℕ) → IsSome (main_of (text_blocks own bytes))
  pub there : (limits : Limits) (own bytes : List ℕ) (known : Known) (main : FileId) → load limits [] (text_blocks own bytes) ≡ Ok known → main_of (text_blocks own bytes) ≡ Some main → IsThere (known_map known) main
  pub stays : (limits : Limits) (files : Files) (wants : Wanting) (known : Known) (file : FileId) → IsThere (known_map known) file → IsThere (known_map (learning_by limits files wants known).known) file

-- Once a file is loaded its main model is the first that is known, with the file's own text: its number is 0. It stays
-- the first, whatever is learnt; and every number stays, whatever is learnt and whichever edits are made or refused. So
-- a query of text 0 and one of the main model by its number are of the same text.
pub record MainIsFirst : Type 0 where
  pub loaded : (limits : Limits) (own bytes : List ℕ) (known : Known) (main : FileId) → load limits [] (text_blocks own bytes) ≡ Ok known → main_of (text_blocks own bytes) ≡ Some main → BeginsWith main (text_of own bytes) known
  pub says : (file : FileId) (lines : List (List ℕ)) (known : Known) → BeginsWith file lines known → (id_of known file ≡ Some 0) × (known_map known file ≡ Some (Some lines))
  pub grown : (wants : Wanting) (old new : Known) → LearnsBy wants old new → (file : FileId) (lines : List (List ℕ)) → BeginsWith file lines old → BeginsWith file lines new
  pub learnt : (limits : Limits) (files : Files) (wants : Wanting) (known : Known) (file : FileId) (id : ℕ) → id_of known file ≡ Some id → id_of (learning_by limits files wants known).known file ≡ Some id
  pub edits : (limits : Limits) (edit : Edit) (old new : Known) (result : Result Unit EditError) → Edits limits edit old new result → (file : FileId) (id : ℕ) → id_of old file ≡ Some id → id_of new file ≡ Some id
