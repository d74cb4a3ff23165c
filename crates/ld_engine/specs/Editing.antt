-- What an edit of a workspace comes to: the files that it names are learnt first, and then it is made or refused. All of
-- it is this project's own.
use Rattle.std.specs.Prelude.{◌≡◌, ◌<◌, ℕ, length, List, [], ◌∷◌, Option, Some, None, Result, Ok, Err, IsSome}
use Rattle.ld_io.specs.Shelf.{Files}
use Rattle.ld_names.specs.Standing.{Known, Text, known_map, standing}
use Rattle.ld_names.specs.declared.file.FileId.{FileId}
use Rattle.ld_texts.specs.Editing.{AreKnown, edited, edited_map, files_in, refusal_of}
use Rattle.ld_texts.specs.Known.{id_of}
use Rattle.ld_texts.specs.declared.edit.Edit.{Edit}
use Rattle.ld_texts.specs.declared.edit.PrepareError.{PrepareError}
use Rattle.ld_texts.specs.declared.edit.PrepareError.TheVariants as prepare
use Rattle.ld_engine.specs.Keeping.{IsLimit}
use Rattle.ld_engine.specs.Learning.{Full as Passed, Learnt, LearnsBy, TooBig as BigFile, Wanting, learning_by, learnt, stopped}
use Rattle.ld_engine.specs.declared.editing.EditError.{EditError}
use Rattle.ld_engine.specs.declared.editing.EditError.TheVariants.{Refused, ReadFault, TooBig, Full, Memory}
use Rattle.ld_engine.specs.declared.learning.LearnStop.{LearnStop}
use Rattle.ld_engine.specs.declared.learning.LearnStop.TheVariants as stop
use Rattle.ld_engine.specs.declared.limits.Limits.{Limits}

-- ---- the files that an edit names

abbrev pub unless_known : Option ℕ → FileId → Option FileId → Option FileId
unless_known None file next = Some file
unless_known (Some id) file next = next

-- the first of the files that is not known
abbrev pub first_unknown : Known → List FileId → Option FileId
first_unknown known [] = None
first_unknown known (file ∷ files) = unless_known (id_of known file) file (first_unknown known files)

-- what an edit wants
abbrev pub wanted_by : Edit → Wanting
wanted_by edit known = first_unknown known (files_in edit)

-- the files that an edit names are learnt, in order
abbrev pub edit_learning : Limits → Files → Edit → Known → Learnt
edit_learning limits files edit known = learning_by limits files (wanted_by edit) known

-- ---- over any shelf

-- an edit of known files is made, or refused and nothing changes; nor does it where memory is lacking for one that is
-- not refused
abbrev pub EditsKnown : Limits → Edit → Known → Known → Result Unit EditError → Type 0
EditsKnown limits edit old new (Ok done) = (refusal_of limits.total_weight old edit ≡ None) × (new ≡ edited old edit)
EditsKnown limits edit old new (Err (Refused why)) = (refusal_of limits.total_weight old edit ≡ Some why) × (new ≡ old)
EditsKnown limits edit old new (Err ReadFault) = ⊥
EditsKnown limits edit old new (Err (TooBig file)) = ⊥
EditsKnown limits edit old new (Err (Full over)) = ⊥
EditsKnown limits edit old new (Err Memory) = (refusal_of limits.total_weight old edit ≡ None) × (new ≡ old)

-- the same of what is known once learning has ended; or a file that the edit names is still not known, it is the one at
-- which learning stopped, and nothing is edited
abbrev pub EndsEdit : Limits → Edit → Known → Known → Result Unit EditError → Type 0
EndsEdit limits edit known new (Ok done) = AreKnown known (files_in edit) × EditsKnown limits edit known new (Ok done)
EndsEdit limits edit known new (Err (Refused why)) = AreKnown known (files_in edit) × EditsKnown limits edit known new (Err (Refused why))
EndsEdit limits edit known new (Err ReadFault) = (new ≡ known) × IsSome (wanted_by edit known) × (length known < limits.texts)
EndsEdit limits edit known new (Err (TooBig file)) = (new ≡ known) × (wanted_by edit known ≡ Some file) × (length known < limits.texts)
EndsEdit limits edit known new (Err (Full over)) = (new ≡ known) × IsSome (wanted_by edit known) × IsLimit limits known over
EndsEdit limits edit known new (Err Memory) = (new ≡ known) × (AreKnown known (files_in edit) → refusal_of limits.total_weight known edit ≡ None)

-- what is known has grown by files that the edit names, each when it was the first that was not known; and then the edit
-- ended
pub record Edits (limits : Limits) (edit : Edit) (old new : Known) (result : Result Unit EditError) : Type 0 where
  pub known : Known
  pub learns : LearnsBy (wanted_by edit) old known
  pub ends : EndsEdit limits edit known new result

-- ---- over a shelf that tells its files

-- What an edit comes to, from what was known; where a read failed or memory was lacking, it still comes to that from
-- what is known now.
abbrev pub EditsTold : Limits → Files → Edit → Known → Known → Result Unit EditError → Type 0
EditsTold limits files edit old new (Ok done) =
    (known : Known) × (edit_learning limits files edit old ≡ learnt known) × (refusal_of limits.total_weight known edit ≡ None) × (new ≡ edited known edit)
EditsTold limits files edit old new (Err (Refused why)) = (edit_learning limits files edit old ≡ learnt new) × (refusal_of limits.total_weight new edit ≡ Some why)
EditsTold limits files edit old new (Err (TooBig file)) = edit_learning limits files edit old ≡ stopped new (BigFile file)
EditsTold limits files edit old new (Err (Full over)) = edit_learning limits files edit old ≡ stopped new (Passed over)
EditsTold limits files edit old new (Err ReadFault) = edit_learning limits files edit old ≡ edit_learning limits files edit new
EditsTold limits files edit old new (Err Memory) = edit_learning limits files edit old ≡ edit_learning limits files edit new

-- the texts as they stand are edited; or they are as before
abbrev pub EditStands : (FileId → Text) → Edit → Known → Known → Result Unit EditError → Type 0
EditStands shelf edit old new (Ok done) = (file : FileId) → standing (known_map new) shelf file ≡ edited_map (standing (known_map old) shelf) edit file
EditStands shelf edit old new (Err error) = (file : FileId) → standing (known_map new) shelf file ≡ standing (known_map old) shelf file

-- ---- what the errors below mean

abbrev pub edit_stopped : LearnStop → EditError
edit_stopped stop.ReadFault = ReadFault
edit_stopped (stop.TooBig file) = TooBig file
edit_stopped (stop.Full over) = Full over
edit_stopped stop.Memory = Memory

abbrev pub edit_refused : PrepareError → EditError
edit_refused (prepare.Refused why) = Refused why
edit_refused prepare.Memory = Memory
