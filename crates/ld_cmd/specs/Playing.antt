-- What the commands of a script give, one after another (this project's own).
use Rattle.std.specs.Prelude.{ℕ, List, [], ◌∷◌, ◌++◌, Option, Some, None, codes, decimal}
use Rattle.ld_io.specs.Shelf.{Files}
use Rattle.ld_names.specs.Standing.{Known}
use Rattle.ld_names.specs.declared.file.FileId.{FileId}
use Rattle.ld_texts.specs.Editing.{edited, refusal_of}
use Rattle.ld_texts.specs.declared.edit.Edit.{Edit}
use Rattle.ld_texts.specs.declared.edit.EditRefusal.{EditRefusal}
use Rattle.ld_texts.specs.declared.edit.EditRefusal.TheVariants.{BadLine, NoFile, FileThere, NoLine, Full}
use Rattle.ld_colour.specs.Colour.{colour_of}
use Rattle.ld_colour.specs.Table.{Counting}
use Rattle.ld_colour.specs.declared.colour.Colour.{Colour}
use Rattle.ld_engine.specs.Editing.{edit_learning}
use Rattle.ld_engine.specs.Learning.{Stop, learning}
use Rattle.ld_engine.specs.declared.limits.Limits.{Limits}
use Rattle.ld_report.specs.Entries.{fault_text}
use Rattle.ld_script.specs.declared.command.Command.{Command}
use Rattle.ld_script.specs.declared.command.Command.TheVariants as command
use Rattle.ld_script.specs.declared.command.Query.{Query}
use Rattle.ld_script.specs.declared.command.Query.TheVariants as query
use Rattle.ld_script.specs.declared.command.Root.{Root}
use Rattle.ld_cmd.specs.Querying.{Queried, Stopped, NoRoot, FirstFault, Answered, queried}
use Rattle.ld_cmd.specs.Written.{Output, one_piece, onto, shown_text, stop_text}
use Rattle.ld_cmd.specs.declared.answer.Shown.{Shown}
use Rattle.ld_cmd.specs.declared.answer.Shown.TheVariants.{Faces, Steps, Parts}
use Rattle.ld_cmd.specs.declared.status.Status.TheVariants.{Done, Limit}

-- what stays the same while commands are answered: the limits, the colours that are defined, and the main model with the
-- number of its colour
pub record Setting : Type 0 where
  pub limits : Limits
  pub table : Counting
  pub main : FileId
  pub colour : ℕ

-- what one command gives: a reply with what is known after it, or the line of a limit, which ends the output
pub data Replied : Type 0 where
  Reply : List ℕ → Known → Replied
  Ends : List ℕ → Replied

abbrev pub limited : Stop → Replied
limited stop = Ends (stop_text stop)

-- ---- Edits.

abbrev pub refusal_text : EditRefusal → List ℕ
refusal_text BadLine = codes "refused badline\n"
refusal_text NoFile = codes "refused nofile\n"
refusal_text FileThere = codes "refused filethere\n"
refusal_text (NoLine count) = codes "refused noline " ++ decimal count ++ codes "\n"
refusal_text (Full kept) = codes "refused full\n"

-- by why it is refused, if it is
abbrev pub edit_reply : Known → Edit → Option EditRefusal → Replied
edit_reply known edit None = Reply (codes "ok\n") (edited known edit)
edit_reply known edit (Some refusal) = Reply (refusal_text refusal) known

-- once learning has ended
abbrev pub edit_on : Limits → Edit → Known → Option Stop → Replied
edit_on limits edit known (Some stop) = limited stop
edit_on limits edit known None = edit_reply known edit (refusal_of limits.total_weight known edit)

-- an edit first learns the files that it names
abbrev pub edit_step : Limits → Files → Known → Edit → Replied
edit_step limits files known edit = let learnt = edit_learning limits files edit known in edit_on limits edit learnt.known learnt.stop

-- ---- Queries.

abbrev pub shown_by : Query → Shown
shown_by query.Faces = Faces
shown_by query.Steps = Steps
shown_by query.Parts = Parts

-- what is expanded, and in which colour
abbrev pub root_of : Setting → Option Root → FileId
root_of setting None = setting.main
root_of setting (Some root) = root.file

abbrev pub root_colour : Setting → Option Root → ℕ
root_colour setting None = setting.colour
root_colour setting (Some root) = root.colour

-- by what the query comes to
abbrev pub query_reply : Shown → Counting → Known → Queried → Replied
query_reply what table known (Stopped stop) = limited stop
query_reply what table known NoRoot = Reply (codes "refused nofile\n") known
query_reply what table known (FirstFault fault) = Reply (fault_text known fault) known
query_reply what table known (Answered answer) = Reply (shown_text what table known answer ++ codes "done\n") known

-- a query first learns what its root reaches
abbrev pub query_step : Limits → Files → Known → Shown → Counting → FileId → Colour → Replied
query_step limits files known what table root colour =
    let learnt = learning limits files root known in query_reply what table learnt.known (queried limits files root colour learnt)

-- ---- All commands.

abbrev pub replied_to : Setting → Files → Known → Command → Replied
replied_to setting files known (command.Edit edit) = edit_step setting.limits files known edit
replied_to setting files known (command.Ask what root) = query_step setting.limits files known (shown_by what) setting.table (root_of setting root) (colour_of (root_colour setting root))
replied_to setting files known (command.Bad number) = Reply (codes "refused script\n") known

-- a step, and what follows it
abbrev pub followed : Replied → (Known → Output) → Output
followed (Reply piece known) further = onto piece (further known)
followed (Ends line) further = one_piece line Limit

-- the replies to commands, until a limit or the last one
unfoldable pub played : Setting → Files → Known → List Command → Output
played setting files known [] = record { pieces = []; status = Done }
played setting files known (command ∷ commands) = followed (replied_to setting files known command) (λ after. played setting files after commands)
