-- Laws of the output (this project's own): how a run ends where nothing is missing and no limit is reached, and that a
-- command and a script's first query say the same of the main model.
use Rattle.std.specs.Prelude.{◌≡◌, ◌≢◌, ◌≤◌, ◌⊎◌, ◌++◌, ℕ, List, [], ◌∷◌, Option, Some, None, Result, Ok, Err, codes, length, ⊤}
use Rattle.std.specs.Result.{IsErr}
use Rattle.ld_io.specs.Shelf.{Files}
use Rattle.ld_io.specs.declared.shelf.Place.TheVariants.{Work}
use Rattle.ld_names.specs.Standing.{Known}
use Rattle.ld_names.specs.declared.file.FileId.{FileId}
use Rattle.ld_mpd.specs.Blocks.{text_blocks, text_of}
use Rattle.ld_check.specs.Findings.{findings_of}
use Rattle.ld_inline.specs.Text.{inlined_text}
use Rattle.ld_colour.specs.Colour.{colour_of}
use Rattle.ld_colour.specs.Table.{Counting}
use Rattle.ld_entry.specs.declared.entry.Fault.{Fault}
use Rattle.ld_engine.specs.Learning.{Learnt, Stop, learning}
use Rattle.ld_engine.specs.Loading.{load}
use Rattle.ld_engine.specs.declared.asking.Answer.{Answer}
use Rattle.ld_script.specs.Script.{commands_of}
use Rattle.ld_script.specs.declared.command.Command.{Command}
use Rattle.ld_script.specs.declared.command.Command.TheVariants as command
use Rattle.ld_script.specs.declared.command.Query.{Query}
use Rattle.ld_script.specs.declared.command.Query.TheVariants as query
use Rattle.ld_script.specs.declared.command.Root.{Root}
use Rattle.ld_words.specs.Words.{Intent, Options, Task, Show, Replay, Generate, intent_of}
use Rattle.ld_words.specs.declared.listing.Listing.{Listing}
use Rattle.ld_words.specs.declared.listing.Listing.TheVariants as listing
use Rattle.ld_cmd.specs.Generator.{generated}
use Rattle.ld_cmd.specs.Output.{file_bytes, limits_of, main_file, output, own_name, setting_of, table_of}
use Rattle.ld_cmd.specs.Playing.{Replied, Reply, Ends, Setting, replied_to}
use Rattle.ld_cmd.specs.Querying.{answer_at}
use Rattle.ld_cmd.specs.Written.{Output, form_of, onto}
use Rattle.ld_cmd.specs.declared.answer.Form.{Form}
use Rattle.ld_cmd.specs.declared.answer.Form.TheVariants.{Listed, Inlined}
use Rattle.ld_cmd.specs.declared.answer.Shown.TheVariants.{Summary}
use Rattle.ld_cmd.specs.declared.status.Status.{Status}
use Rattle.ld_cmd.specs.declared.status.Status.TheVariants as status

-- ---- 1. Nothing is missing, and no limit is reached.

-- the word names a file of these bytes, which are no more than a file may have
abbrev pub Names : List ℕ → Files → List ℕ → Type 0
Names word files bytes = (files Work word ≡ Some bytes) × (length bytes ≤ file_bytes)

-- the colour file is good, and the texts of a model, by its name and its bytes, pass no limit
pub record IsLoaded (options : Options) (files : Files) (own bytes : List ℕ) : Type 0 where
  pub table : Counting
  pub coloured : table_of options.colours files ≡ Ok table
  pub known : Known
  pub loads : load (limits_of options) [] (text_blocks own bytes) ≡ Ok known

-- the same of the model in a file that is there
pub record HasModel (file : List ℕ) (options : Options) (files : Files) : Type 0 where
  pub bytes : List ℕ
  pub named : Names file files bytes
  pub loaded : IsLoaded options files (own_name file) bytes

-- what is known once all that the main model reaches is learnt, or what stops that
abbrev pub main_learnt : Options → Files → List ℕ → List ℕ → Known → Learnt
main_learnt options files own bytes known = learning (limits_of options) files (main_file own (text_blocks own bytes)) known

-- all of it is learnt, where an answer is asked for
abbrev pub IsAllLearnt : Option Form → Option Stop → Type 0
IsAllLearnt (Some what) stop = stop ≡ None
IsAllLearnt None stop = ⊤

-- the command has a reply
abbrev pub IsReplied : Replied → (Known → Type 0) → Type 0
IsReplied (Reply piece known) further = further known
IsReplied (Ends line) further = ⊥

-- each of the commands has a reply
abbrev pub AreReplied : Setting → Files → Known → List Command → Type 0
AreReplied setting files known [] = ⊤
AreReplied setting files known (command ∷ commands) = IsReplied (replied_to setting files known command) (λ after. AreReplied setting files after commands)

-- a script is there, and no command of it passes a limit
pub record HasScript (script : List ℕ) (options : Options) (files : Files) (own bytes : List ℕ) (loaded : IsLoaded options files own bytes) : Type 0 where
  pub lines : List ℕ
  pub named : Names script files lines
  pub replied : AreReplied (setting_of options loaded.table (main_file own (text_blocks own bytes))) files loaded.known (commands_of lines)

-- nothing that the task needs is missing, and no limit is reached
abbrev pub HasAll : Task → Options → Files → Type 0
HasAll (Show what file) options files =
    (model : HasModel file options files) × IsAllLearnt (form_of what) (main_learnt options files (own_name file) model.bytes model.loaded.known).stop
HasAll (Replay file script) options files =
    (model : HasModel file options files) × HasScript script options files (own_name file) model.bytes model.loaded
HasAll (Generate count) options files =
    (loaded : IsLoaded options files (codes "gen.mpd") (generated count)) × ((main_learnt options files (codes "gen.mpd") (generated count) loaded.known).stop ≡ None)

-- ---- 2. What is at fault then.

-- the answer to the main model, over the texts as they stand
abbrev pub main_answer : Options → Files → List ℕ → List ℕ → Known → Result Answer Fault
main_answer options files own bytes known = answer_at (limits_of options) files (colour_of options.main) (main_learnt options files own bytes known).known 0

-- the answer is a fault, or it is to be inlined and an edge colour has no value
abbrev pub IsFaulty : Result Answer Fault → Form → Counting → Type 0
IsFaulty (Err fault) what table = ⊤
IsFaulty (Ok answer) (Listed what) table = ⊥
IsFaulty (Ok answer) Inlined table = IsErr (inlined_text answer.entries answer.steps table)

-- the same, or something is found
abbrev pub IsFaultyFor : Option Form → (options : Options) (files : Files) (own bytes : List ℕ) → IsLoaded options files own bytes → Type 0
IsFaultyFor (Some what) options files own bytes loaded = IsFaulty (main_answer options files own bytes loaded.known) what loaded.table
IsFaultyFor None options files own bytes loaded = findings_of (main_file own (text_blocks own bytes)) (text_of own bytes) ≢ []

-- what is at fault is told in the reply to a script's command, and its run is done
abbrev pub HasFault : (task : Task) (options : Options) (files : Files) → HasAll task options files → Type 0
HasFault (Show what file) options files has = IsFaultyFor (form_of what) options files (own_name file) has.0.bytes has.0.loaded
HasFault (Replay file script) options files has = ⊥
HasFault (Generate count) options files has = IsFaulty (main_answer options files (codes "gen.mpd") (generated count) has.0.known) (Listed Summary) has.0.table

-- Faulted exactly where there is a fault, and else Done
abbrev pub IsEndOf : Type 0 → Status → Type 0
IsEndOf fault ended = ((ended ≡ status.Done) × (¬ fault)) ⊎ ((ended ≡ status.Faulted) × fault)

-- Words in the grammar, files that are there, a good colour file and no limit that is reached: the run ends as Done, or
-- as Faulted exactly where something is at fault.
abbrev pub EndsByFaults : Type 0
EndsByFaults =
    (words : List (List ℕ)) (intent : Intent) (files : Files) → intent_of words ≡ Some intent → (has : HasAll intent.task intent.options files) → IsEndOf (HasFault intent.task intent.options files has) (output words files).status

-- ---- 3. A command, and a script that asks the same first.

abbrev pub listed_by : Query → Listing
listed_by query.Faces = listing.Faces
listed_by query.Steps = listing.Steps
listed_by query.Parts = listing.Parts

-- the main model in the colour of `--main`, named or not
abbrev pub AsksMain : Options → FileId → Option Root → Type 0
AsksMain options main None = ⊤
AsksMain options main (Some root) = (root.file ≡ main) × (root.colour ≡ options.main)

-- The replies begin with what the command shows, with `done` behind an answer; where the command shows neither an answer
-- nor a fault both come to the same.
abbrev pub BeginsAs : Status → Output → Output → Type 0
BeginsAs status.Done shown replies = (text : List ℕ) × (rest : Output) × (shown.pieces ≡ text ∷ []) × (replies ≡ onto (text ++ codes "done\n") rest)
BeginsAs status.Faulted shown replies = (text : List ℕ) × (rest : Output) × (shown.pieces ≡ text ∷ []) × (replies ≡ onto text rest)
BeginsAs status.Usage shown replies = replies ≡ shown
BeginsAs status.Input shown replies = replies ≡ shown
BeginsAs status.ReadFault shown replies = replies ≡ shown
BeginsAs status.WriteFault shown replies = replies ≡ shown
BeginsAs status.Memory shown replies = replies ≡ shown
BeginsAs status.Limit shown replies = replies ≡ shown

-- A command that shows a file, and a script over that file whose first command asks the same of its main model.
abbrev pub SaysTheSame : Type 0
SaysTheSame =
    (words scripted : List (List ℕ)) (query : Query) (root : Option Root) (file script lines : List ℕ) (options : Options) (files : Files) (commands : List Command) → intent_of words ≡ Some (record { task = Show (listed_by query) file; options = options }) → intent_of scripted ≡ Some (record { task = Replay file script; options = options }) → Names script files lines → commands_of lines ≡ command.Ask query root ∷ commands → ((bytes : List ℕ) → files Work file ≡ Some bytes → AsksMain options (main_file (own_name file) (text_blocks (own_name file) bytes)) root) → BeginsAs (output words files).status (output words files) (output scripted files)
