-- What a run writes and how it ends (this project's own).
use Rattle.std.specs.Prelude.{ℕ, Bool, nat_lt, List, [], ◌∷◌, ◌++◌, length, Option, Some, None, Result, Ok, Err, codes, decimal, if◌then◌else◌, ◌==◌, ◌||◌}
use Rattle.std.specs.List.{list_any}
use Rattle.ld_io.specs.Shelf.{Files}
use Rattle.ld_io.specs.declared.shelf.Place.TheVariants.{Work}
use Rattle.ld_names.specs.Normal.{normal_of}
use Rattle.ld_names.specs.Standing.{Known, file_in}
use Rattle.ld_names.specs.declared.file.Folder.TheVariants.{Model}
use Rattle.ld_names.specs.declared.file.FileId.{FileId}
use Rattle.ld_names.specs.declared.name.NameError.{NameError}
use Rattle.ld_mpd.specs.Blocks.{text_blocks, text_of}
use Rattle.ld_check.specs.Findings.{findings_of}
use Rattle.ld_check.specs.declared.finding.Finding.{Finding}
use Rattle.ld_inline.specs.Text.{inlined_text}
use Rattle.ld_report.specs.Findings.{findings_text}
use Rattle.ld_texts.specs.declared.change.Over.{Over}
use Rattle.ld_colour.specs.Colour.{colour_of}
use Rattle.ld_colour.specs.Table.{Counting, table_in}
use Rattle.ld_engine.specs.Learning.{Stop, learning}
use Rattle.ld_engine.specs.Loading.{Blocks, load}
use Rattle.ld_engine.specs.declared.asking.Answer.{Answer}
use Rattle.ld_entry.specs.declared.entry.Fault.{Fault}
use Rattle.ld_engine.specs.declared.limits.Limits.{Limits}
use Rattle.ld_report.specs.Entries.{fault_text}
use Rattle.ld_words.specs.Words.{Intent, Options, Task, Show, Replay, Generate, intent_of, usage_line}
use Rattle.ld_cmd.specs.Generator.{generated}
use Rattle.ld_cmd.specs.declared.answer.Form.{Form}
use Rattle.ld_cmd.specs.declared.answer.Form.TheVariants.{Listed, Inlined}
use Rattle.ld_cmd.specs.declared.answer.Shown.TheVariants.{Summary}
use Rattle.ld_cmd.specs.declared.status.Status.TheVariants as status
use Rattle.ld_script.specs.Script.{commands_of}
use Rattle.ld_script.specs.declared.command.Command.{Command}
use Rattle.ld_cmd.specs.Playing.{Setting, played}
use Rattle.ld_cmd.specs.Written.{Output, and_then, form_of, one_piece, over_text, shown_text, stop_text}
use Rattle.ld_cmd.specs.Querying.{answer_at}

-- ---- 1. Words that are no command.

abbrev pub usage : Output
usage = one_piece usage_line status.Usage

-- ---- 2. Files that the words name.

-- the most bytes that a file may have
abbrev pub file_bytes : ℕ
file_bytes = 33554432

-- the bytes of a file by its word
abbrev pub input : List ℕ → Option (List ℕ) → Result (List ℕ) Output
input word None = Err (one_piece (codes "absent " ++ word ++ codes "\n") status.Input)
input word (Some bytes) =
    if nat_lt file_bytes (length bytes) then Err (one_piece (codes "toobig " ++ word ++ codes "\n") status.Limit) else Ok bytes

-- ---- 3. The colour file.

abbrev pub table_by : Result Counting ℕ → Result Counting Output
table_by (Ok table) = Ok table
table_by (Err number) = Err (one_piece (codes "badcolour " ++ decimal number ++ codes "\n") status.Input)

abbrev pub table_from : Result (List ℕ) Output → Result Counting Output
table_from (Ok bytes) = table_by (table_in bytes)
table_from (Err output) = Err output

-- the colours of the file that an option names, if it does
abbrev pub table_of : Option (List ℕ) → Files → Result Counting Output
table_of None files = Ok (λ code. None)
table_of (Some word) files = table_from (input word (files Work word))

-- ---- 4. The model.

-- `/` or `\`
abbrev pub is_slash : ℕ → Bool
is_slash byte = byte == 47 || byte == 92

-- what stands after the last slash, or all where there is none
abbrev pub after_slash : List ℕ → List ℕ
after_slash [] = []
after_slash (byte ∷ bytes) = if list_any is_slash bytes then after_slash bytes else if is_slash byte then bytes else byte ∷ bytes

-- a name, or the one for a word without
abbrev pub name_or_default : Result (List ℕ) NameError → List ℕ
name_or_default (Ok name) = name
name_or_default (Err e) = codes "model.ldr"

-- the main model's own name, by the word that names its file
abbrev pub own_name : List ℕ → List ℕ
own_name word = name_or_default (normal_of (after_slash word))

-- how much may be known and shown
abbrev pub limits_of : Options → Limits
limits_of options =
    record { entries = options.max_entries; depth = options.max_depth; cache = options.cache; texts = 65535; file_bytes = file_bytes; total_weight = 268435456 }

-- the texts that are known once a model is loaded
abbrev pub loaded_by : Result Known Over → Result Known Output
loaded_by (Ok known) = Ok known
loaded_by (Err passed) = Err (one_piece (over_text passed) status.Limit)

-- the main model is the first text, and there always is one
abbrev pub main_file : List ℕ → Blocks → FileId
main_file own [] = file_in (Model 1) own
main_file own (text ∷ texts) = file_in (Model 1) text.0

-- ---- 5. Queries.

-- the inlined text, or the code of an edge colour without a value
abbrev pub inlined_output : Result (List ℕ) ℕ → Output
inlined_output (Ok text) = one_piece text status.Done
inlined_output (Err code) = one_piece (codes "nocolour " ++ decimal code ++ codes "\n") status.Faulted

-- the output of an answer, by the colours that are defined and the files that are known
abbrev pub answered_output : Form → Counting → Known → Answer → Output
answered_output (Listed what) table known answer = one_piece (shown_text what table known answer) status.Done
answered_output Inlined table known answer = inlined_output (inlined_text answer.entries answer.steps table)

-- an answer is shown, or the first fault
abbrev pub shown_or_fault : (Known → Answer → Output) → Known → Result Answer Fault → Output
shown_or_fault show known (Ok answer) = show known answer
shown_or_fault show known (Err fault) = one_piece (fault_text known fault) status.Faulted

-- once learning has ended: the main model is the first of the known texts
abbrev pub learnt_output : (Known → Answer → Output) → Options → Files → Known → Option Stop → Output
learnt_output show options files known (Some stop) = one_piece (stop_text stop) status.Limit
learnt_output show options files known None = shown_or_fault show known (answer_at (limits_of options) files (colour_of options.main) known 0)

-- the output of the query of a model's main model, once its texts are known
abbrev pub main_output : (Known → Answer → Output) → Options → Files → FileId → Known → Output
main_output show options files main known =
    let learnt = learning (limits_of options) files main known in learnt_output show options files learnt.known learnt.stop

-- the output of a model by its name and its bytes
unfoldable pub model_output : (Known → Answer → Output) → Options → Files → List ℕ → List ℕ → Output
model_output show options files own bytes =
    and_then (loaded_by (load (limits_of options) [] (text_blocks own bytes))) (main_output show options files (main_file own (text_blocks own bytes)))

-- the output of a command that shows a file
abbrev pub shown_output : Form → List ℕ → Options → Files → Output
shown_output what file options files =
    and_then (input file (files Work file)) (λ bytes. and_then (table_of options.colours files) (λ table. model_output (answered_output what table) options files (own_name file) bytes))

-- the output about a generated model
abbrev pub generated_output : ℕ → Options → Files → Output
generated_output count options files =
    and_then (table_of options.colours files) (λ table. model_output (answered_output (Listed Summary) table) options files (codes "gen.mpd") (generated count))

-- ---- 6. Findings.

abbrev pub found_output : List Finding → Output
found_output findings = one_piece (findings_text findings) (if length findings == 0 then status.Done else status.Faulted)

-- what is found in the main model's text, by the model's name and its bytes
unfoldable pub checked_output : Options → List ℕ → List ℕ → Output
checked_output options own bytes =
    and_then (loaded_by (load (limits_of options) [] (text_blocks own bytes))) (λ known. found_output (findings_of (main_file own (text_blocks own bytes)) (text_of own bytes)))

-- the output of the command that checks a file
abbrev pub check_output : List ℕ → Options → Files → Output
check_output file options files =
    and_then (input file (files Work file)) (λ bytes. and_then (table_of options.colours files) (λ table. checked_output options (own_name file) bytes))

-- ---- 7. Scripts.

-- what stays the same while a script is answered
abbrev pub setting_of : Options → Counting → FileId → Setting
setting_of options table main = record { limits = limits_of options; table = table; main = main; colour = options.main }

-- the output of a script over a model, once its texts are known
abbrev pub main_replayed : Options → Counting → List Command → Files → FileId → Known → Output
main_replayed options table commands files main known = played (setting_of options table main) files known commands

-- over a model by its name and its bytes
unfoldable pub replayed : Options → Counting → List Command → Files → List ℕ → List ℕ → Output
replayed options table commands files own bytes =
    and_then (loaded_by (load (limits_of options) [] (text_blocks own bytes))) (main_replayed options table commands files (main_file own (text_blocks own bytes)))

-- the output of the command that answers a script over a file
abbrev pub replay_output : List ℕ → List ℕ → Options → Files → Output
replay_output file script options files =
    and_then (input file (files Work file)) (λ bytes. and_then (input script (files Work script)) (λ lines. and_then (table_of options.colours files) (λ table. replayed options table (commands_of lines) files (own_name file) bytes)))

-- ---- The whole.

-- of an answer in this form, or what is found
abbrev pub form_output : Option Form → List ℕ → Options → Files → Output
form_output (Some what) file options files = shown_output what file options files
form_output None file options files = check_output file options files

abbrev pub task_output : Task → Options → Files → Output
task_output (Show what file) options files = form_output (form_of what) file options files
task_output (Replay file script) options files = replay_output file script options files
task_output (Generate count) options files = generated_output count options files

abbrev pub commanded : Option Intent → Files → Output
commanded None files = usage
commanded (Some intent) files = task_output intent.task intent.options files

-- what words give over the files of a shelf
unfoldable pub output : List (List ℕ) → Files → Output
output words files = commanded (intent_of words) files
