-- Every reply has bytes.
use Rattle.std.proofs.Common.{◌≡◌, ◌<◌, ◌++◌, ℕ, List, [], ◌∷◌, length, Option, Some, None, IfSome, codes, decimal, ap, refl, arith}
use Rattle.std.specs.List.{concat}
use Rattle.std.specs.Prelude.{⊤}
use Rattle.std.proofs.lemmas.List.{length-append}
use Rattle.ld_io.specs.Shelf.{Files}
use Rattle.ld_names.specs.Standing.{Known}
use Rattle.ld_texts.specs.Editing.{refusal_of}
use Rattle.ld_texts.specs.declared.change.Over.{Over}
use Rattle.ld_texts.specs.declared.change.Over.TheVariants as over
use Rattle.ld_texts.specs.declared.edit.Edit.{Edit}
use Rattle.ld_texts.specs.declared.edit.EditRefusal.{EditRefusal}
use Rattle.ld_texts.specs.declared.edit.EditRefusal.TheVariants.{BadLine, NoFile, FileThere, NoLine, Full as FullOf}
use Rattle.ld_colour.specs.Colour.{colour_of}
use Rattle.ld_colour.specs.Table.{Counting}
use Rattle.ld_engine.specs.Editing.{edit_learning}
use Rattle.ld_engine.specs.Learning.{Stop, TooBig, Full, learning}
use Rattle.ld_entry.specs.declared.entry.Fault.{Fault}
use Rattle.ld_engine.specs.declared.limits.Limits.{Limits}
use Rattle.ld_line.specs.Word.{spaced}
use Rattle.ld_report.specs.Entries.{fault_text, fault_words}
use Rattle.ld_report.specs.Pieces.{file_text}
use Rattle.ld_script.specs.declared.command.Command.{Command}
use Rattle.ld_script.specs.declared.command.Command.TheVariants as command
use Rattle.ld_cmd.specs.Playing.{Setting, Replied, Reply, Ends, edit_on, edit_reply, followed, played, query_reply, refusal_text, replied_to, root_colour, root_of, shown_by}
use Rattle.ld_cmd.specs.Querying.{Queried, Stopped, NoRoot, FirstFault, Answered, queried}
use Rattle.ld_cmd.specs.Written.{Output, over_text, shown_text, stop_text}
use Rattle.ld_cmd.specs.declared.answer.Shown.{Shown}

-- a text that ends with some byte
ends-some : (text : List ℕ) (last : ℕ) (more : List ℕ) → 0 < length (text ++ last ∷ more)
ends-some text last more = omega (arith, length-append text (last ∷ more))

over-some : (passed : Over) → 0 < length (over_text passed)
over-some (over.Files kept) = ends-some (codes "full files " ++ decimal kept) 10 []
over-some (over.Weight kept) = ends-some (codes "full weight " ++ decimal kept) 10 []

stop-some : (stop : Stop) → 0 < length (stop_text stop)
stop-some (TooBig file) = ends-some (codes "toobig " ++ file_text file) 10 []
stop-some (Full passed) = over-some passed

refusal-some : (refusal : EditRefusal) → 0 < length (refusal_text refusal)
refusal-some BadLine = omega arith
refusal-some NoFile = omega arith
refusal-some FileThere = omega arith
refusal-some (NoLine count) = ends-some (codes "refused noline " ++ decimal count) 10 []
refusal-some (FullOf kept) = omega arith

fault-some : (known : Known) (fault : Fault) → 0 < length (fault_text known fault)
unfolding fault_text
fault-some known fault = ends-some (spaced (fault_words known fault)) 10 []

-- the text of a step
abbrev HasBytes : Replied → Type 0
HasBytes (Reply piece known) = 0 < length piece
HasBytes (Ends line) = 0 < length line

edit-some : (known : Known) (edit : Edit) (refusal : Option EditRefusal) → HasBytes (edit_reply known edit refusal)
edit-some known edit None = omega arith
edit-some known edit (Some refusal) = refusal-some refusal

edited-some : (limits : Limits) (edit : Edit) (known : Known) (stop : Option Stop) → HasBytes (edit_on limits edit known stop)
edited-some limits edit known (Some stop) = stop-some stop
edited-some limits edit known None = edit-some known edit (refusal_of limits.total_weight known edit)

asked-some : (what : Shown) (table : Counting) (known : Known) (given : Queried) → HasBytes (query_reply what table known given)
asked-some what table known (Stopped stop) = stop-some stop
asked-some what table known NoRoot = omega arith
asked-some what table known (FirstFault fault) = fault-some known fault
asked-some what table known (Answered answer) = ends-some (shown_text what table known answer) 100 (codes "one\n")

step-some : (setting : Setting) (files : Files) (known : Known) (command : Command) → HasBytes (replied_to setting files known command)
step-some setting files known (command.Edit edit) = let learnt = edit_learning setting.limits files edit known in edited-some setting.limits edit learnt.known learnt.stop
step-some setting files known (command.Ask what root) =
    let learnt = learning setting.limits files (root_of setting root) known in
    asked-some (shown_by what) setting.table learnt.known (queried setting.limits files (root_of setting root) (colour_of (root_colour setting root)) learnt)
step-some setting files known (command.Bad number) = omega arith

followed-bytes : (step : Replied) (further : Known → Output) → HasBytes step → 0 < length (concat (followed step further).pieces)
followed-bytes (Reply piece known) further some = omega (arith, some, length-append piece (concat (further known).pieces))
followed-bytes (Ends line) further some = omega (arith, some, length-append line [])

played-bytes : (setting : Setting) (files : Files) (known : Known) (commands : List Command) → concat (played setting files known commands).pieces ≡ [] → commands ≡ []
unfolding played
played-bytes setting files known [] empty = refl
played-bytes setting files known (command ∷ commands) empty = absurd (omega (arith, ap length empty, followed-bytes (replied_to setting files known command) (λ after. played setting files after commands) (step-some setting files known command)))

-- where the replies have no byte there is no command
pub unput-played : {A : Type 0} (setting : Setting) (files : Option Files) (known : Known) (commands : List Command) (old new : A) → (commands ≡ [] → new ≡ old) → IfSome files (λ all. concat (played setting all known commands).pieces ≡ [] → new ≡ old)
unput-played setting None known commands old new stays = tt
unput-played setting (Some files) known commands old new stays = λ empty. stays (played-bytes setting files known commands empty)
