-- How a run ends where nothing is missing and no limit is reached.
use Rattle.std.proofs.Common.{◌≡◌, ◌≢◌, ◌∙◌, ℕ, List, [], ◌∷◌, length, Option, Some, None, Result, Ok, Err, ap, refl, cond, inl, inr, codes}
use Rattle.std.specs.Result.{IsErr}
use Rattle.std.proofs.Math.Dec.{eqb-suc-zero}
use Rattle.std.proofs.lemmas.Bool.{le-ltb}
use Rattle.ld_io.specs.Shelf.{Files}
use Rattle.ld_io.specs.declared.shelf.Place.TheVariants.{Work}
use Rattle.ld_names.specs.Standing.{Known}
use Rattle.ld_check.specs.declared.finding.Finding.{Finding}
use Rattle.ld_colour.specs.Table.{Counting}
use Rattle.ld_entry.specs.declared.entry.Fault.{Fault}
use Rattle.ld_engine.specs.declared.asking.Answer.{Answer}
use Rattle.ld_inline.specs.Text.{inlined_text}
use Rattle.ld_script.specs.Script.{commands_of}
use Rattle.ld_script.specs.declared.command.Command.{Command}
use Rattle.ld_words.specs.Words.{Options, Task, Show, Replay, Generate}
use Rattle.ld_cmd.specs.Generator.{generated}
use Rattle.ld_cmd.specs.Laws.{AreReplied, EndsByFaults, HasAll, HasFault, HasModel, IsEndOf, IsFaulty, IsFaultyFor, IsAllLearnt, IsLoaded, IsReplied, Names, main_answer, main_learnt}
use Rattle.ld_cmd.specs.Output.{answered_output, checked_output, file_bytes, form_output, found_output, input, inlined_output, model_output, output, own_name, replayed, shown_or_fault, task_output}
use Rattle.ld_cmd.specs.Playing.{Replied, Reply, Ends, Setting, followed, played, replied_to}
use Rattle.ld_cmd.specs.Written.{form_of}
use Rattle.ld_cmd.specs.declared.answer.Form.{Form}
use Rattle.ld_cmd.specs.declared.answer.Form.TheVariants.{Listed, Inlined}
use Rattle.ld_cmd.specs.declared.answer.Shown.TheVariants.{Summary}
use Rattle.ld_cmd.specs.declared.status.Status.TheVariants.{Done, Faulted}

pub input-there : (word : List ℕ) (files : Files) (bytes : List ℕ) → Names word files bytes → input word (files Work word) ≡ Ok bytes
input-there word files bytes is = ap (input word) is.0 ∙ small
  where
    small : input word (Some bytes) ≡ Ok bytes
    small = rw (le-ltb file_bytes (length bytes) is.1) refl

by-inlined : (text : Result (List ℕ) ℕ) → IsEndOf (IsErr text) (inlined_output text).status
by-inlined (Ok text) = inl (refl, λ is. cc)
by-inlined (Err code) = inr (refl, refl)

by-answer : (answer : Result Answer Fault) (what : Form) (table : Counting) (known : Known) → IsEndOf (IsFaulty answer what table) (shown_or_fault (answered_output what table) known answer).status
by-answer (Err fault) what table known = inr (refl, tt)
by-answer (Ok answer) (Listed what) table known = inl (refl, λ is. is)
by-answer (Ok answer) Inlined table known = by-inlined (inlined_text answer.entries answer.steps table)

by-findings : (findings : List Finding) → IsEndOf (findings ≢ []) (found_output findings).status
by-findings [] = inl (refl, λ some. some refl)
by-findings (finding ∷ findings) = inr (ap (λ is_none. cond is_none Done Faulted) (eqb-suc-zero (length findings)), λ is. cc)

module _ (options : Options) (files : Files) (own bytes : List ℕ) (loaded : IsLoaded options files own bytes) where
  model-ends : (what : Form) → (main_learnt options files own bytes loaded.known).stop ≡ None → IsEndOf (IsFaulty (main_answer options files own bytes loaded.known) what loaded.table) (model_output (answered_output what loaded.table) options files own bytes).status
  unfolding model_output
  model-ends what learnt = rw loaded.loads (rw learnt (by-answer (main_answer options files own bytes loaded.known) what loaded.table (main_learnt options files own bytes loaded.known).known))

  check-ends : IsEndOf (IsFaultyFor None options files own bytes loaded) (checked_output options own bytes).status
  unfolding checked_output
  check-ends = rw loaded.loads (by-findings _)

-- each command has its reply
played-done : (setting : Setting) (files : Files) (known : Known) (commands : List Command) → AreReplied setting files known commands → (played setting files known commands).status ≡ Done
unfolding played
played-done setting files known [] are = refl
played-done setting files known (command ∷ commands) are = by-step (replied_to setting files known command) (λ after more. played-done setting files after commands more) are
  where
    by-step : (step : Replied) → ((after : Known) → AreReplied setting files after commands → (played setting files after commands).status ≡ Done) → IsReplied step (λ after. AreReplied setting files after commands) → (followed step (λ after. played setting files after commands)).status ≡ Done
    by-step (Reply piece after) further more = further after more
    by-step (Ends line) further more = absurd more

form-ends : (what : Option Form) (file : List ℕ) (options : Options) (files : Files) (model : HasModel file options files) → IsAllLearnt what (main_learnt options files (own_name file) model.bytes model.loaded.known).stop → IsEndOf (IsFaultyFor what options files (own_name file) model.bytes model.loaded) (form_output what file options files).status
form-ends (Some what) file options files model learnt = rw (input-there file files model.bytes model.named) (rw model.loaded.coloured (model-ends options files (own_name file) model.bytes model.loaded what learnt))
form-ends None file options files model learnt = rw (input-there file files model.bytes model.named) (rw model.loaded.coloured (check-ends options files (own_name file) model.bytes model.loaded))

task-ends : (task : Task) (options : Options) (files : Files) (has : HasAll task options files) → IsEndOf (HasFault task options files has) (task_output task options files).status
unfolding replayed
task-ends (Show what file) options files has = form-ends (form_of what) file options files has.0 has.1
task-ends (Replay file script) options files has =
    rw (input-there file files has.0.bytes has.0.named) (rw (input-there script files has.1.lines has.1.named) (rw has.0.loaded.coloured (rw has.0.loaded.loads
    (inl (played-done _ files has.0.loaded.known (commands_of has.1.lines) has.1.replied, λ is. is)))))
task-ends (Generate count) options files has = rw has.0.coloured (model-ends options files (codes "gen.mpd") (generated count) has.0 (Listed Summary) has.1)

pub ends-by-faults : EndsByFaults
unfolding output
ends-by-faults words intent files is has = rw is (task-ends intent.task intent.options files has)
