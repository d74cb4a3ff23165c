-- How learning and expansion pass on what stopped them.
use Rattle.std.specs.Prelude.{◌≡◌, Some, None, Result, Ok, Err}
use Rattle.ld_names.specs.Finding.{IsThere}
use Rattle.ld_names.specs.Standing.{Known, known_map}
use Rattle.ld_names.specs.declared.file.FileId.{FileId}
use Rattle.ld_colour.specs.declared.colour.Colour.{Colour}
use Rattle.ld_entry.specs.declared.entry.Fault.{Fault as LineFault}
use Rattle.ld_engine.specs.Asking.{IsAnswered}
use Rattle.ld_engine.specs.declared.asking.Answer.{Answer}
use Rattle.ld_engine.specs.declared.asking.AnswerError.{AnswerError}
use Rattle.ld_engine.specs.declared.asking.AnswerError.TheVariants.{Fault, ReadFault, TooBig, Full, NoRoot, Memory}
use Rattle.ld_engine.specs.declared.learning.LearnStop.{LearnStop}
use Rattle.ld_engine.specs.declared.learning.LearnStop.TheVariants as stop
use Rattle.ld_engine.specs.declared.limits.Limits.{Limits}

abbrev pub answer_stopped : LearnStop → AnswerError
answer_stopped stop.ReadFault = ReadFault
answer_stopped (stop.TooBig file) = TooBig file
answer_stopped (stop.Full over) = Full over
answer_stopped stop.Memory = Memory

abbrev pub answered_as : Result Answer LineFault → Result Answer AnswerError
answered_as (Ok answer) = Ok answer
answered_as (Err fault) = Err (Fault fault)

-- the answer for a root for which all is learnt; memory is lacking only where the root is there
abbrev pub AnswersKnown : Limits → FileId → Colour → Known → Result Answer AnswerError → Type 0
AnswersKnown limits root colour known (Ok answer) = IsAnswered limits root colour known (Ok answer)
AnswersKnown limits root colour known (Err (Fault fault)) = IsAnswered limits root colour known (Err fault)
AnswersKnown limits root colour known (Err NoRoot) = known_map known root ≡ Some None
AnswersKnown limits root colour known (Err ReadFault) = ⊥
AnswersKnown limits root colour known (Err (TooBig file)) = ⊥
AnswersKnown limits root colour known (Err (Full over)) = ⊥
AnswersKnown limits root colour known (Err Memory) = IsThere (known_map known) root
