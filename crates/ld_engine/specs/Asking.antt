-- What a workspace answers to a query: recursive expansion of the texts that it knows once all that the root wants is
-- learnt, or what stopped the learning.
use Rattle.std.specs.Prelude.{◌≡◌, ◌<◌, length, ℕ, Some, None, IsSome, Result, Ok, Err, ⊤}
use Rattle.ld_io.specs.Shelf.{Files}
use Rattle.ld_names.specs.Finding.{IsThere}
use Rattle.ld_names.specs.Standing.{Known, known_map}
use Rattle.ld_names.specs.declared.file.FileId.{FileId}
use Rattle.ld_texts.specs.Known.{id_of}
use Rattle.ld_texts.specs.Reach.{wanted}
use Rattle.ld_colour.specs.declared.colour.Colour.{Colour}
use Rattle.ld_entry.specs.NumberedTexts.{known_texts}
use Rattle.ld_entry.specs.declared.entry.Fault.{Fault as LineFault}
use Rattle.ld_engine.specs.Keeping.{IsLimit}
use Rattle.ld_engine.specs.Stepping.{answer_with_steps}
use Rattle.ld_engine.specs.Learning.{TooBig as BigFile, Full as Passed, learning, learnt, stopped}
use Rattle.ld_engine.specs.declared.asking.Answer.{Answer}
use Rattle.ld_engine.specs.declared.asking.AnswerError.{AnswerError}
use Rattle.ld_engine.specs.declared.asking.AnswerError.TheVariants.{Fault, ReadFault, TooBig, Full, NoRoot, Memory}
use Rattle.ld_engine.specs.declared.limits.Limits.{Limits}

-- nothing is wanted for the root, which is there, and recursive expansion of the known texts gives this
pub record IsAnswered (limits : Limits) (root : FileId) (colour : Colour) (known : Known) (given : Result Answer LineFault) : Type 0 where
  pub nothing_wanted : wanted known root ≡ None
  pub there : IsThere (known_map known) root
  pub id : ℕ
  pub number : id_of known root ≡ Some id
  pub answer : answer_with_steps (known_texts known) limits.depth limits.entries (record { 0 = id }) colour ≡ given

-- what was answered, by what is known then
abbrev pub Answers : Limits → FileId → Colour → Known → Result Answer AnswerError → Type 0
Answers limits root colour known (Ok answer) = IsAnswered limits root colour known (Ok answer)
Answers limits root colour known (Err (Fault fault)) = IsAnswered limits root colour known (Err fault)
Answers limits root colour known (Err NoRoot) = (wanted known root ≡ None) × (known_map known root ≡ Some None)
Answers limits root colour known (Err ReadFault) = IsSome (wanted known root) × (length known < limits.texts)
Answers limits root colour known (Err (TooBig file)) = (wanted known root ≡ Some file) × (length known < limits.texts)
Answers limits root colour known (Err (Full over)) = IsSome (wanted known root) × IsLimit limits known over
Answers limits root colour known (Err Memory) = ⊤

-- By the files of a shelf, what learning for the root comes to, from what was known; where a read failed or memory was
-- lacking, it still comes to that from what is known now.
abbrev pub AnswersTold : Limits → Files → FileId → Known → Known → Result Answer AnswerError → Type 0
AnswersTold limits files root old new (Ok answer) = learning limits files root old ≡ learnt new
AnswersTold limits files root old new (Err (Fault fault)) = learning limits files root old ≡ learnt new
AnswersTold limits files root old new (Err NoRoot) = learning limits files root old ≡ learnt new
AnswersTold limits files root old new (Err (TooBig file)) = learning limits files root old ≡ stopped new (BigFile file)
AnswersTold limits files root old new (Err (Full over)) = learning limits files root old ≡ stopped new (Passed over)
AnswersTold limits files root old new (Err ReadFault) = learning limits files root old ≡ learning limits files root new
AnswersTold limits files root old new (Err Memory) = learning limits files root old ≡ learning limits files root new
