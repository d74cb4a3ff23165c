-- A query over the files of a shelf: what its root reaches is learnt, and then the texts as they stand answer it by
-- recursive expansion.
use Rattle.std.specs.Prelude.{◌≡◌, ℕ, List, Option, Some, None, Result, Ok, Err}
use Rattle.ld_io.specs.Shelf.{Files}
use Rattle.ld_names.specs.Standing.{Known, Text, known_map}
use Rattle.ld_names.specs.declared.file.FileId.{FileId}
use Rattle.ld_texts.specs.Known.{id_of}
use Rattle.ld_colour.specs.declared.colour.Colour.{Colour}
use Rattle.ld_entry.specs.NumberedTexts.{standing_texts}
use Rattle.ld_entry.specs.declared.entry.Fault.{Fault}
use Rattle.ld_engine.specs.Learning.{Learnt, Stop, TooBig, Full, learning, text_on}
use Rattle.ld_engine.specs.Loading.{BeginsWith}
use Rattle.ld_engine.specs.Stepping.{answer_with_steps}
use Rattle.ld_engine.specs.declared.asking.Answer.{Answer}
use Rattle.ld_engine.specs.declared.asking.AnswerError.{AnswerError}
use Rattle.ld_engine.specs.declared.asking.AnswerError.TheVariants as refused
use Rattle.ld_engine.specs.declared.limits.Limits.{Limits}

-- what a query comes to: what stops the learning, a root that is absent, the first fault, or all entries with
-- their steps
pub data Queried : Type 0 where
  Stopped : Stop → Queried
  NoRoot : Queried
  FirstFault : Fault → Queried
  Answered : Answer → Queried

abbrev pub queried_as : Result Answer Fault → Queried
queried_as (Ok answer) = Answered answer
queried_as (Err fault) = FirstFault fault

-- the answer of the texts as they stand to a root by its number
abbrev pub answer_at : Limits → Files → Colour → Known → ℕ → Result Answer Fault
answer_at limits files colour known id =
    answer_with_steps (standing_texts known (text_on files)) limits.depth limits.entries (record { 0 = id }) colour

-- by the text and the number that are known of the root
abbrev pub where_there : (ℕ → Queried) → Option Text → Option ℕ → Queried
where_there queried (Some (Some lines)) (Some id) = queried id
where_there queried text id = NoRoot

-- once learning has ended
abbrev pub queried_on : Limits → Files → FileId → Colour → Known → Option Stop → Queried
queried_on limits files root colour known (Some stop) = Stopped stop
queried_on limits files root colour known None =
    where_there (λ id. queried_as (answer_at limits files colour known id)) (known_map known root) (id_of known root)

abbrev pub queried : Limits → Files → FileId → Colour → Learnt → Queried
queried limits files root colour learnt = queried_on limits files root colour learnt.known learnt.stop

-- what a workspace's answer comes to; nothing where reading or memory stopped it
abbrev pub answer_queried : Result Answer AnswerError → Option Queried
answer_queried (Ok answer) = Some (Answered answer)
answer_queried (Err (refused.Fault fault)) = Some (FirstFault fault)
answer_queried (Err (refused.TooBig file)) = Some (Stopped (TooBig file))
answer_queried (Err (refused.Full over)) = Some (Stopped (Full over))
answer_queried (Err refused.NoRoot) = Some NoRoot
answer_queried (Err refused.ReadFault) = None
answer_queried (Err refused.Memory) = None

-- the file is the first that is known, and it is there
abbrev pub IsFirst : FileId → Known → Type 0
IsFirst file known = (lines : List (List ℕ)) × BeginsWith file lines known

-- what is known after a query, and what it comes to
pub record Queries (limits : Limits) (files : Files) (root : FileId) (colour : Colour) (old new : Known) (given : Queried) : Type 0 where
  pub known : (learning limits files root old).known ≡ new
  pub is : queried limits files root colour (learning limits files root old) ≡ given
