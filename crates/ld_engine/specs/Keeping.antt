-- What keeping and learning one file, and then all that is wanted, leave.
use Rattle.std.specs.Prelude.{◌≡◌, ◌++◌, ◌<◌, ℕ, [], ◌∷◌, length, Some, None, IsSome, Result, Ok, Err, ⊤}
use Rattle.ld_io.specs.Shelf.{Files}
use Rattle.ld_names.specs.Standing.{Known, Text}
use Rattle.ld_names.specs.declared.file.FileId.{FileId}
use Rattle.ld_names.specs.declared.file.TextId.{TextId}
use Rattle.ld_texts.specs.Known.{id_of, weight_of}
use Rattle.ld_texts.specs.Learning.{limit_passed}
use Rattle.ld_texts.specs.Reach.{wanted}
use Rattle.ld_texts.specs.declared.change.LearnError.{LearnError}
use Rattle.ld_texts.specs.declared.change.LearnError.TheVariants.{Full as Refused, Memory as NoMemory}
use Rattle.ld_texts.specs.declared.change.Over.{Over}
use Rattle.ld_texts.specs.declared.change.Over.TheVariants.{Files as TooMany, Weight}
use Rattle.ld_engine.specs.Learning.{TooBig as BigFile, Full as Passed, Wanting, learning_by, learnt, stopped}
use Rattle.ld_engine.specs.declared.fetching.FetchStop.{FetchStop}
use Rattle.ld_engine.specs.declared.fetching.FetchStop.TheVariants as fetch
use Rattle.ld_engine.specs.declared.learning.LearnStop.{LearnStop}
use Rattle.ld_engine.specs.declared.learning.LearnStop.TheVariants.{ReadFault, TooBig, Full, Memory}
use Rattle.ld_engine.specs.declared.limits.Limits.{Limits}

-- the file is known with this text, behind the others, and has this number
pub record IsKept (old new : Known) (file : FileId) (text : Text) (id : ℕ) : Type 0 where
  pub known : new ≡ old ++ (file, text) ∷ []
  pub number : id_of new file ≡ Some id

-- kept where no limit is passed; else nothing changes
abbrev pub Keeps : Limits → Known → Known → FileId → Text → Result TextId LearnStop → Type 0
Keeps limits old new file text (Ok id) = IsKept old new file text id.0 × (limit_passed limits.texts limits.total_weight old text ≡ None)
Keeps limits old new file text (Err (Full over)) = (new ≡ old) × (limit_passed limits.texts limits.total_weight old text ≡ Some over)
Keeps limits old new file text (Err Memory) = new ≡ old
Keeps limits old new file text (Err ReadFault) = ⊥
Keeps limits old new file text (Err (TooBig big)) = ⊥

-- what a refusal to keep a file means
abbrev pub refused_by : LearnError → LearnStop
refused_by (Refused over) = Full over
refused_by NoMemory = Memory

-- what a failed fetch of a file means
abbrev pub stopped_at : FileId → FetchStop → LearnStop
stopped_at file fetch.ReadFault = ReadFault
stopped_at file fetch.TooBig = TooBig file
stopped_at file fetch.Memory = Memory

-- a file is learnt, with some text; or nothing changes
abbrev pub LearnsFile : Known → Known → FileId → Result TextId LearnStop → Type 0
LearnsFile old new file (Ok id) = (text : Text) × IsKept old new file text id.0
LearnsFile old new file (Err stop) = new ≡ old

-- the limit that stops is passed by a further file
abbrev pub IsLimit : Limits → Known → Over → Type 0
IsLimit limits known (TooMany count) = (count ≡ length known) × (count ≡ limits.texts)
IsLimit limits known (Weight weight) = (weight ≡ weight_of known) × (length known < limits.texts)

-- Why a file is not learnt. Where there may be no file more, it is that.
abbrev pub StopsAt : Limits → Known → FileId → LearnStop → Type 0
StopsAt limits known file ReadFault = length known < limits.texts
StopsAt limits known file (TooBig big) = (big ≡ file) × (length known < limits.texts)
StopsAt limits known file (Full over) = IsLimit limits known over
StopsAt limits known file Memory = ⊤

-- Learning, by the files of a shelf, comes to what it comes to from here on; or it stops here.
abbrev pub Tells : Limits → Files → Wanting → Known → Known → Result TextId LearnStop → Type 0
Tells limits files wants old new (Ok id) = learning_by limits files wants old ≡ learning_by limits files wants new
Tells limits files wants old new (Err (TooBig file)) = learning_by limits files wants old ≡ stopped new (BigFile file)
Tells limits files wants old new (Err (Full over)) = learning_by limits files wants old ≡ stopped new (Passed over)
Tells limits files wants old new (Err ReadFault) = learning_by limits files wants old ≡ learning_by limits files wants new
Tells limits files wants old new (Err Memory) = learning_by limits files wants old ≡ learning_by limits files wants new

-- a file is still wanted, and it is the one at which learning stopped
abbrev pub StopsFor : Limits → Wanting → Known → LearnStop → Type 0
StopsFor limits wants known ReadFault = IsSome (wants known) × (length known < limits.texts)
StopsFor limits wants known (TooBig file) = (wants known ≡ Some file) × (length known < limits.texts)
StopsFor limits wants known (Full over) = IsSome (wants known) × IsLimit limits known over
StopsFor limits wants known Memory = ⊤

-- all that the root wants is learnt, and the root has this number
pub record IsLearntFor (root : FileId) (known : Known) (id : ℕ) : Type 0 where
  pub number : id_of known root ≡ Some id
  pub nothing_wanted : wanted known root ≡ None

-- what learning tells of the files of a shelf: it has ended, or where it stopped
abbrev pub ToldFor : {A : Type 0} → Limits → Files → Wanting → Known → Known → Result A LearnStop → Type 0
ToldFor limits files wants old new (Ok done) = learning_by limits files wants old ≡ learnt new
ToldFor limits files wants old new (Err (TooBig file)) = learning_by limits files wants old ≡ stopped new (BigFile file)
ToldFor limits files wants old new (Err (Full over)) = learning_by limits files wants old ≡ stopped new (Passed over)
ToldFor limits files wants old new (Err ReadFault) = learning_by limits files wants old ≡ learning_by limits files wants new
ToldFor limits files wants old new (Err Memory) = learning_by limits files wants old ≡ learning_by limits files wants new
