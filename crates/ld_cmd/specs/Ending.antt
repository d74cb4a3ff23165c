-- How a run may end: its status, and what its sink has taken then.
use Rattle.std.specs.Prelude.{◌≡◌, ◌≢◌, ℕ, ◌-◌, ◌<◌, ◌≤◌, List, ◌++◌, length, take, Option, Some, None, ◌⊎◌, ⊤}
use Rattle.std.specs.List.{concat}
use Rattle.ld_cmd.specs.declared.status.Status.{Status}
use Rattle.ld_cmd.specs.declared.status.Status.TheVariants.{Done, Faulted, Usage, Input, ReadFault, WriteFault, Memory, Limit}
use Rattle.ld_cmd.specs.Written.{Output}
use Rattle.ld_words.specs.Words.{Intent, Task, Show, Replay, Generate}

-- what stops a run before its end
pub data Interruption : Type 0 where
  Reading : Interruption
  Writing : Interruption
  Room : Interruption

-- what stopped a run of this status, if anything did
abbrev pub interruption_of : Status → Option Interruption
interruption_of Done = None
interruption_of Faulted = None
interruption_of Usage = None
interruption_of Input = None
interruption_of ReadFault = Some Reading
interruption_of WriteFault = Some Writing
interruption_of Memory = Some Room
interruption_of Limit = None

-- nothing stopped the run
abbrev pub IsWhole : Status → Type 0
IsWhole status = interruption_of status ≡ None

-- the status is this one, unless something stopped the run
abbrev pub EndsAs : Status → Status → Type 0
EndsAs status wanted = IsWhole status → status ≡ wanted

-- a sink that had taken `before` has taken some of the pieces, each whole: of one piece none, of more all but the last at most
abbrev pub TakesSome : List (List ℕ) → List ℕ → Option (List ℕ) → Type 0
TakesSome pieces before after = (n : ℕ) × (n ≤ length pieces - 1) × (after ≡ Some (before ++ concat (take n pieces)))

-- it has taken a proper prefix of their bytes
abbrev pub TakesPart : List (List ℕ) → List ℕ → Option (List ℕ) → Type 0
TakesPart pieces before after = (n : ℕ) × (n < length (concat pieces)) × (after ≡ Some (before ++ take n (concat pieces)))

-- it has taken them all
abbrev pub TakesAll : List (List ℕ) → List ℕ → Option (List ℕ) → Type 0
TakesAll pieces before after = after ≡ Some (before ++ concat pieces)

abbrev pub TakesAfter : Option Interruption → List (List ℕ) → List ℕ → Option (List ℕ) → Type 0
TakesAfter None pieces before after = TakesAll pieces before after
TakesAfter (Some Reading) pieces before after = TakesSome pieces before after
TakesAfter (Some Writing) pieces before after = TakesPart pieces before after
TakesAfter (Some Room) pieces before after = TakesSome pieces before after

-- what a sink has taken of the pieces after a run of this status
abbrev pub Takes : Status → List (List ℕ) → List ℕ → Option (List ℕ) → Type 0
Takes status pieces before after = TakesAfter (interruption_of status) pieces before after

-- all was taken under the output's status, or memory was lacking
abbrev pub IsComplete : Status → Output → List ℕ → Option (List ℕ) → Type 0
IsComplete status wanted before after =
    ((status ≡ wanted.status) × TakesAll wanted.pieces before after) ⊎ ((status ≡ Memory) × TakesSome wanted.pieces before after)

abbrev pub StopsPut : Option Interruption → Type 0
StopsPut None = ⊥
StopsPut (Some Reading) = ⊥
StopsPut (Some Writing) = ⊤
StopsPut (Some Room) = ⊤

-- the status of a run that was stopped as it put a piece
abbrev pub IsStoppedPut : Status → Type 0
IsStoppedPut status = StopsPut (interruption_of status)

-- what was taken before stands in front
abbrev pub StandsInFront : List ℕ → Option (List ℕ) → Type 0
StandsInFront before after = (more : List ℕ) × (after ≡ Some (before ++ more))

abbrev pub NothingAfter : Option Interruption → List ℕ → Option (List ℕ) → Type 0
NothingAfter None before after = ⊤
NothingAfter (Some Reading) before after = after ≡ Some before
NothingAfter (Some Writing) before after = ⊤
NothingAfter (Some Room) before after = after ≡ Some before

-- all is put in one piece: only a script's replies are not
abbrev pub PutsOnceFor : Task → Type 0
PutsOnceFor (Show what file) = ⊤
PutsOnceFor (Replay file script) = ⊥
PutsOnceFor (Generate count) = ⊤

abbrev pub PutsOnce : Option Intent → Type 0
PutsOnce None = ⊤
PutsOnce (Some intent) = PutsOnceFor intent.task

-- nothing is taken where reading or memory stopped the run
abbrev pub TakesNothing : Status → List ℕ → Option (List ℕ) → Type 0
TakesNothing status before after = NothingAfter (interruption_of status) before after

-- where no command is named the status is Usage, unless writing or memory stopped the run; elsewhere it is not
abbrev pub UsageIsExact : Option Intent → Status → Type 0
UsageIsExact None status = EndsAs status Usage × (status ≢ ReadFault)
UsageIsExact (Some intent) status = status ≢ Usage

-- the exit status of the program
abbrev pub exit_code : Status → ℕ
exit_code Done = 0
exit_code Faulted = 1
exit_code Usage = 2
exit_code Input = 3
exit_code ReadFault = 4
exit_code WriteFault = 5
exit_code Memory = 6
exit_code Limit = 7
