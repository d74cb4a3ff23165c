-- What is left where commands are answered one after another.
use Rattle.std.specs.Prelude.{◌≡◌, ℕ, ◌<◌, List, ◌++◌, length, take, Option, Some, None, IfSome}
use Rattle.std.specs.List.{concat}
use Rattle.ld_io.specs.Shelf.{Files}
use Rattle.ld_cmd.specs.Ending.{EndsAs, Interruption, Reading, Writing, Room, TakesAll, TakesPart, interruption_of}
use Rattle.ld_cmd.specs.Written.{Output}
use Rattle.ld_cmd.specs.declared.status.Status.{Status}

-- fewer than all of the pieces are taken, each whole
abbrev pub TakesFewer : List (List ℕ) → List ℕ → Option (List ℕ) → Type 0
TakesFewer pieces before after = (n : ℕ) × (n < length pieces) × (after ≡ Some (before ++ concat (take n pieces)))

-- by what stopped the run, if anything did
abbrev pub TakesUpTo : Option Interruption → List (List ℕ) → List ℕ → Option (List ℕ) → Type 0
TakesUpTo None pieces before after = TakesAll pieces before after
TakesUpTo (Some Reading) pieces before after = TakesFewer pieces before after
TakesUpTo (Some Writing) pieces before after = TakesPart pieces before after
TakesUpTo (Some Room) pieces before after = TakesFewer pieces before after

-- what a run that comes to this output leaves, as far as files and bytes are told
abbrev pub Leaves : Option Files → (Files → Output) → Status → Option (List ℕ) → Option (List ℕ) → Type 0
Leaves files wanted status before after =
    IfSome files (λ all. EndsAs status (wanted all).status × IfSome before (λ old. TakesUpTo (interruption_of status) (wanted all).pieces old after))
