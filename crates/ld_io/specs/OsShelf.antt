-- What clauses see of the shelf of the system: where its files lie, and its faults.
use Rattle.std.specs.Prelude.{ℕ, List, ◌++◌, codes, ◌⊎◌, Contains, IsUtf8, Result, Ok, Err}
use Rattle.std.specs.declared.io.ErrorKind.{ErrorKind}
use Rattle.std.specs.declared.io.ErrorKind.TheVariants.{NotFound, NotADirectory, IsADirectory, InvalidFilename, OutOfMemory}
use Rattle.ld_io.specs.declared.shelf.Place.{Place}
use Rattle.ld_io.specs.declared.shelf.Place.TheVariants.{Work, Model, Parts, P}
use Rattle.ld_io.specs.declared.shelf.Fetched.{Fetched}
use Rattle.ld_io.specs.declared.shelf.Fetched.TheVariants.{Absent}
use Rattle.ld_io.specs.declared.shelf.FetchError.{FetchError}
use Rattle.ld_io.specs.declared.shelf.FetchError.TheVariants.{Failed, Memory}

pub record OsShelfValue : Type 0 where
  -- the folder of the library
  pub library : List ℕ
  -- the folder of the model
  pub model : List ℕ
  -- how many fetches failed
  pub faults : ℕ

-- no path ends in this name: it is no text, or has a zero byte
abbrev pub HasNoPath : List ℕ → Type 0
HasNoPath name = (¬ (IsUtf8 name)) ⊎ Contains name 0

-- the path of a name at a place, by the library's folder and the model's
abbrev pub path_of : List ℕ → List ℕ → Place → List ℕ → List ℕ
path_of library model Work name = name
path_of library model Model name = model ++ codes "/" ++ name
path_of library model Parts name = library ++ codes "/parts/" ++ name
path_of library model P name = library ++ codes "/p/" ++ name

-- what a fetch answers where the system stopped it: a path at which no file stands is no fault
abbrev pub stopped_by : ErrorKind → Result Fetched FetchError
stopped_by NotFound = Ok Absent
stopped_by NotADirectory = Ok Absent
stopped_by IsADirectory = Ok Absent
stopped_by InvalidFilename = Ok Absent
stopped_by OutOfMemory = Err Memory
stopped_by _ = Err Failed
