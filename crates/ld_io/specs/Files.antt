-- The files of a shelf in memory, as a list with the newest first.
use Rattle.std.specs.Prelude.{ℕ, ◌<◌, List, [], ◌∷◌, length, Bool, ◌&&◌, ◌==◌, if◌then◌else◌, Option, Some, None, IsSomeAnd, bytes_eq}
use Rattle.ld_io.specs.declared.shelf.Place.{Place}
use Rattle.ld_io.specs.declared.shelf.Place.TheVariants.{Work, Model, Parts, P}

-- a file: its place, its name and its bytes
abbrev pub File : Type 0
File = Place × List ℕ × List ℕ

abbrev pub place_number : Place → ℕ
place_number Work = 0
place_number Model = 1
place_number Parts = 2
place_number P = 3

abbrev pub same_place : Place → Place → Bool
same_place a b = place_number a == place_number b

-- the bytes of the newest file at this place under this name
abbrev pub file_found : List File → Place → List ℕ → Option (List ℕ)
file_found [] place name = None
file_found (file ∷ files) place name =
    if same_place file.0 place && bytes_eq file.1 name
    then Some file.2
    else file_found files place name

-- there is a file, and it has bytes
abbrev pub HasBytes : Option (List ℕ) → Type 0
HasBytes file = IsSomeAnd file (λ bytes. 0 < length bytes)
