-- Where files lie, by the words and by the variable `LDRAWDIR` (this project's own).
use Rattle.std.specs.Prelude.{ℕ, List, [], ◌∷◌, length, ◌==◌, if◌then◌else◌, Option, Some, None, Result, Ok, Err, codes}
use Rattle.std.specs.Path.{rsplit_once, slash}
use Rattle.std.specs.declared.env.VarError.{VarError}
use Rattle.std.specs.declared.env.VarError.TheVariants.{NotPresent, NotUnicode, OutOfMemory}
use Rattle.ld_cmd.specs.declared.folders.Unusable.{Unusable}
use Rattle.ld_cmd.specs.declared.folders.Unusable.TheVariants.{NotText, Memory}

-- the folder of a file, by what stands before and behind the last `/`
abbrev pub folder_in : Option (List ℕ × List ℕ) → List ℕ
folder_in None = codes "."
folder_in (Some split) = if length split.0 == 0 then codes "/" else split.0

-- the folder of the model: that of the second word
abbrev pub model_folder : List (List ℕ) → List ℕ
model_folder [] = codes "."
model_folder (command ∷ []) = codes "."
model_folder (command ∷ file ∷ words) = folder_in (rsplit_once slash file)

-- the folder of the library, by what the variable says: `ldraw` where it is not set
abbrev pub library_folder : Result (List ℕ) VarError → Result (List ℕ) Unusable
library_folder (Ok folder) = Ok folder
library_folder (Err NotPresent) = Ok (codes "ldraw")
library_folder (Err NotUnicode) = Err NotText
library_folder (Err OutOfMemory) = Err Memory
