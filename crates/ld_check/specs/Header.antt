-- The first five lines of a part: Official Library Header Specification, "Description", "Name", "Author", "!LDRAW_ORG" and
-- "!LICENSE". That each stands at its own line is this project's own.
use Rattle.std.specs.Prelude.{ℕ, Bool, false, ◌==◌, ◌&&◌, not, List, [], ◌∷◌, Option, Some, None, Result, Ok, Err, is_some, unwrap_or, if◌then◌else◌, bytes_eq, codes}
use Rattle.std.specs.List.{last_or, slice_split}
use Rattle.ld_names.specs.Normal.{normal_of}
use Rattle.ld_names.specs.declared.file.FileId.{FileId}
use Rattle.ld_names.specs.declared.name.NameError.{NameError}
use Rattle.ld_line.specs.Field.{after_fields, fields}
use Rattle.ld_line.specs.declared.line.Line.{Line}
use Rattle.ld_line.specs.Part.{header_of}
use Rattle.ld_check.specs.Text.{numbered_line, passes, said}

-- `0` and a description
abbrev pub is_description : List (List ℕ) → Bool
is_description (type ∷ word ∷ more) = bytes_eq type (codes "0")
is_description fields = false

-- `0` and this word
abbrev pub begins_with : List ℕ → List (List ℕ) → Bool
begins_with key (type ∷ word ∷ more) = bytes_eq type (codes "0") && bytes_eq word key
begins_with key fields = false

-- `0`, this word and something behind it
abbrev pub has_value : List ℕ → List (List ℕ) → Bool
has_value key (type ∷ word ∷ value ∷ more) = bytes_eq type (codes "0") && bytes_eq word key
has_value key fields = false

abbrev pub normal_form : Result (List ℕ) NameError → Option (List ℕ)
normal_form (Ok name) = Some name
normal_form (Err e) = None

-- the normal form of the name behind `0 Name:`
abbrev pub stated_name : List ℕ → Option (List ℕ)
stated_name line = if begins_with (codes "Name:") (fields line) then normal_form (normal_of (after_fields 2 line)) else None

-- the last of the components between `/`
abbrev pub last_component : List ℕ → List ℕ
last_component name = unwrap_or (last_or None (slice_split (λ byte. byte == 47) name)) []

abbrev pub names_another : List ℕ → Option (List ℕ) → Bool
names_another own None = false
names_another own (Some name) = not (bytes_eq (last_component name) (last_component own))

-- an !LDRAW_ORG line that names the type of a part
abbrev pub is_part_type : Line → Bool
is_part_type line = unwrap_or (header_of line) false

-- the line at its place in the header does not have its layout
abbrev pub lacks : ℕ → (List ℕ → Bool) → List (List ℕ) → ℕ → Bool
lacks place layout lines number = number == place && not (passes layout (numbered_line lines number))

abbrev pub lacks_description : List (List ℕ) → ℕ → Bool
lacks_description lines number = lacks 1 (λ line. is_description (fields line)) lines number

abbrev pub lacks_name : List (List ℕ) → ℕ → Bool
lacks_name lines number = lacks 2 (λ line. is_some (stated_name line)) lines number

-- a name is stated, and it is not that of the file
abbrev pub is_misnamed : FileId → List (List ℕ) → ℕ → Bool
is_misnamed file lines number = number == 2 && passes (λ line. names_another file.name (stated_name line)) (numbered_line lines number)

abbrev pub lacks_author : List (List ℕ) → ℕ → Bool
lacks_author lines number = lacks 3 (λ line. has_value (codes "Author:") (fields line)) lines number

abbrev pub lacks_part_type : List (List ℕ) → ℕ → Bool
lacks_part_type lines number = lacks 4 (said is_part_type) lines number

abbrev pub lacks_license : List (List ℕ) → ℕ → Bool
lacks_license lines number = lacks 5 (λ line. has_value (codes "!LICENSE") (fields line)) lines number
