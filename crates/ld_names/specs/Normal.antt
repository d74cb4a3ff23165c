-- The normal form of file names, which is this project's own. File Format 1.0.2 ("Line Type 1") has blanks
-- around a name ignored, and writes `\` between folders.
use Rattle.std.specs.Prelude.{◌≡◌, ◌≢◌, ◌≤◌, ◌==◌, ◌&&◌, ◌||◌, ℕ, Bool, false, true, not, List, [], ◌∷◌, length, map, Result, Ok, Err, if◌then◌else◌, nat_lt, nat_le, bytes_eq, codes}
use Rattle.std.specs.Result.{IsOk}
use Rattle.std.specs.Char.{to_ascii_lowercase}
use Rattle.std.specs.List.{list_any, slice_split}
use Rattle.ld_names.specs.declared.name.NameError.{NameError}
use Rattle.ld_names.specs.declared.name.NameError.TheVariants.{Empty, TooLong, NotRelative, Control, Memory}

-- a space or a tab
abbrev pub is_blank : ℕ → Bool
is_blank byte = byte == 32 || byte == 9

-- the bytes without the blanks at their start
abbrev pub trim_start : List ℕ → List ℕ
trim_start [] = []
trim_start (byte ∷ bytes) = if is_blank byte then trim_start bytes else byte ∷ bytes

-- a byte before what is left of the bytes behind it: a blank goes where nothing is left
abbrev pub onto_trimmed : ℕ → List ℕ → List ℕ
onto_trimmed byte [] = if is_blank byte then [] else byte ∷ []
onto_trimmed byte (next ∷ bytes) = byte ∷ next ∷ bytes

-- the bytes without the blanks at their end
abbrev pub trim_end : List ℕ → List ℕ
trim_end [] = []
trim_end (byte ∷ bytes) = onto_trimmed byte (trim_end bytes)

-- the bytes without the blanks at both ends
abbrev pub trim : List ℕ → List ℕ
trim bytes = trim_end (trim_start bytes)

-- a byte as it stands in a name: `\` is `/`, and capitals of ASCII are lowered
abbrev pub lower : ℕ → ℕ
lower byte = if byte == 92 then 47 else to_ascii_lowercase byte

-- a letter and a colon, as `c:`
abbrev pub has_drive : List ℕ → Bool
has_drive (letter ∷ colon ∷ bytes) = nat_le 97 letter && nat_le letter 122 && colon == 58
has_drive bytes = false

-- an empty component, `.` or `..`
abbrev pub is_step : List ℕ → Bool
is_step part = length part == 0 || bytes_eq part (codes ".") || bytes_eq part (codes "..")

-- no drive, and no component between `/` that is empty, `.` or `..`
abbrev pub is_relative : List ℕ → Bool
is_relative name = not (has_drive name || list_any is_step (slice_split (λ byte. byte == 47) name))

-- a control character of ASCII
abbrev pub is_control : ℕ → Bool
is_control byte = nat_lt byte 32 || byte == 127

-- a name without blanks around it, in lower case: itself, or why it is no name
abbrev pub checked_name : List ℕ → Result (List ℕ) NameError
checked_name name = if length name == 0 then Err Empty else if nat_lt 255 (length name) then Err TooLong else if not (is_relative name) then Err NotRelative else if list_any is_control name then Err Control else Ok name

-- the normal form of a text, or why it has none
unfoldable pub normal_of : List ℕ → Result (List ℕ) NameError
normal_of text = checked_name (map lower (trim text))

-- what was answered is what is wanted; memory is lacking only where a name is wanted
abbrev pub GivesName : Result (List ℕ) NameError → Result (List ℕ) NameError → Type 0
GivesName (Err Memory) wanted = IsOk wanted
GivesName result wanted = result ≡ wanted

-- a name is 1 to 255 bytes without a control character, a blank at either end or a capital, and names its own components
pub record IsName (name : List ℕ) : Type 0 where
  pub some : name ≢ []
  pub short : length name ≤ 255
  pub relative : is_relative name ≡ true
  pub plain : list_any is_control name ≡ false
  pub start : trim_start name ≡ name
  pub end : trim_end name ≡ name
  pub lowered : map lower name ≡ name

-- the normal form of a text is its own, and such a text is a name
pub record AreNames : Type 0 where
  pub again : (text name : List ℕ) → normal_of text ≡ Ok name → normal_of name ≡ Ok name
  pub names : (name : List ℕ) → normal_of name ≡ Ok name → IsName name
