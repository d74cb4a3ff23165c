-- How far a root's references are gone through, and what is left of the going.
use Rattle.std.specs.Prelude.{◌≡◌, ◌++◌, ◌-◌, ◌<◌, ◌==◌, ◌&&◌, ◌||◌, Bool, false, ℕ, suc, List, [], ◌∷◌, length, drop, slice_get, true, nat_eq, Option, Some, None}
use Rattle.std.specs.List.{list_any}
use Rattle.ld_names.specs.Normal.{is_blank}
use Rattle.ld_names.specs.Standing.{Known, Text, find, known_map}
use Rattle.ld_names.specs.declared.file.FileId.{FileId}
use Rattle.ld_names.specs.declared.file.Folder.{Folder}
use Rattle.ld_texts.specs.Known.{file_at, id_of, lines_at}
use Rattle.ld_texts.specs.Reach.{Reached, Wants, Reaches, going_on, lines_in, line_reaches, lines_reach, reached_by, texts_reach}
use Rattle.ld_line.specs.Reading.{line_of}

-- the numbers of the texts reached; the place among them of the text that is gone through, and how many of its lines
-- are done
pub record Passed : Type 0 where
  pub texts : List ℕ
  pub place : ℕ
  pub lines : ℕ

abbrev pub begun : ℕ → Passed
begun root = record { texts = root ∷ []; place = 0; lines = 0 }

-- with the lines of a known file that are left
abbrev pub file_left : Known → List ℕ → ℕ → Option FileId → Text → Reached
file_left known texts lines None text = Reaches texts
file_left known texts lines (Some file) text = lines_reach known file.folder texts (drop lines (lines_in text))

-- the lines of the text at a number that are left
abbrev pub file_rest : ℕ → Known → Passed → Reached
file_rest id known passed = file_left known passed.texts passed.lines (file_at known id) (lines_at known id)

-- what is left of the going over known files
abbrev pub left : Known → Passed → Reached
left known passed =
    elim (slice_get passed.texts passed.place) [ None ↦ Reaches passed.texts | Some id ↦ going_on (texts_reach (length known - suc passed.place) known (suc passed.place)) (file_rest id known passed) ]

-- the texts reached are known
abbrev pub IsInside : Known → List ℕ → Type 0
IsInside known texts = (id : ℕ) → list_any (nat_eq id) texts ≡ true → id < length known

-- further texts stand behind those of before
abbrev pub Grows : List ℕ → List ℕ → Type 0
Grows old new = (more : List ℕ) × (new ≡ old ++ more)

-- What a step of the going gives: it comes to these texts, whatever becomes known; or a file is wanted that is not
-- known, and the texts are as before.
abbrev pub Steps : Known → (Known → Reached) → List ℕ → List ℕ → Option FileId → Type 0
Steps known step old new None = (more : Known) → step (known ++ more) ≡ Reaches new
Steps known step old new (Some file) = (step known ≡ Wants file) × (new ≡ old) × (id_of known file ≡ None)

-- a name in a file of a folder
abbrev pub name_step : Folder → List ℕ → List ℕ → Known → Reached
name_step from name texts known = reached_by known texts name (find (known_map known) from name)

-- a line
abbrev pub line_step : Folder → List ℕ → List ℕ → Known → Reached
line_step from line texts known = line_reaches known from texts (line_of line)

-- the lines that are left: they come to these texts, whatever becomes known; or a line is come to that wants a file
abbrev pub Goes : (Known → Passed → Reached) → Known → Passed → Passed → Option FileId → Type 0
Goes rest known old new None = (more : Known) → rest (known ++ more) old ≡ Reaches new.texts
Goes rest known old new (Some file) =
    ((more : Known) → rest (known ++ more) old ≡ rest (known ++ more) new) × (rest known new ≡ Wants file) × (id_of known file ≡ None)

-- the first field of a line of type 2 to 5
abbrev pub is_drawn_type : List ℕ → Bool
is_drawn_type [] = false
is_drawn_type (byte ∷ []) = byte == 50 || byte == 51 || byte == 52 || byte == 53
is_drawn_type (byte ∷ more ∷ bytes) = false

-- such a field stands first, and a blank behind it
abbrev pub begins_drawn : List ℕ → Bool
begins_drawn [] = false
begins_drawn (byte ∷ []) = false
begins_drawn (byte ∷ next ∷ bytes) = is_drawn_type (byte ∷ []) && is_blank next
