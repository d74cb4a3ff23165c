-- Which files are learnt for a root, and what stops it: files that references reach (File Format 1.0.2,
-- "Line Type 1"). The limits are this project's own.
use Rattle.std.specs.Prelude.{◌≡◌, ◌-◌, ◌++◌, ℕ, zero, suc, Bool, true, List, [], ◌∷◌, length, Option, Some, None, Result, Ok, Err, if◌then◌else◌, nat_lt, option_map, ⊤}
use Rattle.std.specs.List.{list_all}
use Rattle.ld_io.specs.Shelf.{Files}
use Rattle.ld_io.specs.declared.shelf.Place.{Place}
use Rattle.ld_io.specs.declared.shelf.Place.TheVariants as place
use Rattle.ld_names.specs.Standing.{Known, Text}
use Rattle.ld_names.specs.declared.file.FileId.{FileId}
use Rattle.ld_names.specs.declared.file.Folder.{Folder}
use Rattle.ld_names.specs.declared.file.Folder.TheVariants.{Model, Parts, P}
use Rattle.ld_mpd.specs.Blocks.{are_inside, text_of}
use Rattle.ld_texts.specs.Learning.{weight_passed}
use Rattle.ld_texts.specs.Reach.{wanted}
use Rattle.ld_texts.specs.declared.change.Over.{Over}
use Rattle.ld_texts.specs.declared.change.Over.TheVariants.{Files as TooMany}
use Rattle.ld_engine.specs.declared.limits.Limits.{Limits}

-- where the files of a folder are fetched from
abbrev pub place_of : Folder → Place
place_of (Model document) = place.Model
place_of Parts = place.Parts
place_of P = place.P

-- the text of a file by its bytes: its first text block; or its absence
abbrev pub text_by : FileId → Option (List ℕ) → Text
text_by file bytes = option_map (text_of file.name) bytes

-- the bytes that a shelf has of a file, and its text
abbrev pub bytes_on : Files → FileId → Option (List ℕ)
bytes_on files file = files (place_of file.folder) file.name

abbrev pub text_on : Files → FileId → Text
text_on files file = text_by file (bytes_on files file)

-- lines of which none holds a line feed, or begins or ends a block
abbrev pub is_clean : Text → Bool
is_clean None = true
is_clean (Some lines) = are_inside lines

abbrev pub are_clean : Known → Bool
are_clean known = list_all (λ entry. is_clean entry.1) known

-- why learning stops at a file: it has too many bytes, or a limit would be passed
pub data Stop : Type 0 where
  TooBig : FileId → Stop
  Full : Over → Stop

-- what is known when learning ends, and where it stopped
pub record Learnt : Type 0 where
  pub known : Known
  pub stop : Option Stop

abbrev pub learnt : Known → Learnt
learnt known = record { known = known; stop = None }

abbrev pub stopped : Known → Stop → Learnt
stopped known stop = record { known = known; stop = Some stop }

-- a text, unless the limit on the weight would be passed
abbrev pub unless_over : Option Over → Text → Result Text Stop
unless_over None text = Ok text
unless_over (Some over) text = Err (Full over)

-- the text of a file that is wanted, by the bytes that the shelf has
abbrev pub fetched : Limits → Known → FileId → Option (List ℕ) → Result Text Stop
fetched limits known file None = unless_over (weight_passed limits.total_weight known None) None
fetched limits known file (Some bytes) =
    if nat_lt limits.file_bytes (length bytes) then Err (TooBig file) else unless_over (weight_passed limits.total_weight known (text_by file (Some bytes))) (text_by file (Some bytes))

-- a file is learnt, and learning goes on; or it stops at the file
abbrev pub learning_on : (Known → Learnt) → Known → FileId → Result Text Stop → Learnt
learning_on further known file (Ok text) = further (known ++ (file, text) ∷ [])
learning_on further known file (Err stop) = stopped known stop

-- which file is wanted next, by what is known
abbrev pub Wanting : Type 0
Wanting = Known → Option FileId

-- The files that are wanted are learnt one after another, while there may be so many more: the limit on their number is
-- looked at before a file is fetched.
abbrev pub learn : ℕ → Limits → Files → Wanting → Known → Learnt
learn zero limits files wants known =
    elim (wants known) [ None ↦ learnt known | Some file ↦ stopped known (Full (TooMany (length known))) ]
learn (suc left) limits files wants known =
    elim (wants known) [ None ↦ learnt known | Some file ↦ learning_on (learn left limits files wants) known file (fetched limits known file (bytes_on files file)) ]

unfoldable pub learning_by : Limits → Files → Wanting → Known → Learnt
learning_by limits files wants known = learn (limits.texts - length known) limits files wants known

-- what a root wants
abbrev pub wanted_for : FileId → Wanting
wanted_for root known = wanted known root

abbrev pub learning : Limits → Files → FileId → Known → Learnt
learning limits files root known = learning_by limits files (wanted_for root) known

-- files became known one after another, each when it was wanted
abbrev pub AreWanted : Wanting → Known → Known → Type 0
AreWanted wants known [] = ⊤
AreWanted wants known (entry ∷ entries) = (wants known ≡ Some entry.0) × AreWanted wants (known ++ entry ∷ []) entries

-- over any shelf: what is known has grown by such files
abbrev pub LearnsBy : Wanting → Known → Known → Type 0
LearnsBy wants old new = (entries : Known) × (new ≡ old ++ entries) × AreWanted wants old entries

abbrev pub LearnsFor : FileId → Known → Known → Type 0
LearnsFor root old new = LearnsBy (wanted_for root) old new
