-- What a run writes: its pieces and its status, and the texts of answers and of limits (this project's own).
use Rattle.std.specs.Prelude.{ℕ, List, [], ◌∷◌, ◌++◌, length, Option, Some, None, Result, Ok, Err, codes, decimal}
use Rattle.ld_names.specs.Standing.{Known}
use Rattle.ld_texts.specs.declared.change.Over.{Over}
use Rattle.ld_texts.specs.declared.change.Over.TheVariants as over
use Rattle.ld_colour.specs.Table.{Counting}
use Rattle.ld_engine.specs.Learning.{Stop, TooBig, Full}
use Rattle.ld_engine.specs.declared.asking.Answer.{Answer}
use Rattle.ld_report.specs.Entries.{entries_text}
use Rattle.ld_report.specs.Parts.{parts_of, parts_text}
use Rattle.ld_report.specs.Pieces.{file_text}
use Rattle.ld_report.specs.Steps.{steps_text}
use Rattle.ld_words.specs.declared.listing.Listing.{Listing}
use Rattle.ld_words.specs.declared.listing.Listing.TheVariants as listing
use Rattle.ld_cmd.specs.Generator.{summary_text}
use Rattle.ld_cmd.specs.declared.answer.Form.{Form}
use Rattle.ld_cmd.specs.declared.answer.Form.TheVariants.{Listed, Inlined}
use Rattle.ld_cmd.specs.declared.answer.Shown.{Shown}
use Rattle.ld_cmd.specs.declared.answer.Shown.TheVariants.{Faces, Steps, Parts, Summary}
use Rattle.ld_cmd.specs.declared.status.Status.{Status}

pub record Output : Type 0 where
  -- the pieces in which the bytes are written
  pub pieces : List (List ℕ)
  pub status : Status

abbrev pub one_piece : List ℕ → Status → Output
one_piece text status = record { pieces = text ∷ []; status = status }

-- a piece before all others
abbrev pub onto : List ℕ → Output → Output
onto piece output = record { pieces = piece ∷ output.pieces; status = output.status }

-- goes on with what there is, unless the output is decided
abbrev pub and_then : {A : Type 0} → Result A Output → (A → Output) → Output
and_then (Ok value) further = further value
and_then (Err output) further = output

-- the line about a limit, with what was kept before it
abbrev pub over_text : Over → List ℕ
over_text (over.Files kept) = codes "full files " ++ decimal kept ++ codes "\n"
over_text (over.Weight kept) = codes "full weight " ++ decimal kept ++ codes "\n"

-- the line about what stops the learning of files
abbrev pub stop_text : Stop → List ℕ
stop_text (TooBig file) = codes "toobig " ++ file_text file ++ codes "\n"
stop_text (Full passed) = over_text passed

-- what is shown of an answer, by the colours that are defined and the files that are known
abbrev pub shown_text : Shown → Counting → Known → Answer → List ℕ
shown_text Faces table known answer = entries_text known table answer.entries
shown_text Steps table known answer = steps_text known table answer.entries answer.steps
shown_text Parts table known answer = parts_text known (parts_of answer.entries)
shown_text Summary table known answer = summary_text (length answer.entries) (length (parts_of answer.entries)) (length answer.steps)

-- what a command makes of an answer, if it asks for one
abbrev pub form_of : Listing → Option Form
form_of listing.Faces = Some (Listed Faces)
form_of listing.Steps = Some (Listed Steps)
form_of listing.Parts = Some (Listed Parts)
form_of listing.Inline = Some Inlined
form_of listing.Check = None
