-- What the lines of a text come to among the known texts, whichever way leads to the text.
use Rattle.std.specs.Prelude.{◌≡◌, ◌++◌, ℕ, suc, List, [], ◌∷◌, Option, Some, None, Ok, Err, slice_get}
use Rattle.ld_names.specs.declared.file.TextId.{TextId}
use Rattle.ld_line.specs.declared.line.Line.{Line}
use Rattle.ld_line.specs.declared.line.Line.TheVariants.{Draw, Ref}
use Rattle.ld_line.specs.declared.line.Line.TheVariants as line
use Rattle.ld_bfc.specs.LineState.{next, start}
use Rattle.ld_bfc.specs.declared.culling.State.{State}
use Rattle.ld_entry.specs.Carrying.{Outcome}
use Rattle.ld_entry.specs.NumberedTexts.{NumberedTexts}
use Rattle.ld_entry.specs.Outcomes.{Enter, found_outcomes, own_entry}
use Rattle.ld_entry.specs.declared.entry.Source.{Source}
use Rattle.ld_entry.specs.declared.entry.What.{What}
use Rattle.ld_entry.specs.declared.entry.What.TheVariants.{Malformed, Missing, Range, Unnamed}
use Rattle.ld_engine.specs.Gathering.{alone}
use Rattle.ld_engine.specs.declared.met.Met.{Met}
use Rattle.ld_engine.specs.declared.met.Met.TheVariants.{Enters, Fails, Shows}
use Rattle.ld_engine.specs.declared.met.Reference.{Reference}

abbrev pub fails : What → Source → Met
fails what source = Fails (record { what = what; source = source })

-- a reference by what its name finds
abbrev pub met_found : Reference → Option TextId → Met
met_found reference None = fails Missing reference.source
met_found reference (Some file) = Enters reference file

abbrev pub met_name : NumberedTexts → Reference → Option (List ℕ) → Met
met_name texts reference None = fails Unnamed reference.source
met_name texts reference (Some name) = met_found reference (texts.found reference.source.text name)

-- a line, by the state of back face culling before it
abbrev pub met_of : NumberedTexts → State → Source → Line → Option Met
met_of texts state source line.Malformed = Some (fails Malformed source)
met_of texts state source line.OutOfRange = Some (fails Range source)
met_of texts state source (Draw kind word points) = Some (Shows (own_entry state source kind word points))
met_of texts state source (Ref word placement name) = Some (met_name texts (record { state = state; source = source; colour = word; placement = placement }) name)
met_of texts state source line = None

abbrev pub listed : Option Met → List Met
listed None = []
listed (Some met) = met ∷ []

-- lines that are numbered from here on
abbrev pub mets_from : NumberedTexts → TextId → State → ℕ → List Line → List Met
mets_from texts text state number [] = []
mets_from texts text state number (line ∷ lines) =
    listed (met_of texts state (record { text = text; line = number }) line) ++ mets_from texts text (next state line) (suc number) lines

-- a text
unfoldable pub mets_of : NumberedTexts → TextId → List Met
mets_of texts text = mets_from texts text (start (texts.is_part text)) 1 (texts.lines text)

-- every text that was read
abbrev pub AreMets : NumberedTexts → List (Option (List Met)) → Type 0
AreMets texts lists = (text : TextId) (mets : List Met) → slice_get lists text.0 ≡ Some (Some mets) → mets ≡ mets_of texts text

-- what it gives at the end of a way, below nothing
abbrev pub met_outcomes : Enter → NumberedTexts → List TextId → Met → List Outcome
met_outcomes enter texts way (Shows entry) = Ok entry ∷ []
met_outcomes enter texts way (Fails fault) = Err fault ∷ []
met_outcomes enter texts way (Enters reference file) =
    found_outcomes enter (alone texts way reference.source.text) reference.state reference.source reference.colour reference.placement (Some file)

abbrev pub mets_outcomes : Enter → NumberedTexts → List TextId → List Met → List Outcome
mets_outcomes enter texts way [] = []
mets_outcomes enter texts way (met ∷ mets) = met_outcomes enter texts way met ++ mets_outcomes enter texts way mets
