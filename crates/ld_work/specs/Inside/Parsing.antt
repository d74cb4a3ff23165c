-- What the lines of a text say by themselves, and what their names find: whichever way leads to the text.
use Rattle.std.specs.Prelude.{◌≡◌, ◌≤◌, ℕ, suc, List, [], ◌∷◌, drop, length, take, Option, Some, None, Ok, Err}
use Rattle.std.specs.BTreeMap.{get}
use Rattle.std.specs.Ordering.{nat_cmp}
use Rattle.ld_names.specs.declared.file.TextId.{TextId}
use Rattle.ld_line.specs.declared.line.Line.{Line}
use Rattle.ld_line.specs.declared.line.Line.TheVariants.{Draw, Ref}
use Rattle.ld_line.specs.declared.line.Line.TheVariants as line
use Rattle.ld_bfc.specs.LineState.{next, start}
use Rattle.ld_bfc.specs.declared.culling.State.{State}
use Rattle.ld_entry.specs.Carrying.{fault_at, Outcome}
use Rattle.ld_entry.specs.NumberedTexts.{NumberedTexts}
use Rattle.ld_entry.specs.Outcomes.{Enter, found_outcomes, own_entry}
use Rattle.ld_entry.specs.declared.entry.Source.{Source}
use Rattle.ld_entry.specs.declared.entry.What.{What}
use Rattle.ld_entry.specs.declared.entry.What.TheVariants.{Malformed, Missing, Range, Unnamed}
use Rattle.ld_work.specs.Inside.Gathering.{alone}
use Rattle.ld_work.specs.Reads.{Basis, Below, reads_found}
use Rattle.ld_work.specs.declared.cursor.Cursor.{Cursor}
use Rattle.ld_work.specs.declared.line.Finding.{Finding}
use Rattle.ld_work.specs.declared.line.Finding.TheVariants.{File, NoFile, NoName}
use Rattle.ld_work.specs.declared.line.ParsedLine.{ParsedLine}
use Rattle.ld_work.specs.declared.line.Reference.{Reference}
use Rattle.ld_work.specs.declared.line.Said.{Said}
use Rattle.ld_work.specs.declared.line.Said.TheVariants.{Fails, Nothing, Shows, Uses}
use Rattle.ld_work.specs.declared.parsed.ParsedText.{ParsedText}
use Rattle.ld_work.specs.declared.parsed.ParsedTexts.{ParsedTexts}

abbrev pub fails : What → Source → Said
fails what source = Fails (record { what = what; source = source })

-- a line, by the state of back face culling before it
abbrev pub said_of : State → Source → Line → Said
said_of state source line.Malformed = fails Malformed source
said_of state source line.OutOfRange = fails Range source
said_of state source (Draw kind word points) = Shows (own_entry state source kind word points)
said_of state source (Ref word placement name) = Uses (record { state = state; source = source; colour = word; placement = placement })
said_of state source line = Nothing

abbrev pub finding_by : Option TextId → Finding
finding_by None = NoFile
finding_by (Some file) = File file

abbrev pub finding_of_name : NumberedTexts → TextId → Option (List ℕ) → Finding
finding_of_name texts text None = NoName
finding_of_name texts text (Some name) = finding_by (texts.found text name)

-- the name in a line of a text
abbrev pub finding_of : NumberedTexts → TextId → Line → Finding
finding_of texts text (Ref word placement name) = finding_of_name texts text name
finding_of texts text line = NoName

abbrev pub parsed : NumberedTexts → State → Source → Line → ParsedLine
parsed texts state source line = record { said = said_of state source line; finding = finding_of texts source.text line }

-- lines that are numbered from here on
abbrev pub parsed_from : NumberedTexts → TextId → State → ℕ → List Line → List ParsedLine
parsed_from texts text state number [] = []
parsed_from texts text state number (line ∷ lines) =
    parsed texts state (record { text = text; line = number }) line ∷ parsed_from texts text (next state line) (suc number) lines

-- the lines of a text
unfoldable pub parsed_lines : NumberedTexts → TextId → List ParsedLine
parsed_lines texts text = parsed_from texts text (start (texts.is_part text)) 1 (texts.lines text)

-- ---- What they give at the end of a way, below nothing.

abbrev pub used_outcomes : Enter → NumberedTexts → List TextId → Reference → Finding → List Outcome
used_outcomes enter texts way reference NoName = fault_at Unnamed reference.source ∷ []
used_outcomes enter texts way reference NoFile = fault_at Missing reference.source ∷ []
used_outcomes enter texts way reference (File file) =
    found_outcomes enter (alone texts way reference.source.text) reference.state reference.source reference.colour reference.placement (Some file)

abbrev pub said_outcomes : Enter → NumberedTexts → List TextId → Finding → Said → List Outcome
said_outcomes enter texts way finding Nothing = []
said_outcomes enter texts way finding (Shows entry) = Ok entry ∷ []
said_outcomes enter texts way finding (Fails fault) = Err fault ∷ []
said_outcomes enter texts way finding (Uses reference) = used_outcomes enter texts way reference finding

abbrev pub parsed_outcomes : Enter → NumberedTexts → List TextId → ParsedLine → List Outcome
parsed_outcomes enter texts way line = said_outcomes enter texts way line.finding line.said

-- and how many lines are read below them
abbrev pub reads_used : Basis → Below → List TextId → Finding → ℕ
reads_used basis below way (File file) = reads_found basis below way (Some file)
reads_used basis below way finding = 0

abbrev pub reads_parsed : Basis → Below → List TextId → Finding → Said → ℕ
reads_parsed basis below way finding (Uses reference) = reads_used basis below way finding
reads_parsed basis below way finding said = 0

-- ---- Texts that are read.

-- the state at the cursor is the one in which the lines behind it are met
pub record IsAt (texts : NumberedTexts) (cursor : Cursor) : Type 0 where
  pub rest : parsed_from texts cursor.text cursor.state (suc cursor.before) (drop cursor.before (texts.lines cursor.text)) ≡ drop cursor.before (parsed_lines texts cursor.text)
  pub within : cursor.before ≤ length (texts.lines cursor.text)

-- the first lines of a text, up to the cursor
pub record IsParsedText (texts : NumberedTexts) (parsed : ParsedText) : Type 0 where
  pub at : IsAt texts parsed.cursor
  pub lines : parsed.lines.items ≡ take parsed.cursor.before (parsed_lines texts parsed.cursor.text)

-- each text stands at its number
abbrev pub AreParsed : NumberedTexts → ParsedTexts → Type 0
AreParsed texts all =
    (text : ℕ) (parsed : ParsedText) → get nat_cmp all.texts text ≡ Some parsed → (parsed.cursor.text ≡ record { 0 = text }) × IsParsedText texts parsed
