-- What the steps of an expansion rest on, and what they leave.
use Rattle.std.specs.Prelude.{◌≡◌, ◌≤◌, ◌<◌, ◌+◌, ◌++◌, ℕ, zero, suc, List, [], ◌∷◌, length, Option, Some, None}
use Rattle.ld_names.specs.declared.file.TextId.{TextId}
use Rattle.ld_texts.specs.Learning.{Texts}
use Rattle.ld_graph.specs.Reading.{Reading}
use Rattle.ld_entry.specs.Answers.{left_below}
use Rattle.ld_entry.specs.Carrying.{Outcome}
use Rattle.ld_entry.specs.Heights.{IsWalk, Refers}
use Rattle.ld_entry.specs.NumberedTexts.{known_texts, NumberedTexts}
use Rattle.ld_entry.specs.declared.entry.Fault.{Fault}
use Rattle.ld_work.specs.Inside.Agreeing.{AgreesWith}
use Rattle.ld_work.specs.Inside.Gathering.{Extends, Gathers, IsWithin}
use Rattle.ld_work.specs.Inside.Parsing.{AreParsed}
use Rattle.ld_work.specs.Reads.{Basis, Below, reads_within}
use Rattle.ld_work.specs.Right.{AreRight}
use Rattle.ld_work.specs.declared.expanding.Expander.{Expander}
use Rattle.ld_work.specs.declared.expanding.Work.{Work}
use Rattle.ld_work.specs.declared.line.Finding.TheVariants.{File}
use Rattle.ld_work.specs.declared.line.ParsedLine.{ParsedLine}
use Rattle.ld_work.specs.declared.line.Reference.{Reference}
use Rattle.ld_work.specs.declared.line.Said.TheVariants.{Uses}

-- the texts of a reader
abbrev pub texts_of : Reading → NumberedTexts
texts_of reader = known_texts reader.texts.known

abbrev pub basis_of : Expander → Reading → Basis
basis_of expander reader = record { texts = texts_of reader; bounds = expander.bounds; cache = expander.cache.now }

-- how many files more the way may have behind a text at its end
abbrev pub left_at : Expander → Work → ℕ
left_at expander work = left_below expander.bounds.depth work.way.items

-- the texts stay, and at most so many lines were read
pub record ReadsAtMost (old new : Reading) (lines : ℕ) : Type 0 where
  pub texts : new.texts ≡ old.texts
  pub reads : new.reads ≤ old.reads + lines

-- what is kept may be taken, for a cut as early
pub record IsReady (expander : Expander) (texts : Texts) : Type 0 where
  pub graph : AgreesWith expander.graph.now expander.bounds.depth texts
  pub right : AreRight (known_texts texts.known) expander.bounds expander.cache.now
  pub most : expander.most ≤ expander.bounds.entries

-- Work that may go on with a text: the text stands at the end of the way, and no entry too many stands.
pub record MayPass (expander : Expander) (reader : Reading) (work : Work) (text : TextId) : Type 0 where
  pub ready : IsReady expander reader.texts
  pub walk : IsWalk (texts_of reader) (work.way.items ++ text ∷ [])
  pub deep : length work.way.items < expander.bounds.depth
  pub room : length work.entries.items ≤ expander.most
  pub parsed : AreParsed (texts_of reader) work.parsed

-- What a step leaves that gives these outcomes.
pub record Gives (texts : NumberedTexts) (most : ℕ) (old new : Work) (end : Option Fault) (outcomes : List Outcome) : Type 0 where
  pub way : new.way.items ≡ old.way.items
  pub extends : Extends old.entries.items new.entries.items
  pub within : IsWithin most new.entries.items end
  pub gathers : Gathers most old.entries.items new.entries.items end outcomes
  pub parsed : AreParsed texts new.parsed

-- a line of a text: its reference stands in the text, and the text refers to what it finds
pub record IsLineOf (texts : NumberedTexts) (text : TextId) (line : ParsedLine) : Type 0 where
  pub source : (reference : Reference) → line.said ≡ Uses reference → reference.source.text ≡ text
  pub finds : (file : TextId) → line.finding ≡ File file → Refers texts text file

-- how many lines an entered text reads, where the way may have so many files more behind the text that refers to it
abbrev pub below_with : Basis → ℕ → Below
below_with basis zero = None
below_with basis (suc left) = Some (λ longer file. reads_within basis left longer file)
