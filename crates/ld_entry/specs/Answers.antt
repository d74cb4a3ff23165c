-- Answers to queries: the first fault of an expansion, or its entries. The limit on entries is this project's own.
use Rattle.std.specs.Prelude.{ℕ, zero, suc, ◌+◌, ◌-◌, List, [], ◌∷◌, length, map, slice_get, Option, Some, None, Result, Ok, Err}
use Rattle.ld_names.specs.declared.file.TextId.{TextId}
use Rattle.ld_colour.specs.declared.colour.Colour.{Colour}
use Rattle.ld_entry.specs.Carrying.{colour_above, Outcome}
use Rattle.ld_entry.specs.NumberedTexts.{NumberedTexts}
use Rattle.ld_entry.specs.Outcomes.{all, all_by_line, context_of}
use Rattle.ld_entry.specs.declared.entry.Entry.{Entry}
use Rattle.ld_entry.specs.declared.entry.Entry.TheVariants.{Drawn, Part}
use Rattle.ld_entry.specs.declared.entry.Fault.{Fault}
use Rattle.ld_entry.specs.declared.entry.Source.{Source}
use Rattle.ld_entry.specs.declared.entry.What.TheVariants.{TooMany}

abbrev pub first_fault : List Outcome → Option Fault
first_fault [] = None
first_fault (Err fault ∷ outcomes) = Some fault
first_fault (Ok entry ∷ outcomes) = first_fault outcomes

-- the entries before the first fault
abbrev pub entries_before : List Outcome → List Entry
entries_before [] = []
entries_before (Err fault ∷ outcomes) = []
entries_before (Ok entry ∷ outcomes) = entry ∷ entries_before outcomes

abbrev pub source_of : Entry → Source
source_of (Drawn kind certified clip winding colour source points) = source
source_of (Part file colour source) = source

-- all entries, or the fault behind them
abbrev pub unless_ended : Option Fault → List Entry → Result (List Entry) Fault
unless_ended None entries = Ok entries
unless_ended (Some fault) entries = Err fault

-- the fault TooMany at the entry that is one too many, else what there is
abbrev pub unless_too_many : Option Entry → List Entry → Option Fault → Result (List Entry) Fault
unless_too_many (Some entry) entries end = Err (record { what = TooMany; source = source_of entry })
unless_too_many None entries end = unless_ended end entries

-- the answer of entries and the fault behind them, with so many entries at most
abbrev pub answer_by : ℕ → List Entry → Option Fault → Result (List Entry) Fault
answer_by most entries end = unless_too_many (slice_get entries most) entries end

abbrev pub answer_of : ℕ → List Outcome → Result (List Entry) Fault
answer_of most outcomes = answer_by most (entries_before outcomes) (first_fault outcomes)

-- how many files more may stand behind a text at the end of this way
abbrev pub left_below : ℕ → List TextId → ℕ
left_below depth way = depth - suc (length way)

-- the answer to a query of a root in a colour
unfoldable pub answer : NumberedTexts → ℕ → ℕ → TextId → Colour → Result (List Entry) Fault
answer texts depth most root colour = answer_of most (all (left_below depth []) (context_of texts [] root (colour_above colour)))

-- what each line of a root gives in the colour of a query
abbrev pub root_outcomes : NumberedTexts → ℕ → TextId → Colour → List (List Outcome)
root_outcomes texts depth root colour = all_by_line (left_below depth []) (context_of texts [] root (colour_above colour))

-- How many outcomes each line of a root gives in the colour of a query. In an answer these are its entries, so that
-- `step_parts (texts.lines root)` of them are the steps of the answer.
unfoldable pub outcome_counts : NumberedTexts → ℕ → TextId → Colour → List ℕ
outcome_counts texts depth root colour = map length (root_outcomes texts depth root colour)

-- the sums of the first of some counts, of the first two, and so on, each with what stands before them
abbrev pub running_sums : ℕ → List ℕ → List ℕ
running_sums before [] = []
running_sums before (count ∷ counts) = (before + count) ∷ running_sums (before + count) counts

-- the outcomes up to and with the first fault, or the first entry too many
abbrev pub until_end : ℕ → List Outcome → List Outcome
until_end most [] = []
until_end most (Err fault ∷ outcomes) = Err fault ∷ []
until_end zero (Ok entry ∷ outcomes) = Ok entry ∷ []
until_end (suc most) (Ok entry ∷ outcomes) = Ok entry ∷ until_end most outcomes
