-- Laws of recursive expansion.
use Rattle.std.specs.Prelude.{◌≡◌, ◌≤◌, ◌<◌, ◌+◌, ◌==◌, ◌++◌, ◌⊎◌, ℕ, suc, Bool, true, false, All, List, [], ◌∷◌, map, min, length, sum, take, slice_get, Option, Some, None, Ok, Err, IfOk}
use Rattle.std.specs.List.{list_any}
use Rattle.ld_names.specs.Finding.{IsThere}
use Rattle.ld_names.specs.Standing.{Known, Map, Text}
use Rattle.ld_names.specs.declared.file.FileId.{FileId}
use Rattle.ld_names.specs.declared.file.TextId.{TextId}
use Rattle.ld_num.specs.declared.point.Placement.{Placement}
use Rattle.ld_line.specs.Shown.{GiveEntries}
use Rattle.ld_line.specs.declared.line.Line.{Line}
use Rattle.ld_line.specs.declared.line.Line.TheVariants.{Ref}
use Rattle.ld_texts.specs.Known.{AreDistinct, id_of}
use Rattle.ld_texts.specs.Reach.{wanted}
use Rattle.ld_bfc.specs.LineState.{state_before}
use Rattle.ld_bfc.specs.declared.culling.State.{State}
use Rattle.ld_colour.specs.Colour.{colour_of, is_lawful, under}
use Rattle.ld_colour.specs.declared.colour.Colour.{Colour}
use Rattle.ld_colour.specs.declared.colour.Colour.TheVariants.{Code}
use Rattle.ld_entry.specs.Agreement.{Agree, AgreeAs, MapsAgree, renamed_above, renamed_answer, renamed_expansion, renamed_outcome}
use Rattle.ld_entry.specs.Answers.{answer, answer_by, answer_of, until_end, entries_before, first_fault, left_below, outcome_counts, running_sums}
use Rattle.ld_entry.specs.Carrying.{Above, above_of, beneath, carried_entry, carried_outcome, fault_at, nothing_above, Outcome}
use Rattle.ld_entry.specs.Expansion.{end_of, expansion_of, first_entries, neutral_expansion}
use Rattle.ld_entry.specs.Heights.{found_by, height, IsLow, IsWalk, LeadsBy, Refers, tallest}
use Rattle.ld_entry.specs.Lawful.{IsLawfulEntry, IsLawfulOutcome}
use Rattle.ld_entry.specs.Learnt.{IsClosed, IsLearnt}
use Rattle.ld_entry.specs.NumberedTexts.{known_texts, NumberedTexts, standing_texts, texts_over}
use Rattle.ld_entry.specs.Outcomes.{all, all_by_line, concatenation, Context, context_of, Enter, enter_with, found_outcomes, line_outcomes, outcomes_by_line, outer_of, part_outcomes}
use Rattle.ld_entry.specs.declared.entry.Entry.{Entry}
use Rattle.ld_entry.specs.declared.entry.Entry.TheVariants.{Drawn, Part}
use Rattle.ld_entry.specs.declared.entry.Expansion.{Expansion}
use Rattle.ld_entry.specs.declared.entry.Fault.{Fault}
use Rattle.ld_entry.specs.declared.entry.Outer.{Outer}
use Rattle.ld_entry.specs.declared.entry.Source.{Source}
use Rattle.ld_entry.specs.declared.entry.What.TheVariants.{Cycle, TooDeep}

-- ---- What stands above composes, and so does what becomes of entries below it.

pub record CarryLaws : Type 0 where
  pub associative : (a b c : Above) → beneath a (beneath b c) ≡ beneath (beneath a b) c
  pub left_unit : (above : Above) → beneath nothing_above above ≡ above
  pub right_unit : (above : Above) → beneath above nothing_above ≡ above
  -- below nothing an outcome stays
  pub nothing : (outcome : Outcome) → carried_outcome nothing_above outcome ≡ outcome
  -- references act one after another, the inner first
  pub composed : (outer inner : Above) (outcome : Outcome) → carried_outcome (beneath outer inner) outcome ≡ carried_outcome outer (carried_outcome inner outcome)
  -- a part entry of a code keeps it
  pub own_colour : (above : Above) (file : TextId) (code : ℕ) (source : Source) → carried_outcome above (Ok (Part file (Code code) source)) ≡ Ok (Part file (Code code) source)

-- ---- What stands further out acts on each outcome alone.

-- the context, below more
abbrev pub further_below : Above → Context → Context
further_below outer context = record context { above = beneath outer context.above }

pub record ActionLaw : Type 0 where
  -- any references above those that stand above a text carry what each of its lines gives
  pub further : (outer : Above) (left : ℕ) (context : Context) → all_by_line left (further_below outer context) ≡ map (map (carried_outcome outer)) (all_by_line left context)
  -- below any references a text gives what it gives below nothing, carried through them
  pub from_nothing : (above : Above) (left : ℕ) (texts : NumberedTexts) (way : List TextId) (text : TextId) → all left (context_of texts way text above) ≡ map (carried_outcome above) (all left (context_of texts way text nothing_above))

-- ---- One link.

-- Outcomes as an expansion gives them below one more reference.
pub record IsCarried (outer : Outer) (most : ℕ) (expansion : Expansion) (outcomes : List Outcome) : Type 0 where
  -- they begin with the carried entries, up to the first that is refused
  pub begins : (rest : List Outcome) × (outcomes ≡ map Ok (entries_before (map (carried_entry (above_of outer)) expansion.entries)) ++ rest)
  -- that refusal is their first fault
  pub refused : (fault : Fault) → first_fault (map (carried_entry (above_of outer)) expansion.entries) ≡ Some fault → first_fault outcomes ≡ Some fault
  -- where none is refused, the end of the expansion is
  pub ended : (fault : Fault) → first_fault (map (carried_entry (above_of outer)) expansion.entries) ≡ None → expansion.end ≡ Some fault → first_fault outcomes ≡ Some fault
  -- where there is neither, they have no fault, or an entry too many before it
  pub endless : first_fault (map (carried_entry (above_of outer)) expansion.entries) ≡ None → expansion.end ≡ None → (first_fault outcomes ≡ None) ⊎ (most + 1 ≤ length (entries_before outcomes))

abbrev pub LinkLaw : Type 0
LinkLaw = (outer : Outer) (texts : NumberedTexts) (depth most : ℕ) (way : List TextId) (text : TextId) → IsCarried outer most (neutral_expansion texts depth most way text) (all (left_below depth way) (context_of texts way text (above_of outer)))

-- ---- A colour.

-- an entry where a colour is current
abbrev pub tinted_entry : Colour → Entry → Entry
tinted_entry current (Drawn kind certified clip winding colour source points) = Drawn kind certified clip winding (under colour current) source points
tinted_entry current (Part file colour source) = Part file (under colour current) source

-- the answer in a colour, by the expansion of the root
abbrev pub TintLaw : Type 0
TintLaw = (texts : NumberedTexts) (depth most : ℕ) (root : TextId) (colour : Colour) → answer texts depth most root colour ≡ answer_by most (map (tinted_entry colour) (neutral_expansion texts depth most [] root).entries) (neutral_expansion texts depth most [] root).end

-- ---- Cuts.

-- the fault that ends entries, where there is one
abbrev pub at_end : Option Fault → List Outcome
at_end None = []
at_end (Some fault) = Err fault ∷ []

-- What a cut leaves out does not count.
pub record CutLaws : Type 0 where
  pub twice : (most : ℕ) (outcomes : List Outcome) → until_end most (until_end most outcomes) ≡ until_end most outcomes
  -- a cut that leaves more, and then one that leaves less
  pub longer : (most more : ℕ) (outcomes : List Outcome) → most ≤ more → until_end most (until_end more outcomes) ≡ until_end most outcomes
  pub in_front : (most : ℕ) (outcomes behind : List Outcome) → until_end most (until_end most outcomes ++ behind) ≡ until_end most (outcomes ++ behind)
  pub behind : (most : ℕ) (before outcomes : List Outcome) → until_end most (before ++ until_end most outcomes) ≡ until_end most (before ++ outcomes)
  pub below : (most : ℕ) (above : Above) (outcomes : List Outcome) → until_end most (map (carried_outcome above) (until_end most outcomes)) ≡ until_end most (map (carried_outcome above) outcomes)
  pub answers : (most : ℕ) (outcomes : List Outcome) → answer_of most (until_end most outcomes) ≡ answer_of most outcomes
  -- a cut is the first entries and their end, and nothing else is that cut
  pub shown : (most : ℕ) (outcomes : List Outcome) → map Ok (first_entries most outcomes) ++ at_end (end_of most outcomes) ≡ until_end most outcomes
  pub only : (most : ℕ) (outcomes : List Outcome) (entries : List Entry) (end : Option Fault) → map Ok entries ++ at_end end ≡ until_end most outcomes → (entries ≡ first_entries most outcomes) × (end ≡ end_of most outcomes)
  -- so entries and an end that are a cut give the answer
  pub shown_answer : (most : ℕ) (outcomes : List Outcome) (entries : List Entry) (end : Option Fault) → map Ok entries ++ at_end end ≡ until_end most outcomes → answer_by most entries end ≡ answer_of most outcomes

-- ---- The ends of lines.

-- For any outcomes line by line:
pub record EndsLaws : Type 0 where
  -- there is one end for each line
  pub count : (most : ℕ) (lines : List (List Outcome)) → length (expansion_of most lines).line_ends ≡ length lines
  -- it counts the first entries of the lines up to and with its own
  pub counts : (most : ℕ) (lines : List (List Outcome)) (line : ℕ) → line < length lines → slice_get (expansion_of most lines).line_ends line ≡ Some (length (first_entries most (concatenation (take (suc line) lines))))
  -- and these are the first ones of all
  pub first : (most : ℕ) (lines : List (List Outcome)) (line : ℕ) → take (length (first_entries most (concatenation (take line lines)))) (expansion_of most lines).entries ≡ first_entries most (concatenation (take line lines))

-- ---- Lines.

-- What the lines of the context's text give, for whatever a reference enters:
pub record LineLaws : Type 0 where
  -- there are as many as the text has lines
  pub count : (enter : Enter) (context : Context) → length (outcomes_by_line enter context) ≡ length (context.texts.lines context.text)
  -- each is what its own line gives in the state of back face culling before that line
  pub line : (enter : Enter) (context : Context) (index : ℕ) (line : Line) → slice_get (context.texts.lines context.text) index ≡ Some line → slice_get (outcomes_by_line enter context) index ≡ Some (line_outcomes enter context (state_before (context.texts.is_part context.text) (context.texts.lines context.text) (index + 1)) (record { text = context.text; line = index + 1 }) line)
  -- and all that a text gives is what its lines give, where what a reference enters may go one file less deep
  pub all_lines : (left : ℕ) (context : Context) → all_by_line left context ≡ outcomes_by_line (enter_with left) context

-- ---- Answers.

-- How many outcomes each line of a root gives, where they are answered:
pub record CountLaw : Type 0 where
  -- a line that shows nothing gives none
  pub lines : (texts : NumberedTexts) (depth most : ℕ) (root : TextId) (colour : Colour) (entries : List Entry) → answer texts depth most root colour ≡ Ok entries → GiveEntries (texts.lines root) (outcome_counts texts depth root colour)
  -- together they are the entries of the answer
  pub whole : (texts : NumberedTexts) (depth most : ℕ) (root : TextId) (colour : Colour) (entries : List Entry) → answer texts depth most root colour ≡ Ok entries → sum (outcome_counts texts depth root colour) ≡ length entries

-- Where there is an answer, in whatever colour, the line ends of the root's expansion count what the lines up to and
-- with each give.
abbrev pub LineEndsLaw : Type 0
LineEndsLaw =
    (texts : NumberedTexts) (depth most : ℕ) (root : TextId) (colour : Colour) (entries : List Entry) → answer texts depth most root colour ≡ Ok entries → (neutral_expansion texts depth most [] root).line_ends ≡ running_sums 0 (outcome_counts texts depth root colour)

-- ---- Known and standing texts.

-- Where nothing is wanted for a root, the texts that it reaches are learnt.
abbrev pub ReachedLaw : Type 0
ReachedLaw = (known : Known) (root : FileId) (id : ℕ) → AreDistinct known → id_of known root ≡ Some id → wanted known root ≡ None → IsLearnt known root id

-- Among known texts, fewer than 64 references lead from a text to the one at which its moves end.
abbrev pub TargetLaw : Type 0
TargetLaw = (known : Known) (text : TextId) → AreDistinct known → (rest : List TextId) × LeadsBy (known_texts known) rest text ((known_texts known).target text) × (length rest < 64)

-- In a set in which nothing is wanted, the known texts give what the texts as they stand give, whatever the shelf has.
pub record StandingLaw : Type 0 where
  pub outcomes : (inside : TextId → Bool) (known : Known) (shelf : FileId → Text) → IsClosed inside known → (left : ℕ) (way : List TextId) (text : TextId) (above : Above) → inside text ≡ true → all_by_line left (context_of (standing_texts known shelf) way text above) ≡ all_by_line left (context_of (known_texts known) way text above)
  pub answers : (inside : TextId → Bool) (known : Known) (shelf : FileId → Text) → IsClosed inside known → (depth most : ℕ) (root : TextId) (colour : Colour) → inside root ≡ true → answer (standing_texts known shelf) depth most root colour ≡ answer (known_texts known) depth most root colour
  pub expansions : (inside : TextId → Bool) (known : Known) (shelf : FileId → Text) → IsClosed inside known → (depth most : ℕ) (way : List TextId) (text : TextId) → inside text ≡ true → neutral_expansion (standing_texts known shelf) depth most way text ≡ neutral_expansion (known_texts known) depth most way text
  pub counts : (inside : TextId → Bool) (known : Known) (shelf : FileId → Text) → IsClosed inside known → (depth : ℕ) (root : TextId) (colour : Colour) → inside root ≡ true → outcome_counts (standing_texts known shelf) depth root colour ≡ outcome_counts (known_texts known) depth root colour

-- ---- The way and the depth.

-- the source of what a line gives, by the place of the line
abbrev pub line_source : TextId → ℕ → Source
line_source text index = record { text = text; line = index + 1 }

-- the state of back face culling before a line, by the place of the line
abbrev pub state_at : NumberedTexts → TextId → ℕ → State
state_at texts text index = state_before (texts.is_part text) (texts.lines text) (index + 1)

-- a file is among these
abbrev pub is_in : List TextId → TextId → Bool
is_in files file = list_any (λ other. other.0 == file.0) files

-- the line is a reference whose name finds the file
pub record IsReference (texts : NumberedTexts) (text : TextId) (index word : ℕ) (placement : Placement) (file : TextId) : Type 0 where
  pub name : List ℕ
  pub line : slice_get (texts.lines text) index ≡ Some (Ref word placement (Some name))
  pub finds : texts.found text name ≡ Some file

-- What a reference to a file that is there gives, where a way may have so many files. The way is that with the text.
pub record DepthLaw : Type 0 where
  -- Where the file is not on the way: while the way has fewer, the part entry, where one is due, and then what the file
  -- gives behind this way, below this reference.
  pub enters : (texts : NumberedTexts) (depth : ℕ) (way : List TextId) (text : TextId) (above : Above) (index word : ℕ) (placement : Placement) (file : TextId) → IsReference texts text index word placement file → is_in (way ++ text ∷ []) file ≡ false → length (way ++ text ∷ []) < depth → slice_get (all_by_line (left_below depth way) (context_of texts way text above)) index ≡ Some (part_outcomes (context_of texts way text above) (line_source text index) word file ++ all (left_below depth (way ++ text ∷ [])) (context_of texts (way ++ text ∷ []) file (beneath above (above_of (outer_of (state_at texts text index) (line_source text index) word placement)))))
  -- where it has as many or more, the reference is too deep.
  pub too_deep : (texts : NumberedTexts) (depth : ℕ) (way : List TextId) (text : TextId) (above : Above) (index word : ℕ) (placement : Placement) (file : TextId) → IsReference texts text index word placement file → is_in (way ++ text ∷ []) file ≡ false → depth ≤ length (way ++ text ∷ []) → slice_get (all_by_line (left_below depth way) (context_of texts way text above)) index ≡ Some (fault_at TooDeep (line_source text index) ∷ [])
  -- A file on the way is a cycle, at every depth.
  pub cycle : (texts : NumberedTexts) (depth : ℕ) (way : List TextId) (text : TextId) (above : Above) (index word : ℕ) (placement : Placement) (file : TextId) → IsReference texts text index word placement file → is_in (way ++ text ∷ []) file ≡ true → slice_get (all_by_line (left_below depth way) (context_of texts way text above)) index ≡ Some (fault_at Cycle (line_source text index) ∷ [])

-- The part entry of a reference that enters a file:
pub record PartLaw : Type 0 where
  -- where the text that refers is no part and the file is one, it is of the text at which the file's moves end, in the
  -- colour of the reference
  pub entry : (context : Context) (source : Source) (word : ℕ) (file : TextId) → context.texts.is_part context.text ≡ false → context.texts.is_part file ≡ true → part_outcomes context source word file ≡ Ok (Part (context.texts.target file) (under (colour_of word) context.above.colour) source) ∷ []
  -- and there is none in a part
  pub in_part : (context : Context) (source : Source) (word : ℕ) (file : TextId) → context.texts.is_part context.text ≡ true → part_outcomes context source word file ≡ []
  -- or of a file that is no part
  pub of_no_part : (context : Context) (source : Source) (word : ℕ) (file : TextId) → context.texts.is_part file ≡ false → part_outcomes context source word file ≡ []

-- ---- Heights and ways.

pub record WalkLaws : Type 0 where
  -- a line refers to what its name finds
  pub refers : (texts : NumberedTexts) (text other : TextId) (index word : ℕ) (placement : Placement) (name : List ℕ) → slice_get (texts.lines text) index ≡ Some (Ref word placement (Some name)) → texts.found text name ≡ Some other → Refers texts text other
  -- and a walk to its text leads on to that
  pub longer : (texts : NumberedTexts) (way : List TextId) (text other : TextId) → IsWalk texts (way ++ text ∷ []) → Refers texts text other → IsWalk texts ((way ++ text ∷ []) ++ other ∷ [])

-- A text that is found is there.
abbrev pub FoundLaw : Type 0
FoundLaw = (texts : Map) (files : List FileId) (text other : TextId) → Refers (texts_over texts files) text other → (file : FileId) × (slice_get files other.0 ≡ Some file) × IsThere texts file

pub record HeightLaws : Type 0 where
  -- a walk from a text has no more texts than its height, up to a cap
  pub longest : (texts : NumberedTexts) (cap : ℕ) (text : TextId) (rest : List TextId) → IsWalk texts (text ∷ rest) → min cap (suc (length rest)) ≤ height cap texts text
  -- and some walk has as many
  pub walk : (texts : NumberedTexts) (bound : ℕ) (text : TextId) → (rest : List TextId) × IsWalk texts (text ∷ rest) × (height (suc bound) texts text ≡ suc (length rest))
  -- each height is one more than the tallest of what the text refers to, up to a cap
  pub over : (texts : NumberedTexts) (cap : ℕ) (text : TextId) → height cap texts text ≡ min cap (suc (tallest (height cap texts) (found_by texts text)))
  -- and numbers that are so in a set that no reference leaves are the heights there
  pub one : (inside : TextId → Bool) (texts : NumberedTexts) (cap : ℕ) (heights : TextId → ℕ) → ((text other : TextId) → inside text ≡ true → Refers texts text other → inside other ≡ true) → ((text : TextId) → inside text ≡ true → heights text ≡ min cap (suc (tallest heights (found_by texts text)))) → (text : TextId) → inside text ≡ true → heights text ≡ height cap texts text

-- A text whose height is at most the depth refers to lower ones alone.
abbrev pub LowerLaw : Type 0
LowerLaw = (texts : NumberedTexts) (depth : ℕ) (text other : TextId) → Refers texts text other → height (suc depth) texts text ≤ depth → height (suc depth) texts other < height (suc depth) texts text

-- Under a way that leads to it, a low text gives what it gives by itself.
pub record WayLaw : Type 0 where
  pub outcomes : (texts : NumberedTexts) (depth : ℕ) (way : List TextId) (text : TextId) (above : Above) → IsWalk texts (way ++ text ∷ []) → IsLow texts depth way text → all_by_line (left_below depth way) (context_of texts way text above) ≡ all_by_line (left_below depth []) (context_of texts [] text above)
  pub expansions : (texts : NumberedTexts) (depth most : ℕ) (way : List TextId) (text : TextId) → IsWalk texts (way ++ text ∷ []) → IsLow texts depth way text → neutral_expansion texts depth most way text ≡ neutral_expansion texts depth most [] text

-- the entries of an expansion, and the fault that ends it
abbrev pub shown_by : Expansion → List Outcome
shown_by expansion = map Ok expansion.entries ++ at_end expansion.end

-- The expansion of a low text by itself stands for what the text gives under a way that leads to it:
pub record ReuseLaw : Type 0 where
  -- below nothing, cut,
  pub alone : (texts : NumberedTexts) (depth most : ℕ) (way : List TextId) (text : TextId) → IsWalk texts (way ++ text ∷ []) → IsLow texts depth way text → until_end most (all (left_below depth way) (context_of texts way text nothing_above)) ≡ shown_by (neutral_expansion texts depth most [] text)
  -- and what a reference gives that enters it from a text below nothing: the part entry, where one is due, then this
  -- expansion carried, then its end. It is the same up to a cut, whatever stands before and behind.
  pub entered : (texts : NumberedTexts) (depth most left : ℕ) (way : List TextId) (text file : TextId) (state : State) (source : Source) (word : ℕ) (placement : Placement) (before behind : List Outcome) → left_below depth way ≡ suc left → IsWalk texts ((way ++ text ∷ []) ++ file ∷ []) → IsLow texts depth (way ++ text ∷ []) file → until_end most (before ++ (found_outcomes (Some (λ inner. all left inner)) (context_of texts way text nothing_above) state source word placement (Some file) ++ behind)) ≡ until_end most (before ++ ((part_outcomes (context_of texts way text nothing_above) source word file ++ map (carried_outcome (above_of (outer_of state source word placement))) (shown_by (neutral_expansion texts depth most [] file))) ++ behind))

-- ---- Agreement.

-- Texts that agree on a set that no reference leaves give the same there.
pub record AgreementLaw : Type 0 where
  pub outcomes : (inside : TextId → Bool) (texts other : NumberedTexts) → Agree inside texts other → (left : ℕ) (way : List TextId) (text : TextId) (above : Above) → inside text ≡ true → all_by_line left (context_of other way text above) ≡ all_by_line left (context_of texts way text above)
  pub answers : (inside : TextId → Bool) (texts other : NumberedTexts) → Agree inside texts other → (depth most : ℕ) (root : TextId) (colour : Colour) → inside root ≡ true → answer other depth most root colour ≡ answer texts depth most root colour
  pub expansions : (inside : TextId → Bool) (texts other : NumberedTexts) → Agree inside texts other → (depth most : ℕ) (way : List TextId) (text : TextId) → inside text ≡ true → neutral_expansion other depth most way text ≡ neutral_expansion texts depth most way text
  pub counts : (inside : TextId → Bool) (texts other : NumberedTexts) → Agree inside texts other → (depth : ℕ) (root : TextId) (colour : Colour) → inside root ≡ true → outcome_counts other depth root colour ≡ outcome_counts texts depth root colour
  pub heights : (inside : TextId → Bool) (texts other : NumberedTexts) → Agree inside texts other → (bound : ℕ) (text : TextId) → inside text ≡ true → height bound other text ≡ height bound texts text

-- The texts of two maps that say the same of the files of a set that no reference leaves agree on it.
abbrev pub MapsLaw : Type 0
MapsLaw = (inside : TextId → Bool) (texts other : Map) (files others : List FileId) → MapsAgree inside texts other files others → Agree inside (texts_over texts files) (texts_over other others)

-- Texts that agree under other numbers give, each by itself, the same with these numbers in the place of theirs,
pub record RenamingLaw : Type 0 where
  pub outcomes : (inside : TextId → Bool) (rename : TextId → TextId) (texts other : NumberedTexts) → AgreeAs inside rename texts other → (left : ℕ) (text : TextId) (above : Above) → inside text ≡ true → all left (context_of other [] (rename text) (renamed_above rename above)) ≡ map (renamed_outcome rename) (all left (context_of texts [] text above))
  pub answers : (inside : TextId → Bool) (rename : TextId → TextId) (texts other : NumberedTexts) → AgreeAs inside rename texts other → (depth most : ℕ) (root : TextId) (colour : Colour) → inside root ≡ true → answer other depth most (rename root) colour ≡ renamed_answer rename (answer texts depth most root colour)
  -- and line by line, where both have as many lines
  pub counts : (inside : TextId → Bool) (rename : TextId → TextId) (texts other : NumberedTexts) → AgreeAs inside rename texts other → (depth : ℕ) (root : TextId) (colour : Colour) → inside root ≡ true → length (other.lines (rename root)) ≡ length (texts.lines root) → outcome_counts other depth (rename root) colour ≡ outcome_counts texts depth root colour
  pub expansions : (inside : TextId → Bool) (rename : TextId → TextId) (texts other : NumberedTexts) → AgreeAs inside rename texts other → (depth most : ℕ) (text : TextId) → inside text ≡ true → length (other.lines (rename text)) ≡ length (texts.lines text) → neutral_expansion other depth most [] (rename text) ≡ renamed_expansion rename (neutral_expansion texts depth most [] text)
  pub heights : (inside : TextId → Bool) (rename : TextId → TextId) (texts other : NumberedTexts) → AgreeAs inside rename texts other → (bound : ℕ) (text : TextId) → inside text ≡ true → height bound other (rename text) ≡ height bound texts text

-- ---- Lawful entries.

-- Where a lawful colour is current, all entries are lawful, and so are those of an answer in a lawful colour.
pub record LawfulLaw : Type 0 where
  pub outcomes : (texts : Map) (files : List FileId) (left : ℕ) (way : List TextId) (text : TextId) (above : Above) → is_lawful above.colour ≡ true → All IsLawfulOutcome (all left (context_of (texts_over texts files) way text above))
  pub answers : (texts : Map) (files : List FileId) (depth most : ℕ) (root : TextId) (colour : Colour) → is_lawful colour ≡ true → IfOk (answer (texts_over texts files) depth most root colour) (All IsLawfulEntry)
