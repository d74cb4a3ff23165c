-- Recursive expansion: what each line of a text gives. File Format 1.0.2 ("Line Type 1", the sub-file reference, "Line
-- Type 2" to "Line Type 5", and "Colours") and Back Face Culling (BFC) Language Extension. What a part text is, part
-- entries, the order of faults and the limit on the depth are this project's own.
use Rattle.std.specs.Prelude.{ℕ, zero, suc, ◌==◌, ◌&&◌, not, Bool, List, [], ◌∷◌, ◌++◌, Option, Some, None, if◌then◌else◌}
use Rattle.std.specs.List.{list_any}
use Rattle.ld_names.specs.declared.file.TextId.{TextId}
use Rattle.ld_num.specs.Placing.{is_mirrored}
use Rattle.ld_num.specs.declared.point.Placement.{Placement}
use Rattle.ld_num.specs.declared.point.Point.{Point}
use Rattle.ld_line.specs.declared.line.Kind.{Kind}
use Rattle.ld_line.specs.declared.line.Line.{Line}
use Rattle.ld_line.specs.declared.line.Line.TheVariants.{Draw, Ref}
use Rattle.ld_line.specs.declared.line.Line.TheVariants as line
use Rattle.ld_bfc.specs.LineState.{face, next, start}
use Rattle.ld_bfc.specs.Passing.{below}
use Rattle.ld_bfc.specs.declared.culling.State.{State}
use Rattle.ld_colour.specs.Colour.{colour_of}
use Rattle.ld_entry.specs.Carrying.{Above, above_of, beneath, carried_entry, fault_at, Outcome}
use Rattle.ld_entry.specs.NumberedTexts.{NumberedTexts}
use Rattle.ld_entry.specs.declared.entry.Entry.{Entry}
use Rattle.ld_entry.specs.declared.entry.Entry.TheVariants.{Drawn, Part}
use Rattle.ld_entry.specs.declared.entry.Outer.{Outer}
use Rattle.ld_entry.specs.declared.entry.Source.{Source}
use Rattle.ld_entry.specs.declared.entry.What.TheVariants.{Cycle, Malformed, Missing, Range, TooDeep, Unnamed}

-- Where a text is expanded: among which texts, on which way, which is the files from the root to before the text, and
-- below what.
pub record Context : Type 0 where
  pub texts : NumberedTexts
  pub way : List TextId
  pub text : TextId
  pub above : Above

abbrev pub context_of : NumberedTexts → List TextId → TextId → Above → Context
context_of texts way text above = record { texts = texts; way = way; text = text; above = above }

-- what a text that a reference enters gives; None where the way may have no further file
abbrev pub Enter : Type 0
Enter = Option (Context → List Outcome)

-- the way with the text itself
abbrev pub way_with_text : Context → List TextId
way_with_text context = context.way ++ context.text ∷ []

abbrev pub is_on_way : Context → TextId → Bool
is_on_way context file = list_any (λ text. text.0 == file.0) (way_with_text context)

-- a line of type 2 to 5 as its own text has it
abbrev pub own_entry : State → Source → Kind → ℕ → List Point → Entry
own_entry state source kind word points = Drawn kind (face state).0 (face state).1 (face state).2 (colour_of word) source points

-- what a line of type 1 passes down: its placement, its colour, and its part in back face culling
abbrev pub outer_of : State → Source → ℕ → Placement → Outer
outer_of state source word placement =
    record { placement = placement; colour = colour_of word; below = below state (is_mirrored placement); source = source }

-- where a file is expanded that a reference of the context's text enters
abbrev pub context_below : Context → Outer → TextId → Context
context_below context outer file = context_of context.texts (way_with_text context) file (beneath context.above (above_of outer))

-- A part text is an entry of its own where the text that refers to it is none. The entry is of the text at which its
-- moves end; what the part text gives comes behind it.
abbrev pub part_outcomes : Context → Source → ℕ → TextId → List Outcome
part_outcomes context source word file =
    if not (context.texts.is_part context.text) && context.texts.is_part file then carried_entry context.above (Part (context.texts.target file) (colour_of word) source) ∷ [] else []

-- a reference to a file that is there and not on the way
abbrev pub file_outcomes : Enter → Context → State → Source → ℕ → Placement → TextId → List Outcome
file_outcomes None context state source word placement file = fault_at TooDeep source ∷ []
file_outcomes (Some enter) context state source word placement file =
    part_outcomes context source word file ++ enter (context_below context (outer_of state source word placement) file)

-- a reference by the file that it finds
abbrev pub found_outcomes : Enter → Context → State → Source → ℕ → Placement → Option TextId → List Outcome
found_outcomes enter context state source word placement None = fault_at Missing source ∷ []
found_outcomes enter context state source word placement (Some file) =
    if is_on_way context file then fault_at Cycle source ∷ [] else file_outcomes enter context state source word placement file

-- a reference by its name, which may have no normal form
abbrev pub reference_outcomes : Enter → Context → State → Source → ℕ → Placement → Option (List ℕ) → List Outcome
reference_outcomes enter context state source word placement None = fault_at Unnamed source ∷ []
reference_outcomes enter context state source word placement (Some name) = found_outcomes enter context state source word placement (context.texts.found context.text name)

-- what a line gives, by the state of back face culling before it
abbrev pub line_outcomes : Enter → Context → State → Source → Line → List Outcome
line_outcomes enter context state source line.Malformed = fault_at Malformed source ∷ []
line_outcomes enter context state source line.OutOfRange = fault_at Range source ∷ []
line_outcomes enter context state source (Draw kind word points) = carried_entry context.above (own_entry state source kind word points) ∷ []
line_outcomes enter context state source (Ref word placement name) = reference_outcomes enter context state source word placement name
line_outcomes enter context state source line = []

-- what lines give, one after another, that are numbered from here on
abbrev pub outcomes_from : Enter → Context → State → ℕ → List Line → List (List Outcome)
outcomes_from enter context state number [] = []
outcomes_from enter context state number (line ∷ lines) =
    line_outcomes enter context state (record { text = context.text; line = number }) line ∷ outcomes_from enter context (next state line) (suc number) lines

-- what each line of the context's text gives
abbrev pub outcomes_by_line : Enter → Context → List (List Outcome)
outcomes_by_line enter context = outcomes_from enter context (start (context.texts.is_part context.text)) 1 (context.texts.lines context.text)

abbrev pub concatenation : {A : Type 0} → List (List A) → List A
concatenation [] = []
concatenation (first ∷ rest) = first ++ concatenation rest

-- what each line of the context's text gives, where the way may have so many files more behind the text
unfoldable pub all_by_line : ℕ → Context → List (List Outcome)
all_by_line zero context = outcomes_by_line None context
all_by_line (suc left) context = outcomes_by_line (Some (λ inner. concatenation (all_by_line left inner))) context

-- all outcomes of the context's text
abbrev pub all : ℕ → Context → List Outcome
all left context = concatenation (all_by_line left context)

-- what a text that a reference enters gives, where the way may have so many files more behind the text that refers to it
abbrev pub enter_with : ℕ → Enter
enter_with zero = None
enter_with (suc left) = Some (λ inner. all left inner)
