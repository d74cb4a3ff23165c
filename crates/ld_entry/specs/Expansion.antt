-- The expansion of a text in the main colour and below nothing: its first entries, how many of them stand up to and
-- with each line, and the fault that ends it.
use Rattle.std.specs.Prelude.{ℕ, suc, List, [], ◌∷◌, ◌++◌, length, take, nat_lt, Option, None, if◌then◌else◌}
use Rattle.ld_names.specs.declared.file.TextId.{TextId}
use Rattle.ld_entry.specs.Answers.{entries_before, first_fault, left_below}
use Rattle.ld_entry.specs.Carrying.{nothing_above, Outcome}
use Rattle.ld_entry.specs.NumberedTexts.{NumberedTexts}
use Rattle.ld_entry.specs.Outcomes.{all_by_line, concatenation, context_of}
use Rattle.ld_entry.specs.declared.entry.Entry.{Entry}
use Rattle.ld_entry.specs.declared.entry.Expansion.{Expansion}
use Rattle.ld_entry.specs.declared.entry.Fault.{Fault}

-- the entries before the first fault, but no more than one too many
abbrev pub first_entries : ℕ → List Outcome → List Entry
first_entries most outcomes = take (suc most) (entries_before outcomes)

-- the first fault, unless an entry too many stands before it
abbrev pub end_of : ℕ → List Outcome → Option Fault
end_of most outcomes = if nat_lt most (length (entries_before outcomes)) then None else first_fault outcomes

-- how many of the first entries stand up to and with each of the lines, behind what the lines before them gave
abbrev pub ends_behind : ℕ → List Outcome → List (List Outcome) → List ℕ
ends_behind most before [] = []
ends_behind most before (line ∷ lines) =
    length (first_entries most (before ++ line)) ∷ ends_behind most (before ++ line) lines

abbrev pub expansion_of : ℕ → List (List Outcome) → Expansion
expansion_of most lines = record { entries = first_entries most (concatenation lines); line_ends = ends_behind most [] lines; end = end_of most (concatenation lines) }

-- the expansion of a text at the end of a way
unfoldable pub neutral_expansion : NumberedTexts → ℕ → ℕ → List TextId → TextId → Expansion
neutral_expansion texts depth most way text = expansion_of most (all_by_line (left_below depth way) (context_of texts way text nothing_above))
