-- How many lines the expansion of a text reads where expansions of other texts are kept: this project's own.
use Rattle.std.specs.Prelude.{ℕ, zero, suc, ◌+◌, ◌++◌, ◌&&◌, ◌||◌, ◌==◌, Bool, List, [], ◌∷◌, length, nat_le, nat_lt, Option, Some, None, if◌then◌else◌}
use Rattle.std.specs.List.{list_any}
use Rattle.std.specs.Option.{is_some}
use Rattle.ld_names.specs.declared.file.TextId.{TextId}
use Rattle.ld_line.specs.declared.line.Line.{Line}
use Rattle.ld_line.specs.declared.line.Line.TheVariants.{Ref}
use Rattle.ld_entry.specs.Answers.{entries_before, first_fault, left_below}
use Rattle.ld_entry.specs.Carrying.{nothing_above, Outcome}
use Rattle.ld_entry.specs.Heights.{height}
use Rattle.ld_entry.specs.NumberedTexts.{NumberedTexts}
use Rattle.ld_entry.specs.Outcomes.{all_by_line, context_of}
use Rattle.ld_cache.specs.Kept.{Cached, kept_of}
use Rattle.ld_work.specs.declared.bounds.Bounds.{Bounds}

-- what an expansion rests on: the texts, the bounds, and what is kept
pub record Basis : Type 0 where
  pub texts : NumberedTexts
  pub bounds : Bounds
  pub cache : Cached

-- whether a fault, or an entry too many, stands among outcomes
abbrev pub has_end : ℕ → List Outcome → Bool
has_end most outcomes = is_some (first_fault outcomes) || nat_lt most (length (entries_before outcomes))

-- The lines that count of a text, behind what those before them gave: each up to and with the one in which the end
-- stands, by what each gives.
abbrev pub counted : ℕ → List Outcome → List (List Outcome) → List Line → List Line
counted most before (gives ∷ rest) (line ∷ lines) = if has_end most before then [] else line ∷ counted most (before ++ gives) rest lines
counted most before gives lines = []

-- a text is given at the end of a way, which ends before it, where it is kept and low there
abbrev pub is_given : Basis → List TextId → TextId → Bool
is_given basis way text =
    is_some (kept_of basis.cache text) && nat_le (length way + height (suc basis.bounds.depth) basis.texts text) basis.bounds.depth

-- how many lines an entered text reads at the end of a way; None where the way may have no further file
abbrev pub Below : Type 0
Below = Option (List TextId → TextId → ℕ)

-- a file that a reference finds, behind the way with the text of the reference, is entered where it is not on the way
abbrev pub reads_entered : Basis → Below → List TextId → TextId → ℕ
reads_entered basis None way file = 0
reads_entered basis (Some below) way file =
    if list_any (λ text. text.0 == file.0) way || is_given basis way file then 0 else below way file

abbrev pub reads_found : Basis → Below → List TextId → Option TextId → ℕ
reads_found basis below way None = 0
reads_found basis below way (Some file) = reads_entered basis below way file

-- what is read below a line of a text
abbrev pub reads_below : Basis → Below → List TextId → TextId → Line → ℕ
reads_below basis below way text (Ref word placement (Some name)) = reads_found basis below (way ++ text ∷ []) (basis.texts.found text name)
reads_below basis below way text line = 0

-- lines, with what is read below each
abbrev pub lines_read : (Line → ℕ) → List Line → ℕ
lines_read below [] = 0
lines_read below (line ∷ lines) = suc (below line + lines_read below lines)

abbrev pub reads_of : Basis → Below → ℕ → List TextId → TextId → ℕ
reads_of basis below left way text =
    lines_read (reads_below basis below way text) (counted basis.bounds.entries [] (all_by_line left (context_of basis.texts way text nothing_above)) (basis.texts.lines text))

-- a text at the end of a way, which may have so many files more behind the text
unfoldable pub reads_within : Basis → ℕ → List TextId → TextId → ℕ
reads_within basis zero way text = reads_of basis None zero way text
reads_within basis (suc left) way text = reads_of basis (Some (λ longer file. reads_within basis left longer file)) (suc left) way text

-- the lines that the expansion of a text at the end of a way reads
abbrev pub reads : Basis → List TextId → TextId → ℕ
reads basis way text = reads_within basis (left_below basis.bounds.depth way) way text
