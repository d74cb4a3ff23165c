-- Outcomes that are gathered one after another: the entries so far, and what follows them.
use Rattle.std.specs.Prelude.{◌≡◌, ◌≤◌, ◌+◌, ◌++◌, ℕ, zero, suc, List, ◌∷◌, length, map, take, drop, Option, Some, None, Ok, Err}
use Rattle.ld_names.specs.declared.file.TextId.{TextId}
use Rattle.ld_entry.specs.Answers.{until_end}
use Rattle.ld_entry.specs.Carrying.{Above, carried_outcome, nothing_above, Outcome}
use Rattle.ld_entry.specs.Laws.{at_end}
use Rattle.ld_entry.specs.NumberedTexts.{NumberedTexts}
use Rattle.ld_entry.specs.Outcomes.{all, Context, context_of, Enter}
use Rattle.ld_entry.specs.declared.entry.Entry.{Entry}
use Rattle.ld_entry.specs.declared.entry.Fault.{Fault}

-- what entries and the fault behind them show
abbrev pub shown : List Entry → Option Fault → List Outcome
shown entries end = map Ok entries ++ at_end end

-- entries, the fault behind them, and what follows, up to an entry too many
abbrev pub gathered : ℕ → List Entry → Option Fault → List Outcome → List Outcome
gathered most entries end behind = until_end most (map Ok entries ++ (at_end end ++ behind))

-- What was gathered after a step: the entries and the end that it gave stand for these outcomes.
abbrev pub Gathers : ℕ → List Entry → List Entry → Option Fault → List Outcome → Type 0
Gathers most old new end outcomes = (behind : List Outcome) → gathered most new end behind ≡ gathered most old None (outcomes ++ behind)

-- further entries stand behind those of before
abbrev pub Extends : List Entry → List Entry → Type 0
Extends old new = (more : List Entry) × (new ≡ old ++ more)

-- the entries, and a fault behind them, are at most one more than may be
abbrev pub IsWithin : ℕ → List Entry → Option Fault → Type 0
IsWithin most entries end = length entries + length (at_end end) ≤ suc most

-- a text at the end of a way, below nothing
abbrev pub alone : NumberedTexts → List TextId → TextId → Context
alone texts way text = context_of texts way text nothing_above

-- what an entered text gives, where the way may have so many files more behind the text that refers to it
abbrev pub enter_with : ℕ → Enter
enter_with zero = None
enter_with (suc left) = Some (λ inner. all left inner)

-- Entries from a place on, carried: all of them, or those up to the first that is refused.
abbrev pub CarriesFrom : Above → ℕ → List Entry → List Entry → Option Fault → Type 0
CarriesFrom above start old new None = map Ok new ≡ map Ok (take start old) ++ map (carried_outcome above) (map Ok (drop start old))
CarriesFrom above start old new (Some fault) =
    (rest : List Outcome) × (map Ok new ++ Err fault ∷ rest ≡ map Ok (take start old) ++ map (carried_outcome above) (map Ok (drop start old)))
