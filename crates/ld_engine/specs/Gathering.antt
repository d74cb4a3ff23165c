-- Outcomes that are gathered one after another: the entries so far, and what follows them.
use Rattle.std.specs.Prelude.{◌≡◌, ◌≤◌, ◌+◌, ◌++◌, ℕ, zero, suc, List, [], ◌∷◌, length, map, take, drop, Option, Some, None, Ok, Err}
use Rattle.ld_names.specs.declared.file.TextId.{TextId}
use Rattle.ld_entry.specs.Answers.{until_end}
use Rattle.ld_entry.specs.Carrying.{Above, Outcome, carried_outcome, nothing_above}
use Rattle.ld_entry.specs.NumberedTexts.{NumberedTexts}
use Rattle.ld_entry.specs.Outcomes.{Context, Enter, all, context_of}
use Rattle.ld_entry.specs.declared.entry.Entry.{Entry}
use Rattle.ld_entry.specs.declared.entry.Fault.{Fault}

-- what follows, unless a fault ends it
abbrev pub unless_fault : Option Fault → List Outcome → List Outcome
unless_fault None behind = behind
unless_fault (Some fault) behind = Err fault ∷ []

-- entries, and what follows them unless a fault does, up to an entry too many
abbrev pub gathered : ℕ → List Entry → Option Fault → List Outcome → List Outcome
gathered most entries end behind = until_end most (map Ok entries ++ unless_fault end behind)

-- What was gathered after a step: the entries and the end that it gave stand for these outcomes.
abbrev pub Gathers : ℕ → List Entry → List Entry → Option Fault → List Outcome → Type 0
Gathers most old new end outcomes = (behind : List Outcome) → gathered most new end behind ≡ gathered most old None (outcomes ++ behind)

-- further entries stand behind those of before
abbrev pub Extends : List Entry → List Entry → Type 0
Extends old new = (more : List Entry) × (new ≡ old ++ more)

-- where no entry too many stood, at most one does
abbrev pub KeepsWithin : ℕ → List Entry → List Entry → Type 0
KeepsWithin most old new = length old ≤ most → length new ≤ most + 1

-- a text at the end of a way, below nothing
abbrev pub alone : NumberedTexts → List TextId → TextId → Context
alone texts way text = context_of texts way text nothing_above

-- what an entered text gives, where the way may have so many files more behind the text that refers to it
abbrev pub enter_with : ℕ → Enter
enter_with zero = None
enter_with (suc left) = Some (λ inner. all left inner)

-- Entries from a place on, carried: all of them, or those up to the first that is refused.
abbrev pub CarriesFrom : Above → ℕ → List Entry → List Entry → Option Fault → Type 0
CarriesFrom above start old new None = map Ok new ≡ map Ok (take start old) ++ map (carried_outcome above) (map Ok (drop start old))
CarriesFrom above start old new (Some fault) =
    (rest : List Outcome) × (map Ok new ++ Err fault ∷ rest ≡ map Ok (take start old) ++ map (carried_outcome above) (map Ok (drop start old)))
