-- The words of the command line: a command word, its positional words, and options with their values (this project's own).
use Rattle.std.specs.Prelude.{◌≤◌, ℕ, Bool, false, true, List, [], ◌∷◌, Option, Some, None, ◌==◌, ◌&&◌, not, codes, if◌then◌else◌, nat_le, option_map, option_and_then, unwrap_or, is_some, ⊤}
use Rattle.std.specs.List.{list_any}
use Rattle.std.specs.Str.{bytes_eq}
use Rattle.ld_line.specs.Colour.{colour_word}
use Rattle.ld_line.specs.Digits.{decimal_number}
use Rattle.ld_words.specs.declared.listing.Listing.{Listing}
use Rattle.ld_words.specs.declared.listing.Listing.TheVariants as listing

abbrev pub Word : Type 0
Word = List ℕ

-- neither empty nor with `-` at its start: so is each positional word, and each value of an option
abbrev pub is_argument : Word → Bool
is_argument [] = false
is_argument (first ∷ word) = not (first == 45)

-- ---- numbers

-- the most workers, entries of an answer, files on a way, entries that are kept, and bricks
abbrev pub most_workers : ℕ
most_workers = 16

abbrev pub most_entries : ℕ
most_entries = 4000000

abbrev pub most_depth : ℕ
most_depth = 64

abbrev pub most_cache : ℕ
most_cache = 8000000

abbrev pub most_bricks : ℕ
most_bricks = 100000

abbrev pub between : ℕ → ℕ → ℕ → Option ℕ
between low high number = if nat_le low number && nat_le number high then Some number else None

-- the number that one to ten decimal digits write, where it is between the bounds
abbrev pub number_in : ℕ → ℕ → Word → Option ℕ
number_in low high word = option_and_then (between low high) (decimal_number word)

abbrev pub workers_of : Word → Option ℕ
workers_of = number_in 1 most_workers

abbrev pub max_entries_of : Word → Option ℕ
max_entries_of = number_in 1 most_entries

abbrev pub max_depth_of : Word → Option ℕ
max_depth_of = number_in 1 most_depth

abbrev pub cache_of : Word → Option ℕ
cache_of = number_in 0 most_cache

-- ---- options

-- the name is an option's, and the value fits it
abbrev pub value_fits : Word → Word → Bool
value_fits name value =
    if bytes_eq name (codes "--colours") then true
    else if bytes_eq name (codes "--main") then is_some (colour_word value)
    else if bytes_eq name (codes "--workers") then is_some (workers_of value)
    else if bytes_eq name (codes "--max-entries") then is_some (max_entries_of value)
    else if bytes_eq name (codes "--max-depth") then is_some (max_depth_of value)
    else if bytes_eq name (codes "--cache") then is_some (cache_of value)
    else false

abbrev pub contains : Word → List Word → Bool
contains word words = list_any (λ other. bytes_eq other word) words

-- an option whose name does not come again; no value is a name, since names begin with `-`
abbrev pub is_option : Word → Word → List Word → Bool
is_option name value rest = is_argument value && (value_fits name value && not (contains name rest))

-- options in any order, each of two words
abbrev pub are_options : List Word → Bool
are_options [] = true
are_options (name ∷ []) = false
are_options (name ∷ value ∷ rest) = is_option name value rest && are_options rest

-- a name with its value
abbrev pub Named : Type 0
Named = Word × Word

abbrev pub pairs : List Word → List Named
pairs [] = []
pairs (name ∷ []) = []
pairs (name ∷ value ∷ rest) = (name, value) ∷ pairs rest

-- the first value of a name
abbrev pub value_of : Word → List Named → Option Word
value_of name [] = None
value_of name (p ∷ rest) = if bytes_eq p.0 name then Some p.1 else value_of name rest

pub record Options : Type 0 where
  pub colours : Option Word
  pub main : ℕ
  pub workers : ℕ
  pub max_entries : ℕ
  pub max_depth : ℕ
  pub cache : ℕ

abbrev pub value_or : ℕ → (Word → Option ℕ) → Option Word → ℕ
value_or default read value = unwrap_or (option_and_then read value) default

-- the options, by what gives each name its value
abbrev pub options_from : (Word → Option Word) → Options
options_from value = record {
  colours = value (codes "--colours");
  main = value_or 16 colour_word (value (codes "--main"));
  workers = value_or 4 workers_of (value (codes "--workers"));
  max_entries = value_or 2000000 max_entries_of (value (codes "--max-entries"));
  max_depth = value_or 32 max_depth_of (value (codes "--max-depth"));
  cache = value_or 524288 cache_of (value (codes "--cache"));
}

-- ---- the whole command line

pub data Task : Type 0 where
  -- to show this of a file
  Show : Listing → Word → Task
  -- to replay a script over a file
  Replay : Word → Word → Task
  -- to generate a model of so many bricks
  Generate : ℕ → Task

pub record Intent : Type 0 where
  pub task : Task
  pub options : Options

-- within these bounds
abbrev pub IsBetween : ℕ → ℕ → ℕ → Type 0
IsBetween low high number = (low ≤ number) × (number ≤ high)

abbrev pub IsBoundedTask : Task → Type 0
IsBoundedTask (Generate count) = IsBetween 1 most_bricks count
IsBoundedTask (Show what file) = ⊤
IsBoundedTask (Replay file script) = ⊤

-- the numbers of the options and of `gen` are within their bounds
pub record IsBounded (intent : Intent) : Type 0 where
  pub task : IsBoundedTask intent.task
  pub workers : IsBetween 1 most_workers intent.options.workers
  pub max_entries : IsBetween 1 most_entries intent.options.max_entries
  pub max_depth : IsBetween 1 most_depth intent.options.max_depth
  pub cache : IsBetween 0 most_cache intent.options.cache

abbrev pub listing_of : Word → Option Listing
listing_of word =
    if bytes_eq word (codes "faces") then Some listing.Faces
    else if bytes_eq word (codes "steps") then Some listing.Steps
    else if bytes_eq word (codes "parts") then Some listing.Parts
    else if bytes_eq word (codes "inline") then Some listing.Inline
    else if bytes_eq word (codes "check") then Some listing.Check
    else None

-- the commands with one positional word
abbrev pub one_word : Word → Word → Option Task
one_word command word =
    if bytes_eq command (codes "gen") then option_map Generate (number_in 1 most_bricks word)
    else option_map (λ what. Show what word) (listing_of command)

-- the commands with two
abbrev pub two_words : Word → Word → Word → Option Task
two_words command file script = if bytes_eq command (codes "replay") then Some (Replay file script) else None

abbrev pub task_of : Word → Word → Option Word → Option Task
task_of command word None = one_word command word
task_of command word (Some second) = two_words command word second

abbrev pub with_options : List Word → Option Task → Option Intent
with_options words task =
    if are_options words then option_map (λ t. record { task = t; options = options_from (λ name. value_of name (pairs words)) }) task
    else None

-- behind the first positional word stands a second one, or the options begin
abbrev pub with_rest : Word → Word → List Word → Option Intent
with_rest command word [] = with_options [] (task_of command word None)
with_rest command word (next ∷ rest) =
    if is_argument next then with_options rest (task_of command word (Some next))
    else with_options (next ∷ rest) (task_of command word None)

-- what the words ask for, where they are in the grammar
unfoldable pub intent_of : List Word → Option Intent
intent_of [] = None
intent_of (command ∷ []) = None
intent_of (command ∷ word ∷ rest) = if is_argument command && is_argument word then with_rest command word rest else None

-- what is written where words are outside the grammar
abbrev pub usage_line : List ℕ
usage_line = codes "usage: ldraw (faces|steps|parts|inline|check) FILE | replay FILE SCRIPT | gen N\n"
