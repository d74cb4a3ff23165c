-- What workers answer, and what is kept of it.
use Rattle.std.specs.Prelude.{◌≡◌, ◌<◌, ◌^◌, Bool, true, false, if◌then◌else◌, List, [], ◌∷◌, length, Option, Some, Result, Ok, Err, ⊤}
use Rattle.std.specs.declared.alloc.AllocError.{AllocError}
use Rattle.ld_names.specs.declared.file.TextId.{TextId}
use Rattle.ld_entry.specs.declared.entry.Expansion.{Expansion}
use Rattle.ld_cache.specs.Kept.{added, Cached}

-- an expansion that fits, or nothing where it doesn't, or want of memory; None before the worker has worked
abbrev pub Given : Type 0
Given = Option (Result (Option Expansion) AllocError)

-- an answer kept where it is an expansion and its blocks are free
abbrev pub kept_by : Cached → TextId → Given → Cached
kept_by cache text (Some (Ok (Some expansion))) = added cache text expansion
kept_by cache text answer = cache

abbrev pub wants_memory : Given → Bool
wants_memory (Some (Err error)) = true
wants_memory answer = false

-- answers kept one after another, up to the first that wants memory
abbrev pub answers_kept : Cached → List TextId → List Given → Cached
answers_kept cache (text ∷ texts) (answer ∷ answers) = if wants_memory answer then cache else answers_kept (kept_by cache text answer) texts answers
answers_kept cache texts answers = cache

-- no answer wants memory
abbrev pub AreGiven : List Given → Type 0
AreGiven [] = ⊤
AreGiven (answer ∷ answers) = (wants_memory answer ≡ false) × AreGiven answers

-- an expansion has so few entries that they can be counted
abbrev pub IsFew : Given → Type 0
IsFew (Some (Ok (Some expansion))) = length expansion.entries < 2 ^ 32
IsFew answer = ⊤

abbrev pub AreFew : List Given → Type 0
AreFew [] = ⊤
AreFew (answer ∷ answers) = IsFew answer × AreFew answers
