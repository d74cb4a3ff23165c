-- A round: workers that expand a text each.
use Rattle.std.specs.Prelude.{◌≡◌, ◌≤◌, ◌+◌, ◌*◌, ◌-◌, ◌^◌, ℕ, List, [], ◌∷◌, map, min, Some, None, Ok, Err, ⊤}
use Rattle.ld_names.specs.Standing.{Known}
use Rattle.ld_names.specs.declared.file.TextId.{TextId}
use Rattle.ld_cache.specs.Kept.{Cached, free_blocks}
use Rattle.ld_graph.specs.Reading.{Reading}
use Rattle.ld_work.specs.Filling.{by_itself}
use Rattle.ld_work.specs.Fitting.{FitsIn}
use Rattle.ld_work.specs.Inside.Answering.{Given}
use Rattle.ld_work.specs.Inside.Lent.{basis_at}
use Rattle.ld_work.specs.Readers.{known_by}
use Rattle.ld_work.specs.Reads.{Basis, reads}
use Rattle.ld_work.specs.declared.desk.Desk.{Desk}
use Rattle.ld_work.specs.declared.lent.Lent.{Lent}

-- how many entries all free blocks hold
abbrev pub room_of : Cached → ℕ
room_of cache = min (free_blocks cache * 256) (2 ^ 32 - 1)

-- the expansion of a text by itself, where it fits
abbrev pub IsAnswer : Basis → ℕ → TextId → Given → Type 0
IsAnswer basis room text None = ⊥
IsAnswer basis room text (Some (Ok given)) = FitsIn room (by_itself basis.texts basis.bounds text) given
IsAnswer basis room text (Some (Err error)) = ⊤

-- What a worker leaves: the answer for its text, and so many lines read at most.
pub record IsDone (lent : Lent) (old new : Desk) : Type 0 where
  pub text : new.text ≡ old.text
  pub answer : IsAnswer (basis_at old.reader.texts.known lent.bounds lent.cache.now) (room_of lent.cache.now) old.text new.answer
  pub texts : new.reader.texts ≡ old.reader.texts
  pub reads : new.reader.reads ≤ old.reader.reads + reads (basis_at old.reader.texts.known lent.bounds lent.cache.now) [] old.text

abbrev pub AreAnswers : Basis → ℕ → List TextId → List Given → Type 0
AreAnswers basis room (text ∷ texts) (answer ∷ answers) = IsAnswer basis room text answer × AreAnswers basis room texts answers
AreAnswers basis room [] [] = ⊤
AreAnswers basis room texts answers = ⊥

-- each text is of this height
abbrev pub AreAt : (TextId → ℕ) → ℕ → List TextId → Type 0
AreAt f level [] = ⊤
AreAt f level (text ∷ texts) = (f text ≡ level) × AreAt f level texts

abbrev pub readers_of : List Desk → List Reading
readers_of desks = map (λ desk. desk.reader) desks

-- what those at the desks know
abbrev pub known_at : List Desk → Known
known_at desks = known_by (readers_of desks)
