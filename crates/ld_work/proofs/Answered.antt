-- What is kept of the answers of a round is what a filling keeps.
use Rattle.std.proofs.Common.{◌≡◌, ◌≤◌, ◌<◌, ℕ, suc, Bool, true, false, cond, List, [], ◌∷◌, length, take, Some, None, Ok, Err, refl, ap, sym, ◌∙◌, arith}
use Rattle.std.proofs.lemmas.Bool.{lt-ltb}
use Rattle.ld_names.specs.Standing.{Known}
use Rattle.ld_names.specs.declared.file.TextId.{TextId}
use Rattle.ld_pool.specs.Runs.{blocks_for}
use Rattle.ld_entry.specs.NumberedTexts.{known_texts}
use Rattle.ld_entry.specs.declared.entry.Expansion.{Expansion}
use Rattle.ld_cache.specs.Kept.{added, Cached, free_blocks, with_kept}
use Rattle.ld_work.specs.Bounds.{AreBounds}
use Rattle.ld_work.specs.Filling.{by_itself, filled}
use Rattle.ld_work.specs.Inside.Answering.{AreFew, AreGiven, Given, IsFew, answers_kept, kept_by, wants_memory}
use Rattle.ld_work.specs.Inside.Lent.{basis_at}
use Rattle.ld_work.specs.Inside.Rounds.{AreAnswers, IsAnswer, room_of}
use Rattle.ld_work.specs.Inside.Staleness.{AreStale}
use Rattle.ld_work.specs.declared.bounds.Bounds.{Bounds}
use Rattle.ld_work.proofs.Filled.{added-free, entries-few, stale-more}

-- more entries than there was room for don't fit
over : (cache first : Cached) (text : TextId) (expansion : Expansion) → free_blocks cache ≤ free_blocks first → room_of first < length expansion.entries → length expansion.entries ≤ 4000001 → added cache text expansion ≡ cache
over cache first text expansion less much few =
    ap (λ b. cond b cache (with_kept cache text expansion)) (lt-ltb (free_blocks cache) (blocks_for (length expansion.entries)) (omega arith))

module _ (known : Known) (bounds : Bounds) (within : AreBounds bounds) (first : Cached) where
  abbrev its : TextId → Expansion
  its text = by_itself (known_texts known) bounds text

  abbrev Answers : List TextId → List Given → Type 0
  Answers texts answers = AreAnswers (basis_at known bounds first) (room_of first) texts answers

  answer-kept : (cache : Cached) (text : TextId) (answer : Given) → free_blocks cache ≤ free_blocks first → IsAnswer (basis_at known bounds first) (room_of first) text answer → wants_memory answer ≡ false → kept_by cache text answer ≡ added cache text (its text)
  answer-kept cache text None less is given = absurd is
  answer-kept cache text (Some (Err error)) less is given = cc
  answer-kept cache text (Some (Ok (Some expansion))) less is given = ap (added cache text) is.0
  answer-kept cache text (Some (Ok None)) less is given =
      let few = entries-few (known_texts known) bounds text in
      let most = within.few in
      sym (over cache first text (its text) less is (omega arith))

  -- where no answer wants memory
  pub answers-filled : (cache : Cached) (texts : List TextId) (answers : List Given) → free_blocks cache ≤ free_blocks first → AreStale known bounds.depth cache texts → Answers texts answers → AreGiven answers → answers_kept cache texts answers ≡ filled (known_texts known) bounds cache texts
  answers-filled cache [] answers less stale are given = refl
  answers-filled cache (text ∷ texts) [] less stale are given = absurd are
  answers-filled cache (text ∷ texts) (answer ∷ answers) less stale are given =
      let same = answer-kept cache text answer less are.0 given.0 in
      let free = added-free cache text (its text) stale.vacant.0 in
      ap (λ b. cond b cache (answers_kept (kept_by cache text answer) texts answers)) given.0
      ∙ ap (λ c. answers_kept c texts answers) same
      ∙ answers-filled (added cache text (its text)) texts answers (omega arith) (stale-more known bounds cache text texts stale) are.1 given.1

  -- in any case
  pub answers-partly : (cache : Cached) (texts : List TextId) (answers : List Given) → free_blocks cache ≤ free_blocks first → AreStale known bounds.depth cache texts → Answers texts answers → (count : ℕ) × (answers_kept cache texts answers ≡ filled (known_texts known) bounds cache (take count texts))
  answers-partly cache [] answers less stale are = (0, refl)
  answers-partly cache (text ∷ texts) [] less stale are = absurd are
  answers-partly cache (text ∷ texts) (answer ∷ answers) less stale are =
      let free = added-free cache text (its text) stale.vacant.0 in
      by (wants_memory answer) refl (answers-partly (added cache text (its text)) texts answers (omega arith) (stale-more known bounds cache text texts stale) are.1)
    where
      by : (b : Bool) → wants_memory answer ≡ b → ((c : ℕ) × (answers_kept (added cache text (its text)) texts answers ≡ filled (known_texts known) bounds (added cache text (its text)) (take c texts))) → (count : ℕ) × (cond b cache (answers_kept (kept_by cache text answer) texts answers) ≡ filled (known_texts known) bounds cache (take count (text ∷ texts)))
      by true wants rest = (0, refl)
      by false given rest = (suc rest.0, ap (λ c. answers_kept c texts answers) (answer-kept cache text answer less are.0 given) ∙ rest.1)

  -- an answer has few entries
  few-one : (text : TextId) (answer : Given) → IsAnswer (basis_at known bounds first) (room_of first) text answer → IsFew answer
  few-one text None is = absurd is
  few-one text (Some (Err error)) is = tt
  few-one text (Some (Ok None)) is = tt
  few-one text (Some (Ok (Some expansion))) is =
      let few = entries-few (known_texts known) bounds text in
      let most = within.few in
      let same = ap (λ (e : Expansion). length e.entries) is.0 in
      omega arith

  pub few-answers : (texts : List TextId) (answers : List Given) → Answers texts answers → AreFew answers
  few-answers [] [] are = tt
  few-answers [] (answer ∷ answers) are = absurd are
  few-answers (text ∷ texts) [] are = absurd are
  few-answers (text ∷ texts) (answer ∷ answers) are = (few-one text answer are.0, few-answers texts answers are.1)
