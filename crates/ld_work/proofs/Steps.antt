-- The steps over the lines of a text, by readers of the same texts.
use Rattle.std.proofs.Common.{◌≡◌, ◌≤◌, ◌+◌, ◌-◌, ◌++◌, cond, false, min, ℕ, suc, List, [], ◌∷◌, length, Option, Some, None, refl, ap, sym, subst, ◌∙◌, arith}
use Rattle.std.specs.Prelude.{slice_get, ◌==◌}
use Rattle.std.specs.List.{list_any}
use Rattle.ld_names.specs.declared.file.TextId.{TextId}
use Rattle.ld_texts.specs.Learning.{Texts}
use Rattle.ld_graph.specs.Reading.{Reading}
use Rattle.ld_entry.specs.Answers.{left_below}
use Rattle.ld_entry.specs.Laws.{CarryLaws}
use Rattle.ld_entry.specs.NumberedTexts.{known_texts}
use Rattle.ld_entry.specs.declared.entry.Entry.{Entry}
use Rattle.ld_entry.specs.declared.entry.Fault.{Fault}
use Rattle.ld_work.specs.Inside.Gathering.{enter_with, Gathers}
use Rattle.ld_work.specs.Inside.Parsing.{parsed_lines, parsed_outcomes, reads_parsed}
use Rattle.ld_work.specs.Inside.Working.{basis_of, below_with, Gives, IsLineOf, IsReady, MayPass, ReadsAtMost, texts_of}
use Rattle.ld_work.specs.Reads.{Basis, is_given, reads_entered, reads_within}
use Rattle.ld_work.specs.declared.expanding.Expander.{Expander}
use Rattle.ld_work.specs.declared.expanding.Work.{Work}
use Rattle.ld_work.specs.declared.line.ParsedLine.{ParsedLine}
use Rattle.ld_work.proofs.Counted.{entered-reads, IsCounted, not-ended, read-begun, to_read-next, to_read-one}
use Rattle.ld_work.proofs.Passed.{gave}

-- ---- Readers of the same texts.

module _ (expander : Expander) (old mid : Reading) (same : mid.texts ≡ old.texts) where
  pub may-same : (work : Work) (text : TextId) → MayPass expander old work text → MayPass expander mid work text
  may-same work text may =
      record {
        ready = subst (IsReady expander) (sym same) may.ready;
        walk = rw same may.walk;
        deep = may.deep;
        room = may.room;
        parsed = rw same may.parsed;
      }

  pub line-same : (text : TextId) (line : ParsedLine) → IsLineOf (texts_of old) text line → IsLineOf (texts_of mid) text line
  line-same text line is = subst (λ (ts : Texts). IsLineOf (known_texts ts.known) text line) (sym same) is

  pub line-there : (text' text : TextId) (before : ℕ) (line : Option ParsedLine) → text' ≡ text → line ≡ slice_get (parsed_lines (texts_of mid) text') before → slice_get (parsed_lines (texts_of old) text) before ≡ line
  line-there text' text before line here is =
      sym (is ∙ ap (λ (ts : Texts). slice_get (parsed_lines (known_texts ts.known) text') before) same ∙ ap (λ t. slice_get (parsed_lines (texts_of old) t) before) here)

  pub asked-same : (new : Reading) (text' text : TextId) (before : ℕ) → text' ≡ text → ReadsAtMost mid new (min 1 (length ((texts_of mid).lines text') - before)) → (new.texts ≡ old.texts) × (new.reads ≤ mid.reads + min 1 (length ((texts_of old).lines text) - before))
  asked-same new text' text before here reads = (
    reads.texts ∙ same,
    subst (λ t. new.reads ≤ mid.reads + min 1 (length ((texts_of old).lines t) - before)) here (subst (λ (ts : Texts). new.reads ≤ mid.reads + min 1 (length ((known_texts ts.known).lines text') - before)) same reads.reads),
  )

  pub read-same : (new : Reading) (way' way : List TextId) (text : TextId) (line : ParsedLine) → way' ≡ way → ReadsAtMost mid new (reads_parsed (basis_of expander mid) (below_with (basis_of expander mid) (left_below expander.bounds.depth way')) (way' ++ text ∷ []) line.finding line.said) → (new.texts ≡ old.texts) × (new.reads ≤ mid.reads + reads_parsed (basis_of expander old) (below_with (basis_of expander old) (left_below expander.bounds.depth way)) (way ++ text ∷ []) line.finding line.said)
  read-same new way' way text line here reads =
      let basis : Texts → Basis = λ ts. record { texts = known_texts ts.known; bounds = expander.bounds; cache = expander.cache.now } in (
        reads.texts ∙ same,
        subst (λ w. new.reads ≤ mid.reads + reads_parsed (basis_of expander old) (below_with (basis_of expander old) (left_below expander.bounds.depth w)) (w ++ text ∷ []) line.finding line.said) here (subst (λ (ts : Texts). new.reads ≤ mid.reads + reads_parsed (basis ts) (below_with (basis ts) (left_below expander.bounds.depth way')) (way' ++ text ∷ []) line.finding line.said) same reads.reads),
      )

  pub gives-same : (most : ℕ) (work new : Work) (end : Option Fault) (way' way : List TextId) (line : ParsedLine) → way' ≡ way → Gives (texts_of mid) most work new end (parsed_outcomes (enter_with (left_below expander.bounds.depth way')) (texts_of mid) way' line) → Gives (texts_of old) most work new end (parsed_outcomes (enter_with (left_below expander.bounds.depth way)) (texts_of old) way line)
  gives-same most work new end way' way line here gives =
      subst (λ w. Gives (texts_of old) most work new end (parsed_outcomes (enter_with (left_below expander.bounds.depth w)) (texts_of old) w line)) here (subst (λ (ts : Texts). Gives (known_texts ts.known) most work new end (parsed_outcomes (enter_with (left_below expander.bounds.depth way')) (known_texts ts.known) way' line)) same gives)

-- ---- Counts.

pub counted-begun : (basis : Basis) (left : ℕ) (way : List TextId) (text : TextId) (first : ℕ) → IsCounted basis left way text first first 0
counted-begun basis left way text first = let is = read-begun basis left way text in omega arith

module _ (carry : CarryLaws) (basis : Basis) (left : ℕ) (way : List TextId) (text : TextId) (most : ℕ) (few : most ≤ basis.bounds.entries) (old entries : List Entry) (before : ℕ) (gathers : Gathers most old entries None (gave basis.texts left way text before)) (room : length entries ≤ most) (first now : ℕ) (counted : IsCounted basis left way text first now before) where
  pub line-asked : (new : ℕ) → new ≤ now + min 1 (length (basis.texts.lines text) - before) → new ≤ first + reads_within basis left way text
  line-asked new asked =
      let one = to_read-one basis left way text carry before (not-ended most basis.bounds.entries old entries _ few room gathers) in
      omega arith

  module _ (mid new : ℕ) (line : ParsedLine) (at : slice_get (parsed_lines basis.texts text) before ≡ Some line) (asked : mid ≤ now + min 1 (length (basis.texts.lines text) - before)) (read : new ≤ mid + reads_parsed basis (below_with basis left) (way ++ text ∷ []) line.finding line.said) where
    pub line-counted : (number : ℕ) → number ≡ suc before → IsCounted basis left way text first new number
    line-counted number is =
        let next = to_read-next basis left way text carry before line at (not-ended most basis.bounds.entries old entries _ few room gathers) number is in
        omega arith

    pub line-read : new ≤ first + reads_within basis left way text
    line-read = let on = line-counted (suc before) refl in omega arith

-- a file that is entered
pub reads-entered : (basis : Basis) (old new : Reading) (left further : ℕ) (longer way : List TextId) (file : TextId) → longer ≡ way → list_any (λ text. text.0 == file.0) way ≡ false → left ≡ suc further → ReadsAtMost old new (cond (is_given basis longer file) 0 (reads_within basis further longer file)) → ReadsAtMost old new (reads_entered basis (below_with basis left) way file)
reads-entered basis old new left further longer way file same off more reads =
    subst (ReadsAtMost old new) (sym (entered-reads basis left further way file off more)) (subst (λ w. ReadsAtMost old new (cond (is_given basis w file) 0 (reads_within basis further w file))) same reads)
