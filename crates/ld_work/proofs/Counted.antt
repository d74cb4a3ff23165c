-- How many lines are read.
use Rattle.std.proofs.Common.{◌≡◌, ◌≤◌, ◌<◌, ◌+◌, ◌-◌, ◌||◌, ◌==◌, ◌⊎◌, inl, inr, false, cond, min, ℕ, zero, suc, List, [], ◌∷◌, ◌++◌, map, drop, length, Some, None, Ok, refl, ap, sym, ◌∙◌, arith}
use Rattle.std.specs.Prelude.{slice_get}
use Rattle.std.specs.List.{list_any}
use Rattle.std.proofs.lemmas.Bool.{cases_lt, le-ltb}
use Rattle.ld_names.specs.declared.file.TextId.{TextId}
use Rattle.ld_line.specs.declared.line.Line.{Line}
use Rattle.ld_entry.specs.Answers.{entries_before, first_fault}
use Rattle.ld_entry.specs.Carrying.{Outcome}
use Rattle.ld_entry.specs.Laws.{CarryLaws}
use Rattle.ld_entry.specs.Outcomes.{concatenation}
use Rattle.ld_entry.specs.declared.entry.Entry.{Entry}
use Rattle.ld_work.specs.Inside.Gathering.{Gathers}
use Rattle.ld_work.specs.Inside.Parsing.{parsed_lines, reads_parsed}
use Rattle.ld_work.specs.Inside.Working.{below_with}
use Rattle.ld_work.specs.Reads.{Basis, counted, has_end, is_given, lines_read, reads_below, reads_entered, reads_within}
use Rattle.ld_work.specs.declared.line.ParsedLine.{ParsedLine}
use Rattle.ld_work.proofs.Gathered.{all-gathered}
use Rattle.ld_work.proofs.Parsing.{at-place, get-there, line-at, line-reads, lines-length, none-dropped, none-taken}
use Rattle.ld_work.proofs.Passed.{by_line, gave, gave-next, gives, line-left}

-- entries alone have no fault
no-fault : (entries : List Entry) → first_fault (map Ok entries) ≡ None
no-fault [] = refl
no-fault (entry ∷ entries) = no-fault entries

all-entries : (entries : List Entry) → entries_before (map Ok entries) ≡ entries
all-entries [] = refl
all-entries (entry ∷ entries) = ap (λ es. entry ∷ es) (all-entries entries)

endless : (most : ℕ) (entries : List Entry) → length entries ≤ most → has_end most (map Ok entries) ≡ false
endless most entries few = rw (no-fault entries, all-entries entries) (le-ltb most (length entries) few)

-- entries behind entries
entries-behind : (old new : List Entry) (outcomes : List Outcome) → map Ok new ≡ map Ok old ++ outcomes → (more : List Entry) × (outcomes ≡ map Ok more) × (length more ≤ length new)
entries-behind [] new outcomes is = (new, sym is, omega arith)
entries-behind (entry ∷ old) [] outcomes is = cc
entries-behind (entry ∷ old) (first ∷ new) outcomes is =
    let rest : map Ok new ≡ map Ok old ++ outcomes = cc in
    let behind = entries-behind old new outcomes rest in
    (behind.0, behind.1, omega arith)

-- what was gathered without an entry too many has no end
pub not-ended : (most entries : ℕ) (old new : List Entry) (outcomes : List Outcome) → most ≤ entries → length new ≤ most → Gathers most old new None outcomes → has_end entries outcomes ≡ false
not-ended most entries old new outcomes le few gathers =
    let behind = entries-behind old new outcomes (all-gathered most old new outcomes few gathers) in
    ap (has_end entries) behind.1 ∙ endless entries behind.0 (omega arith)

module _ (basis : Basis) (left : ℕ) (way : List TextId) (text : TextId) where
  abbrev lines : List Line
  lines = basis.texts.lines text

  abbrev below : Line → ℕ
  below line = reads_below basis (below_with basis left) way text line

  abbrev gives_all : List (List Outcome)
  gives_all = by_line basis.texts left way text

  abbrev done : ℕ → List Outcome
  done before = gave basis.texts left way text before

  -- what is read of the lines that are left
  abbrev pub to_read : ℕ → ℕ
  to_read before = lines_read below (counted basis.bounds.entries (done before) (drop before gives_all) (drop before lines))

  -- a count, and what is left to read, are within what may be read from the first count on
  abbrev pub IsCounted : ℕ → ℕ → ℕ → Type 0
  IsCounted first now before = now + to_read before ≤ first + reads_within basis left way text

  pub read-begun : reads_within basis left way text ≡ to_read 0
  unfolding reads_within
  read-begun =
      by left
      ∙ ap (λ os. lines_read below (counted basis.bounds.entries os gives_all lines)) (ap concatenation (sym (none-taken gives_all)))
      ∙ ap (λ os. lines_read below (counted basis.bounds.entries (done 0) os lines)) (sym (none-dropped gives_all))
      ∙ ap (λ ls. lines_read below (counted basis.bounds.entries (done 0) (drop 0 gives_all) ls)) (sym (none-dropped lines))
    where
      by : (n : ℕ) → reads_within basis n way text ≡ lines_read (reads_below basis (below_with basis n) way text) (counted basis.bounds.entries [] (by_line basis.texts n way text) lines)
      by zero = refl
      by (suc n) = refl

  module _ (carry : CarryLaws) where
    module _ (before : ℕ) (line : ParsedLine) (at : slice_get (parsed_lines basis.texts text) before ≡ Some line) (undone : has_end basis.bounds.entries (done before) ≡ false) where
      -- one line, with what is read below it
      pub to_read-next : (number : ℕ) → number ≡ suc before → to_read before ≡ suc (reads_parsed basis (below_with basis left) (way ++ text ∷ []) line.finding line.said + to_read number)
      to_read-next number is =
          let here = line-at basis.texts text before line at in
          let rest = drop (suc before) gives_all in
          let first : below here.own ≡ reads_parsed basis (below_with basis left) (way ++ text ∷ []) line.finding line.said = line-reads basis (below_with basis left) way text here.state here.number here.own ∙ sym (ap (λ (l : ParsedLine). reads_parsed basis (below_with basis left) (way ++ text ∷ []) l.finding l.said) here.is) in
          ap (λ os. lines_read below (counted basis.bounds.entries (done before) os (drop before lines))) (line-left carry basis.texts left way text before line at)
          ∙ ap (λ ls. lines_read below (counted basis.bounds.entries (done before) (gives basis.texts left way text line ∷ rest) ls)) (at-place lines before here.own here.at)
          ∙ ap (λ b. lines_read below (cond b [] (here.own ∷ counted basis.bounds.entries (done before ++ gives basis.texts left way text line) rest (drop (suc before) lines)))) undone
          ∙ ap (λ n. suc (n + lines_read below (counted basis.bounds.entries (done before ++ gives basis.texts left way text line) rest (drop (suc before) lines)))) first
          ∙ ap (λ os. suc (reads_parsed basis (below_with basis left) (way ++ text ∷ []) line.finding line.said + lines_read below (counted basis.bounds.entries os rest (drop (suc before) lines)))) (sym (gave-next carry basis.texts left way text before (suc before) line at refl))
          ∙ ap (λ n. suc (reads_parsed basis (below_with basis left) (way ++ text ∷ []) line.finding line.said + to_read n)) (sym is)

    -- a line that is asked for is counted
    pub to_read-one : (before : ℕ) → has_end basis.bounds.entries (done before) ≡ false → min 1 (length lines - before) ≤ to_read before
    to_read-one before undone = by (cases_lt before (length lines))
      where
        by : (before < length lines) ⊎ (length lines ≤ before) → min 1 (length lines - before) ≤ to_read before
        by (inl within) =
            let long = lines-length basis.texts text in
            let there = get-there (parsed_lines basis.texts text) before (omega arith) in
            let next = to_read-next before there.0 there.1 undone (suc before) refl in
            omega arith
        by (inr past) = omega arith

-- a file that is entered, and not given
pub entered-reads : (basis : Basis) (left further : ℕ) (way : List TextId) (file : TextId) → list_any (λ text. text.0 == file.0) way ≡ false → left ≡ suc further → reads_entered basis (below_with basis left) way file ≡ cond (is_given basis way file) 0 (reads_within basis further way file)
entered-reads basis left further way file off more =
    ap (λ n. reads_entered basis (below_with basis n) way file) more ∙ ap (λ on. cond (on || is_given basis way file) 0 (reads_within basis further way file)) off
