-- Lines and texts that are gone through.
use Rattle.std.proofs.Common.{◌≡◌, ◌<◌, ◌≤◌, ◌-◌, ◌++◌, ℕ, zero, suc, true, List, [], ◌∷◌, length, drop, Option, Some, None, refl, ap, sym, ◌∙◌, append_assoc, arith, tests}
use Rattle.std.specs.Prelude.{slice_get, nat_eq}
use Rattle.std.specs.List.{IsDistinct, list_any}
use Rattle.std.proofs.lemmas.Map.Steps.{length-le_from_distinct_below}
use Rattle.std.proofs.lemmas.List.{length-append}
use Rattle.std.proofs.lemmas.Option.{slice_get_within}
use Rattle.ld_names.specs.Standing.{Known, Text}
use Rattle.ld_names.specs.declared.file.FileId.{FileId}
use Rattle.ld_texts.specs.Known.{file_at, lines_at}
use Rattle.ld_texts.specs.Laws.{LearningNumbers}
use Rattle.ld_texts.specs.Reach.{Reached, Wants, Reaches, file_reaches, going_on, lines_in, lines_reach, texts_reach}
use Rattle.ld_engine.specs.Going.{Goes, Grows, IsInside, Passed, Steps, file_left, file_rest, left, line_step}
use Rattle.ld_engine.proofs.Reached.{file-behind, lines-behind}

drop-at : {A : Type 0} (xs : List A) (n : ℕ) (x : A) → slice_get xs n ≡ Some x → drop n xs ≡ x ∷ drop (suc n) xs
drop-at [] n x is = cc
drop-at (y ∷ xs) zero x is = let same : y ≡ x = cc in ap (λ z. z ∷ xs) same
drop-at (y ∷ xs) (suc n) x is = drop-at xs n x is

drop-past : {A : Type 0} (xs : List A) (n : ℕ) → length xs ≤ n → drop n xs ≡ []
drop-past [] zero past = refl
drop-past [] (suc n) past = refl
drop-past (y ∷ xs) zero past = absurd (omega arith)
drop-past (y ∷ xs) (suc n) past = drop-past xs n (omega arith)

drop-none : {A : Type 0} (xs : List A) → drop 0 xs ≡ xs
drop-none [] = refl
drop-none (x ∷ xs) = refl

module _ (learning : LearningNumbers) (known : Known) (id : ℕ) (within : id < length known) (file : FileId) (here : file_at known id ≡ Some file) where
  -- what is left of the file, whatever becomes known
  left-behind : (more : Known) (texts : List ℕ) (n : ℕ) → file_left (known ++ more) texts n (file_at (known ++ more) id) (lines_at (known ++ more) id) ≡ lines_reach (known ++ more) file.folder texts (drop n (lines_in (lines_at known id)))
  left-behind more texts n =
      ap (λ f. file_left (known ++ more) texts n f (lines_at (known ++ more) id)) (file-behind learning known more id within ∙ here)
      ∙ ap (λ text. lines_reach (known ++ more) file.folder texts (drop n (lines_in text))) (lines-behind learning known more id within)

  -- a line that is passed
  file-step : (more : Known) (texts new : List ℕ) (n : ℕ) (line : List ℕ) → slice_get (lines_in (lines_at known id)) n ≡ Some line → line_step file.folder line texts (known ++ more) ≡ Reaches new → file_left (known ++ more) texts n (file_at (known ++ more) id) (lines_at (known ++ more) id) ≡ file_left (known ++ more) new (suc n) (file_at (known ++ more) id) (lines_at (known ++ more) id)
  file-step more texts new n line is passed =
      left-behind more texts n
      ∙ ap (lines_reach (known ++ more) file.folder texts) (drop-at (lines_in (lines_at known id)) n line is)
      ∙ ap (going_on (λ on. lines_reach (known ++ more) file.folder on (drop (suc n) (lines_in (lines_at known id))))) passed
      ∙ sym (left-behind more new (suc n))

  -- a line that wants a file
  file-wants : (texts : List ℕ) (n : ℕ) (line : List ℕ) (wanted : FileId) → slice_get (lines_in (lines_at known id)) n ≡ Some line → line_step file.folder line texts known ≡ Wants wanted → file_left known texts n (file_at known id) (lines_at known id) ≡ Wants wanted
  file-wants texts n line wanted is wants =
      ap (λ f. file_left known texts n f (lines_at known id)) here
      ∙ ap (lines_reach known file.folder texts) (drop-at (lines_in (lines_at known id)) n line is)
      ∙ ap (going_on (λ on. lines_reach known file.folder on (drop (suc n) (lines_in (lines_at known id))))) wants

  -- no line is left
  file-done : (more : Known) (texts : List ℕ) (n : ℕ) → length (lines_in (lines_at known id)) ≤ n → file_left (known ++ more) texts n (file_at (known ++ more) id) (lines_at (known ++ more) id) ≡ Reaches texts
  file-done more texts n past =
      left-behind more texts n ∙ ap (lines_reach (known ++ more) file.folder texts) (drop-past (lines_in (lines_at known id)) n past)

pub append-grows : (old mid new : List ℕ) → Grows old mid → Grows mid new → Grows old new
append-grows old mid new first second = (first.0 ++ second.0, second.1 ∙ ap (λ ts. ts ++ second.0) first.1 ∙ append_assoc old first.0 second.0)

none-past : {A : Type 0} (xs : List A) (n : ℕ) → slice_get xs n ≡ None → length xs ≤ n
none-past [] n is = omega arith
none-past (x ∷ xs) zero is = cc
none-past (x ∷ xs) (suc n) is = let more = none-past xs n is in omega arith

module _ (learning : LearningNumbers) (known : Known) (id : ℕ) (within : id < length known) (file : FileId) (here : file_at known id ≡ Some file) (begin old : Passed) (rest : (more : Known) → file_rest id (known ++ more) begin ≡ file_rest id (known ++ more) old) where
  -- no line is left
  pub text-done : slice_get (lines_in (lines_at known id)) old.lines ≡ None → Goes (file_rest id) known begin old None
  text-done none more = rest more ∙ file-done learning known id within file here more old.texts old.lines (none-past (lines_in (lines_at known id)) old.lines none)

  module _ (line : List ℕ) (at : slice_get (lines_in (lines_at known id)) old.lines ≡ Some line) (new : Passed) where
    -- a line is passed
    pub text-step : Steps known (line_step file.folder line old.texts) old.texts new.texts None → (more : Known) → file_rest id (known ++ more) begin ≡ file_left (known ++ more) new.texts (suc old.lines) (file_at (known ++ more) id) (lines_at (known ++ more) id)
    text-step passes more = rest more ∙ file-step learning known id within file here more old.texts new.texts old.lines line at (passes more)

    -- a line wants a file
    pub text-wants : (wanted : FileId) → Steps known (line_step file.folder line old.texts) old.texts new.texts (Some wanted) → new.lines ≡ old.lines → Goes (file_rest id) known begin new (Some wanted)
    text-wants wanted wants same =
        let moved : (k : Known) → file_rest id k old ≡ file_rest id k new = λ k. sym (ap (λ ts. file_left k ts new.lines (file_at k id) (lines_at k id)) wants.1 ∙ ap (λ n. file_left k old.texts n (file_at k id) (lines_at k id)) same) in
        (λ more. rest more ∙ moved (known ++ more), sym (moved known) ∙ file-wants learning known id within file here old.texts old.lines line wanted at wants.0, wants.2)

-- what is left of the texts reached is what is left from the first line of the next
module _ (known : Known) (texts : List ℕ) (place : ℕ) where
  -- the next text, with so many further on
  abbrev at_next : ℕ → Option ℕ → Reached
  at_next further None = Reaches texts
  at_next further (Some id) = going_on (texts_reach further known (suc place)) (file_reaches known texts (file_at known id) (lines_at known id))

  abbrev left_next : Option ℕ → Reached
  left_next None = Reaches texts
  left_next (Some id) = going_on (texts_reach (length known - suc place) known (suc place)) (file_left known texts 0 (file_at known id) (lines_at known id))

  first-lines : (file : Option FileId) (text : Text) → file_reaches known texts file text ≡ file_left known texts 0 file text
  first-lines None text = refl
  first-lines (Some file) text = ap (lines_reach known file.folder texts) (sym (drop-none (lines_in text)))

  by-next : (all : ℕ) (id : Option ℕ) → slice_get texts place ≡ id → all ≡ length known - place → length texts ≤ length known → texts_reach all known place texts ≡ left_next id
  by-next zero None is count few = refl
  by-next (suc n) None is count few = ap (at_next n) is
  by-next zero (Some id) is count few = let within = slice_get_within texts place id is in absurd (omega arith)
  by-next (suc n) (Some id) is count few =
      let within = slice_get_within texts place id is in
      let same : n ≡ length known - suc place = omega arith in
      ap (at_next n) is ∙ ap (λ m. going_on (texts_reach m known (suc place)) (file_reaches known texts (file_at known id) (lines_at known id))) same ∙ ap (going_on (texts_reach (length known - suc place) known (suc place))) (first-lines (file_at known id) (lines_at known id))

  pub further : length texts ≤ length known → texts_reach (length known - place) known place texts ≡ left known (record { texts = texts; place = place; lines = 0 })
  further few = by-next (length known - place) (slice_get texts place) refl refl few

-- a text that is gone through
pub left-at : (known : Known) (passed : Passed) (id : ℕ) → slice_get passed.texts passed.place ≡ Some id → left known passed ≡ going_on (texts_reach (length known - suc passed.place) known (suc passed.place)) (file_rest id known passed)
left-at known passed id is =
    ap (λ o. elim o [ None ↦ Reaches passed.texts | Some id ↦ going_on (texts_reach (length known - suc passed.place) known (suc passed.place)) (file_rest id known passed) ]) is

pub at-behind : (xs ys : List ℕ) (n x : ℕ) → slice_get xs n ≡ Some x → slice_get (xs ++ ys) n ≡ Some x
at-behind [] ys n x is = cc
at-behind (y ∷ xs) ys zero x is = is
at-behind (y ∷ xs) ys (suc n) x is = at-behind xs ys n x is

-- ---- The texts reached are as many as are known, at most.

pub few-inside : (known : Known) (texts : List ℕ) → IsDistinct nat_eq texts → IsInside known texts → length texts ≤ length known
few-inside known texts distinct inside = length-le_from_distinct_below texts (length known) distinct inside

pub has-at : (texts : List ℕ) (n id : ℕ) → slice_get texts n ≡ Some id → list_any (nat_eq id) texts ≡ true
has-at [] n id is = cc
has-at (x ∷ texts) zero id is = let same : x ≡ id = cc in grind (arith, tests)
has-at (x ∷ texts) (suc n) id is = let more = has-at texts n id is in grind (arith, tests)

module _ (known : Known) (begin old new : Passed) (id : ℕ) (at : slice_get old.texts old.place ≡ Some id) (rest : (more : Known) → left (known ++ more) begin ≡ left (known ++ more) old) where
  longer : (more : Known) → length known ≤ length (known ++ more)
  longer more = omega (arith, length-append known more)

  -- a text is gone through
  pub left-step : Goes (file_rest id) known old new None → length new.texts ≤ length known → (more : Known) → left (known ++ more) begin ≡ left (known ++ more) (record { texts = new.texts; place = suc old.place; lines = 0 })
  left-step goes few more =
      let all = known ++ more in
      let wide : length new.texts ≤ length all = omega (arith, longer more) in
      rest more ∙ left-at all old id at ∙ ap (going_on (texts_reach (length all - suc old.place) all (suc old.place))) (goes more) ∙ further all new.texts (suc old.place) wide

  -- a file is wanted
  pub left-wants : (wanted : FileId) → Goes (file_rest id) known old new (Some wanted) → Grows old.texts new.texts → new.place ≡ old.place → Goes left known begin new (Some wanted)
  left-wants wanted goes grows same =
      let at' : slice_get new.texts new.place ≡ Some id = ap (λ ts. slice_get ts new.place) grows.1 ∙ ap (λ p. slice_get (old.texts ++ grows.0) p) same ∙ at-behind old.texts grows.0 old.place id at in
      let onward : Known → Passed → Reached = λ k p. going_on (texts_reach (length k - suc p.place) k (suc p.place)) (file_rest id k p) in
      let here : (k : Known) → left k new ≡ onward k new = λ k. left-at k new id at' in
      let there : (k : Known) → left k old ≡ onward k old = λ k. left-at k old id at in (
        λ more. rest more ∙ there (known ++ more)
            ∙ ap (going_on (texts_reach (length (known ++ more) - suc old.place) (known ++ more) (suc old.place))) (goes.0 more)
            ∙ ap (λ p. going_on (texts_reach (length (known ++ more) - suc p) (known ++ more) (suc p)) (file_rest id (known ++ more) new)) (sym same)
            ∙ sym (here (known ++ more)),
        here known ∙ ap (going_on (texts_reach (length known - suc new.place) known (suc new.place))) goes.1,
        goes.2,
      )
