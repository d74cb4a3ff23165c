-- The lines of a text, by what they say and find.
use Rattle.std.proofs.Common.{◌≡◌, ◌<◌, ℕ, zero, suc, List, [], ◌∷◌, ◌++◌, length, map, take, drop, Option, Some, None, Ok, refl, ap, sym, subst, ◌∙◌, arith}
use Rattle.std.specs.Prelude.{slice_get, option_map}
use Rattle.ld_names.specs.declared.file.TextId.{TextId}
use Rattle.ld_line.specs.declared.line.Line.{Line}
use Rattle.ld_line.specs.declared.line.Line.TheVariants.{Draw, Ref}
use Rattle.ld_bfc.specs.LineState.{next, start}
use Rattle.ld_bfc.specs.declared.culling.State.{State}
use Rattle.ld_entry.specs.Heights.{Refers}
use Rattle.ld_entry.specs.Laws.{CarryLaws, WalkLaws}
use Rattle.ld_entry.specs.NumberedTexts.{NumberedTexts}
use Rattle.ld_entry.specs.Outcomes.{all_by_line, Context, Enter, found_outcomes, line_outcomes, outcomes_by_line, outcomes_from, own_entry}
use Rattle.ld_entry.specs.declared.entry.Source.{Source}
use Rattle.ld_work.specs.Inside.Gathering.{alone, enter_with}
use Rattle.ld_work.specs.Inside.Parsing.{finding_by, finding_of, IsAt, parsed, parsed_from, parsed_lines, parsed_outcomes, reads_parsed, reads_used, said_of, used_outcomes}
use Rattle.ld_work.specs.Inside.Working.{IsLineOf}
use Rattle.ld_work.specs.Reads.{Basis, Below, reads_below, reads_found}
use Rattle.ld_work.specs.declared.cursor.Cursor.{Cursor}
use Rattle.ld_work.specs.declared.line.Finding.TheVariants.{File}
use Rattle.ld_work.specs.declared.line.ParsedLine.{ParsedLine}
use Rattle.ld_work.specs.declared.line.Reference.{Reference}
use Rattle.ld_work.specs.declared.line.Said.TheVariants.{Uses}

-- ---- Places in a list.

pub at-place : {A : Type 0} (xs : List A) (n : ℕ) (x : A) → slice_get xs n ≡ Some x → drop n xs ≡ x ∷ drop (suc n) xs
at-place [] n x is = cc
at-place (y ∷ xs) zero x is = let same : y ≡ x = cc in ap (λ z. z ∷ xs) same
at-place (y ∷ xs) (suc n) x is = at-place xs n x is

pub past-end : {A : Type 0} (xs : List A) (n : ℕ) → slice_get xs n ≡ None → drop n xs ≡ []
past-end [] zero is = refl
past-end [] (suc n) is = refl
past-end (y ∷ xs) zero is = cc
past-end (y ∷ xs) (suc n) is = past-end xs n is

pub dropped-first : {A : Type 0} (xs : List A) (n : ℕ) (x : A) (rest : List A) → drop n xs ≡ x ∷ rest → (slice_get xs n ≡ Some x) × (drop (suc n) xs ≡ rest)
dropped-first [] zero x rest is = cc
dropped-first [] (suc n) x rest is = cc
dropped-first (y ∷ xs) zero x rest is = (cc, cc)
dropped-first (y ∷ xs) (suc n) x rest is = dropped-first xs n x rest is

pub dropped-all : {A : Type 0} (xs : List A) (n : ℕ) → drop n xs ≡ [] → slice_get xs n ≡ None
dropped-all [] zero is = refl
dropped-all [] (suc n) is = refl
dropped-all (y ∷ xs) zero is = cc
dropped-all (y ∷ xs) (suc n) is = dropped-all xs n is

pub none-dropped : {A : Type 0} (xs : List A) → drop 0 xs ≡ xs
none-dropped [] = refl
none-dropped (x ∷ xs) = refl

pub none-taken : {A : Type 0} (xs : List A) → take 0 xs ≡ []
none-taken [] = refl
none-taken (x ∷ xs) = refl

pub take-next : {A : Type 0} (xs : List A) (n : ℕ) (x : A) → slice_get xs n ≡ Some x → take (suc n) xs ≡ take n xs ++ x ∷ []
take-next [] n x is = cc
take-next (y ∷ xs) zero x is = let same : y ≡ x = cc in ap (λ z. z ∷ []) same
take-next (y ∷ xs) (suc n) x is = ap (λ zs. y ∷ zs) (take-next xs n x is)

pub get-taken : {A : Type 0} (xs : List A) (k n : ℕ) → n < length (take k xs) → slice_get (take k xs) n ≡ slice_get xs n
get-taken [] zero n within = absurd (omega arith)
get-taken [] (suc k) n within = absurd (omega arith)
get-taken (y ∷ xs) zero n within = absurd (omega arith)
get-taken (y ∷ xs) (suc k) zero within = refl
get-taken (y ∷ xs) (suc k) (suc n) within = get-taken xs k n (omega arith)

pub get-map : {A B : Type 0} (f : A → B) (xs : List A) (n : ℕ) → slice_get (map f xs) n ≡ option_map f (slice_get xs n)
get-map f [] n = refl
get-map f (x ∷ xs) zero = refl
get-map f (x ∷ xs) (suc n) = get-map f xs n

pub get-there : {A : Type 0} (xs : List A) (n : ℕ) → n < length xs → (x : A) × (slice_get xs n ≡ Some x)
get-there [] n within = absurd (omega arith)
get-there (x ∷ xs) zero within = (x, refl)
get-there (x ∷ xs) (suc n) within = get-there xs n (omega arith)

-- ---- Parsed lines.

module _ (texts : NumberedTexts) (text : TextId) where
  parsed-length : (state : State) (number : ℕ) (lines : List Line) → length (parsed_from texts text state number lines) ≡ length lines
  parsed-length state number [] = refl
  parsed-length state number (line ∷ lines) = ap suc (parsed-length (next state line) (suc number) lines)

  pub lines-length : length (parsed_lines texts text) ≡ length (texts.lines text)
  unfolding parsed_lines
  lines-length = parsed-length (start (texts.is_part text)) 1 (texts.lines text)

  -- a parsed line is a line of the text
  pub record IsLineAt (lines : List Line) (n : ℕ) (line : ParsedLine) : Type 0 where
    pub own : Line
    pub at : slice_get lines n ≡ Some own
    pub state : State
    pub number : ℕ
    pub is : line ≡ parsed texts state (record { text = text; line = number }) own

  parsed-at : (state : State) (number : ℕ) (lines : List Line) (n : ℕ) (line : ParsedLine) → slice_get (parsed_from texts text state number lines) n ≡ Some line → IsLineAt lines n line
  parsed-at state number [] n line at = cc
  parsed-at state number (own ∷ lines) zero line at = record { own = own; at = refl; state = state; number = number; is = sym (cc) }
  parsed-at state number (own ∷ lines) (suc n) line at =
      let rest = parsed-at (next state own) (suc number) lines n line at in
      record { own = rest.own; at = rest.at; state = rest.state; number = rest.number; is = rest.is }

  pub line-at : (n : ℕ) (line : ParsedLine) → slice_get (parsed_lines texts text) n ≡ Some line → IsLineAt (texts.lines text) n line
  unfolding parsed_lines
  line-at n line at = parsed-at (start (texts.is_part text)) 1 (texts.lines text) n line at

  -- what its name finds is what its own line finds
  finds-by : WalkLaws → (n : ℕ) (own : Line) (file : TextId) → slice_get (texts.lines text) n ≡ Some own → finding_of texts text own ≡ File file → Refers texts text file
  finds-by walks n (Ref word placement None) file at is = cc
  finds-by walks n (Ref word placement (Some name)) file at is = by (texts.found text name) refl is
    where
      by : (found : Option TextId) → texts.found text name ≡ found → finding_by found ≡ File file → Refers texts text file
      by None none is = cc
      by (Some other) some is =
          let same : other ≡ file = cc in
          walks.refers texts text file n word placement name at (some ∙ ap (λ f. Some f) same)
  finds-by walks n own file at is = cc

  source-by : (state : State) (source : Source) (own : Line) (reference : Reference) → said_of state source own ≡ Uses reference → reference.source ≡ source
  source-by state source (Draw kind word points) reference is = cc
  source-by state source (Ref word placement name) reference is =
      let same : reference ≡ record { state = state; source = source; colour = word; placement = placement } = cc in
      ap (λ (r : Reference). r.source) same
  source-by state source own reference is = cc

  pub is-line : WalkLaws → (n : ℕ) (line : ParsedLine) → slice_get (parsed_lines texts text) n ≡ Some line → IsLineOf texts text line
  is-line walks n line at =
      let here = line-at n line at in
      record {
        source = λ reference uses. ap (λ (s : Source). s.text) (source-by here.state (record { text = text; line = here.number }) here.own reference (sym (ap (λ (l : ParsedLine). l.said) here.is) ∙ uses));
        finds = λ file found. finds-by walks n here.own file here.at (sym (ap (λ (l : ParsedLine). l.finding) here.is) ∙ found);
      }

-- ---- What they give.

by-line : (left : ℕ) (context : Context) → all_by_line left context ≡ outcomes_by_line (enter_with left) context
unfolding all_by_line
by-line zero context = refl
by-line (suc left) context = refl

module _ (carry : CarryLaws) (enter : Enter) (texts : NumberedTexts) (way : List TextId) where
  line-gives : (state : State) (source : Source) (line : Line) → line_outcomes enter (alone texts way source.text) state source line ≡ parsed_outcomes enter texts way (parsed texts state source line)
  line-gives state source (Draw kind word points) = ap (λ o. o ∷ []) (carry.nothing (Ok (own_entry state source kind word points)))
  line-gives state source (Ref word placement None) = refl
  line-gives state source (Ref word placement (Some name)) = by (texts.found source.text name)
    where
      by : (file : Option TextId) → found_outcomes enter (alone texts way source.text) state source word placement file ≡ used_outcomes enter texts way (record { state = state; source = source; colour = word; placement = placement }) (finding_by file)
      by None = refl
      by (Some file) = refl
  line-gives state source line = refl

  lines-give : (text : TextId) (state : State) (number : ℕ) (lines : List Line) → outcomes_from enter (alone texts way text) state number lines ≡ map (parsed_outcomes enter texts way) (parsed_from texts text state number lines)
  lines-give text state number [] = refl
  lines-give text state number (line ∷ lines) =
      let source : Source = record { text = text; line = number } in
      ap (λ o. o ∷ outcomes_from enter (alone texts way text) (next state line) (suc number) lines) (line-gives state source line)
      ∙ ap (λ os. parsed_outcomes enter texts way (parsed texts state source line) ∷ os) (lines-give text (next state line) (suc number) lines)

pub text-gives : CarryLaws → (left : ℕ) (texts : NumberedTexts) (way : List TextId) (text : TextId) → all_by_line left (alone texts way text) ≡ map (parsed_outcomes (enter_with left) texts way) (parsed_lines texts text)
unfolding parsed_lines
text-gives carry left texts way text =
    by-line left (alone texts way text) ∙ lines-give carry (enter_with left) texts way text (start (texts.is_part text)) 1 (texts.lines text)

-- ---- How many lines are read below them.

pub line-reads : (basis : Basis) (below : Below) (way : List TextId) (text : TextId) (state : State) (number : ℕ) (line : Line) → reads_below basis below way text line ≡ reads_parsed basis below (way ++ text ∷ []) (finding_of basis.texts text line) (said_of state (record { text = text; line = number }) line)
line-reads basis below way text state number (Draw kind word points) = refl
line-reads basis below way text state number (Ref word placement None) = refl
line-reads basis below way text state number (Ref word placement (Some name)) = by (basis.texts.found text name)
  where
    by : (file : Option TextId) → reads_found basis below (way ++ text ∷ []) file ≡ reads_used basis below (way ++ text ∷ []) (finding_by file)
    by None = refl
    by (Some file) = refl
line-reads basis below way text state number line = refl

-- ---- The cursor.

module _ (texts : NumberedTexts) (text : TextId) where
  pub at-begin : (state : State) → state ≡ start (texts.is_part text) → parsed_from texts text state 1 (drop 0 (texts.lines text)) ≡ drop 0 (parsed_lines texts text)
  unfolding parsed_lines
  at-begin state is =
      ap (parsed_from texts text state 1) (none-dropped (texts.lines text)) ∙ ap (λ s. parsed_from texts text s 1 (texts.lines text)) is ∙ sym (none-dropped (parsed_lines texts text))

  module _ (cursor : Cursor) (here : cursor.text ≡ text) (at : IsAt texts cursor) where
    rest-is : parsed_from texts text cursor.state (suc cursor.before) (drop cursor.before (texts.lines text)) ≡ drop cursor.before (parsed_lines texts text)
    rest-is =
        subst (λ t. parsed_from texts t cursor.state (suc cursor.before) (drop cursor.before (texts.lines t)) ≡ drop cursor.before (parsed_lines texts t)) here at.rest

    pub read-none : slice_get (texts.lines text) cursor.before ≡ None → slice_get (parsed_lines texts text) cursor.before ≡ None
    read-none none =
        dropped-all (parsed_lines texts text) cursor.before (sym rest-is ∙ ap (parsed_from texts text cursor.state (suc cursor.before)) (past-end (texts.lines text) cursor.before none))

    module _ (line : Line) (there : slice_get (texts.lines text) cursor.before ≡ Some line) where
      first-is : (slice_get (parsed_lines texts text) cursor.before ≡ Some (parsed texts cursor.state (record { text = text; line = suc cursor.before }) line)) × (drop (suc cursor.before) (parsed_lines texts text) ≡ parsed_from texts text (next cursor.state line) (suc (suc cursor.before)) (drop (suc cursor.before) (texts.lines text)))
      first-is =
          dropped-first (parsed_lines texts text) cursor.before _ _ (sym rest-is ∙ ap (parsed_from texts text cursor.state (suc cursor.before)) (at-place (texts.lines text) cursor.before line there))

      pub read-line : (number : ℕ) → number ≡ suc cursor.before → slice_get (parsed_lines texts text) cursor.before ≡ Some (parsed texts cursor.state (record { text = text; line = number }) line)
      read-line number is = first-is.0 ∙ ap (λ n. Some (parsed texts cursor.state (record { text = text; line = n }) line)) (sym is)

      pub read-on : (number : ℕ) (after : State) → number ≡ suc cursor.before → after ≡ next cursor.state line → parsed_from texts text after (suc number) (drop number (texts.lines text)) ≡ drop number (parsed_lines texts text)
      read-on number after is follows =
          ap (λ n. parsed_from texts text after (suc n) (drop n (texts.lines text))) is
          ∙ ap (λ s. parsed_from texts text s (suc (suc cursor.before)) (drop (suc cursor.before) (texts.lines text))) follows
          ∙ sym first-is.1 ∙ ap (λ n. drop n (parsed_lines texts text)) (sym is)
