-- What a root reaches by the names that the graph lists is what it reaches by its lines.
use Rattle.std.proofs.Common.{◌≡◌, ◌≤◌, ◌<◌, ◌-◌, ◌++◌, ◌==◌, ℕ, zero, suc, true, false, cond, Bool, List, [], ◌∷◌, length, drop, Option, Some, None, refl, ap, sym, ◌∙◌, subst, arith}
use Rattle.std.specs.Prelude.{option_and_then, option_map, slice_get, IfSome, IsSome}
use Rattle.std.specs.List.{cons_option, list_any}
use Rattle.std.specs.Option.{is_some, unwrap_or}
use Rattle.std.proofs.lemmas.Bool.{lt-ltb}
use Rattle.ld_names.specs.Finding.{FindsExactly, IsThere}
use Rattle.ld_names.specs.Standing.{Absent, find, Found, Known, known_map, Present, Unknown}
use Rattle.ld_names.specs.declared.file.FileId.{FileId}
use Rattle.ld_names.specs.declared.file.TextId.{TextId}
use Rattle.ld_line.specs.Moved.{name_in}
use Rattle.ld_line.specs.Reading.{line_of}
use Rattle.ld_line.specs.declared.line.Line.{Line}
use Rattle.ld_line.specs.declared.line.Line.TheVariants.{Ref}
use Rattle.ld_texts.specs.Known.{AreDistinct, file_at, id_of, lines_at}
use Rattle.ld_texts.specs.Laws.{NumbersAgree}
use Rattle.ld_texts.specs.Reach.{file_reaches, going_on, line_reaches, lines_reach, reach, Reached, reached_by as name_reached, Reaches, texts_reach, Wants, wanted, wanted_in, with_found, with_reached}
use Rattle.ld_entry.specs.NumberedTexts.{found_from, known_files, known_texts, text_id_of}
use Rattle.ld_graph.specs.Agreeing.{items_of_known, names_among}
use Rattle.ld_graph.specs.AgreeingLaws.{ItemsAgree}
use Rattle.ld_graph.specs.Items.{Items, names_at}
use Rattle.ld_work.specs.Filling.{reached, reached_by, texts_in}
use Rattle.ld_work.specs.Inside.Reaching.{ArePresent, names_in, names_listed, names_reach, with_text}
use Rattle.ld_work.specs.Readers.{IsLearntRoot}
use Rattle.ld_work.proofs.Numbered.{files-at, number-of}

-- a text has no more names than lines
names-few : (lines : List (List ℕ)) → length (names_among lines) ≤ length lines
names-few [] = omega arith
names-few (line ∷ lines) = by (name_in (line_of line)) (names-few lines)
  where
    by : (name : Option (List ℕ)) → length (names_among lines) ≤ length lines → length (cons_option name (names_among lines)) ≤ suc (length lines)
    by None few = omega arith
    by (Some name) few = omega arith

pub listed-few : (known : Known) (text : TextId) → length (names_listed known text) ≤ unwrap_or (option_map length (lines_at known text.0)) 0
listed-few known text = by (lines_at known text.0)
  where
    by : (standing : Option (List (List ℕ))) → length (names_in standing) ≤ unwrap_or (option_map length standing) 0
    by None = omega arith
    by (Some lines) = names-few lines

-- going on twice
twice : (first second : List ℕ → Reached) (reached : Reached) → going_on second (going_on first reached) ≡ going_on (λ more. going_on second (first more)) reached
twice first second (Wants file) = refl
twice first second (Reaches texts) = refl

module _ (known : Known) (text : TextId) (file : FileId) (at : file_at known text.0 ≡ Some file) where
  abbrev finds : List ℕ → Option TextId
  finds name = (known_texts known).found text name

  found-is : (name : List ℕ) → finds name ≡ text_id_of (known_files known) (find (known_map known) file.folder name)
  found-is name = ap (found_from (known_map known) (known_files known) name) (files-at known text.0 ∙ at)

  name-reaches : (further : List ℕ → Reached) (all texts name : List ℕ) → going_on further (name_reached known texts name (find (known_map known) file.folder name)) ≡ Reaches all → further (with_text texts (finds name)) ≡ Reaches all
  name-reaches further all texts name goes = by (find (known_map known) file.folder name) refl goes
    where
      numbered : (number : Option ℕ) → going_on further (with_found texts number) ≡ Reaches all → further (with_text texts (option_map (λ n. record { 0 = n }) number)) ≡ Reaches all
      numbered None goes' = goes'
      numbered (Some n) goes' = goes'

      by : (found : Found) → find (known_map known) file.folder name ≡ found → going_on further (name_reached known texts name found) ≡ Reaches all → further (with_text texts (finds name)) ≡ Reaches all
      by (Present other) is goes' =
          ap (λ o. further (with_text texts o)) (found-is name ∙ ap (text_id_of (known_files known)) is ∙ number-of known other) ∙ numbered (id_of known other) goes'
      by Absent is goes' = ap (λ o. further (with_text texts o)) (found-is name ∙ ap (text_id_of (known_files known)) is) ∙ goes'
      by (Unknown folder) is goes' = cc

  lines-reach : (further : List ℕ → Reached) (all texts : List ℕ) (lines : List (List ℕ)) → going_on further (lines_reach known file.folder texts lines) ≡ Reaches all → further (names_reach (known_texts known) text texts (names_among lines)) ≡ Reaches all
  lines-reach further all texts [] goes = goes
  lines-reach further all texts (line ∷ lines) goes =
      by (line_of line) (λ more. lines-reach further all more lines) (sym (twice (λ more. lines_reach known file.folder more lines) further (line_reaches known file.folder texts (line_of line))) ∙ goes)
    where
      by : (this : Line) → ((more : List ℕ) → going_on further (lines_reach known file.folder more lines) ≡ Reaches all → further (names_reach (known_texts known) text more (names_among lines)) ≡ Reaches all)
          → going_on (λ more. going_on further (lines_reach known file.folder more lines)) (line_reaches known file.folder texts this) ≡ Reaches all
          → further (names_reach (known_texts known) text texts (cons_option (name_in this) (names_among lines))) ≡ Reaches all
      by (Ref word placement (Some name)) behind goes' = behind (with_text texts (finds name)) (name-reaches (λ more. going_on further (lines_reach known file.folder more lines)) all texts name goes')
      by (Ref word placement None) behind goes' = behind texts goes'
      by this behind goes' = behind texts goes'

  file-reaches : (further : List ℕ → Reached) (all texts : List ℕ) → going_on further (file_reaches known texts (Some file) (lines_at known text.0)) ≡ Reaches all → further (names_reach (known_texts known) text texts (names_listed known text)) ≡ Reaches all
  file-reaches further all texts goes = by (lines_at known text.0) goes
    where
      by : (standing : Option (List (List ℕ))) → going_on further (file_reaches known texts (Some file) standing) ≡ Reaches all → further (names_reach (known_texts known) text texts (names_in standing)) ≡ Reaches all
      by None goes' = goes'
      by (Some lines) goes' = lines-reach further all texts lines goes'

module _ (known : Known) where
  some-file : (number : ℕ) → is_some (file_at known number) ≡ true → (file : FileId) × (file_at known number ≡ Some file)
  some-file number there = by (file_at known number) there
    where
      by : (o : Option FileId) → is_some o ≡ true → (file : FileId) × (o ≡ Some file)
      by None is = cc
      by (Some file) is = (file, refl)

  -- the text at a place is gone through
  pub reach-step : (left place : ℕ) (texts all : List ℕ) (text : ℕ) → slice_get texts place ≡ Some text → is_some (file_at known text) ≡ true → texts_reach (suc left) known place texts ≡ Reaches all → texts_reach left known (suc place) (names_reach (known_texts known) (record { 0 = text }) texts (names_listed known (record { 0 = text }))) ≡ Reaches all
  reach-step left place texts all text at there goes =
      let file = some-file text there in
      let goes' : going_on (texts_reach left known (suc place)) (file_reaches known texts (file_at known text) (lines_at known text)) ≡ Reaches all =
      sym (ap (λ o. elim o [ None ↦ Reaches texts | Some id ↦ going_on (texts_reach left known (suc place)) (file_reaches known texts (file_at known id) (lines_at known id)) ]) at) ∙ goes in
      file-reaches known (record { 0 = text }) file.0 file.1 (texts_reach left known (suc place)) all texts (sym (ap (λ o. going_on (texts_reach left known (suc place)) (file_reaches known texts o (lines_at known text))) file.1) ∙ goes')

  reaches-same : (texts all : List ℕ) → Reaches texts ≡ Reaches all → texts ≡ all
  reaches-same texts all same = ap texts_in same

  -- all places are gone through
  pub reach-done : (place left : ℕ) (texts all : List ℕ) → left ≡ 0 → texts_reach left known place texts ≡ Reaches all → texts ≡ all
  reach-done place zero texts all none goes = reaches-same texts all goes
  reach-done place (suc left) texts all none goes = absurd (omega arith)

  -- no text stands at the place
  pub reach-ended : (place left : ℕ) (texts all : List ℕ) → slice_get texts place ≡ None → texts_reach left known place texts ≡ Reaches all → texts ≡ all
  reach-ended place zero texts all none goes = reaches-same texts all goes
  reach-ended place (suc left) texts all none goes =
      reaches-same texts all (sym (ap (λ o. elim o [ None ↦ Reaches texts | Some id ↦ going_on (texts_reach left known (suc place)) (file_reaches known texts (file_at known id) (lines_at known id)) ]) none) ∙ goes)

  -- the root is gone through first
  pub reach-begins : NumbersAgree → AreDistinct known → (root : TextId) → IsLearntRoot known root → texts_reach (length known) known 0 (root.0 ∷ []) ≡ Reaches (reached known root)
  unfolding reach
  reach-begins numbers distinct root learnt =
      let file = some-file root.0 (by (lines_at known root.0) refl learnt.present) in
      let id = numbers.number known file.0 root.0 distinct file.1 in
      let nothing : wanted known file.0 ≡ None = subst (λ o. IfSome o (λ file. wanted known file ≡ None)) file.1 learnt.wanted in
      let goes : reach known file.0 ≡ texts_reach (length known) known 0 (root.0 ∷ []) = ap (λ o. elim o [ None ↦ Wants file.0 | Some id ↦ texts_reach (length known) known 0 (id ∷ []) ]) id in
      let is : reached known root ≡ texts_in (reach known file.0) = ap (reached_by known) file.1 in
      sym goes ∙ settled (reach known file.0) nothing ∙ ap Reaches (sym is)
    where
      settled : (r : Reached) → wanted_in r ≡ None → r ≡ Reaches (texts_in r)
      settled (Wants file) none = cc
      settled (Reaches texts) none = refl

      by : (standing : Option (List (List ℕ))) → lines_at known root.0 ≡ standing → IsSome standing → is_some (file_at known root.0) ≡ true
      by None is there = cc
      by (Some lines) is there = numbers.there known root.0 ∙ lt-ltb root.0 (length known) (numbers.present known root.0 lines is)

-- the text at the next place
pub reach-next : NumbersAgree → (known : Known) (place next : ℕ) (texts new all : List ℕ) (text : ℕ) → place < length known → next ≡ suc place → slice_get texts place ≡ Some text → IsSome (lines_at known text) → new ≡ names_reach (known_texts known) (record { 0 = text }) texts (names_listed known (record { 0 = text })) → texts_reach (length known - place) known place texts ≡ Reaches all → texts_reach (length known - next) known next new ≡ Reaches all
reach-next numbers known place next texts new all text within is at there more goes =
    let left : length known - place ≡ suc (length known - next) = omega arith in
    ap (λ ts. texts_reach (length known - next) known next ts) more
    ∙ ap (λ n. texts_reach (length known - next) known n (names_reach (known_texts known) (record { 0 = text }) texts (names_listed known (record { 0 = text })))) is
    ∙ reach-step known (length known - next) place texts all text at (by (lines_at known text) refl there) (sym (ap (λ n. texts_reach n known place texts) left) ∙ goes)
  where
    by : (standing : Option (List (List ℕ))) → lines_at known text ≡ standing → IsSome standing → is_some (file_at known text) ≡ true
    by None is' there' = cc
    by (Some lines) is' there' = numbers.there known text ∙ lt-ltb text (length known) (numbers.present known text lines is')

present-append : (known : Known) (texts : List ℕ) (text : ℕ) → ArePresent known texts → IsSome (lines_at known text) → ArePresent known (texts ++ text ∷ [])
present-append known [] text are there = (there, tt)
present-append known (first ∷ texts) text are there = (are.0, present-append known texts text are.1 there)

-- ---- What a name finds is there.

module _ (numbers : NumbersAgree) (finds_law : FindsExactly) (known : Known) (text : TextId) (name : List ℕ) where
  there-by : (other : TextId) (found : Found) (file : FileId) → find (known_map known) file.folder name ≡ found → text_id_of (known_files known) found ≡ Some other → IsSome (lines_at known other.0)
  there-by other Absent file is got = cc
  there-by other (Unknown folder) file is got = cc
  there-by other (Present target) file is got = by (id_of known target) refl ((finds_law.present (known_map known) file.folder name target).0 is).2
    where
      some : (lines : List (List ℕ)) (standing : Option (List (List ℕ))) → Some (Some lines) ≡ Some standing → IsSome standing
      some lines None same = cc
      some lines (Some other_lines) same = refl

      by : (number : Option ℕ) → id_of known target ≡ number → IsThere (known_map known) target → IsSome (lines_at known other.0)
      by None none there = let no : Some (Some there.0) ≡ None = sym there.1 ∙ numbers.map known target ∙ ap (option_map (lines_at known)) none in cc
      by (Some n) at there =
          let same : Some (record { 0 = n }) ≡ Some other = ap (option_map (λ m. record { 0 = m })) (sym at) ∙ sym (number-of known target) ∙ got in
          let number : n ≡ other.0 = ap (λ (o : Option TextId). (unwrap_or o other).0) same in
          some there.0 (lines_at known other.0) (sym there.1 ∙ numbers.map known target ∙ ap (option_map (lines_at known)) at ∙ ap (λ m. Some (lines_at known m)) number)

  pub found-there : (other : TextId) → (known_texts known).found text name ≡ Some other → IsSome (lines_at known other.0)
  found-there other got = by (file_at known text.0) refl
    where
      by : (file : Option FileId) → file_at known text.0 ≡ file → IsSome (lines_at known other.0)
      by None is = let no : None ≡ Some other = sym (ap (found_from (known_map known) (known_files known) name) (files-at known text.0 ∙ is)) ∙ got in cc
      by (Some file) is = there-by other (find (known_map known) file.folder name) file refl (sym (ap (found_from (known_map known) (known_files known) name) (files-at known text.0 ∙ is)) ∙ got)

-- a text more is reached, where it is there
pub present-with : (known : Known) (texts new : List ℕ) (text : ℕ) → new ≡ with_reached texts text → ArePresent known texts → IsSome (lines_at known text) → ArePresent known new
present-with known texts new text is are there = subst (ArePresent known) (sym is) (by (list_any (λ reached. text == reached) texts))
  where
    by : (b : Bool) → ArePresent known (cond b texts (texts ++ text ∷ []))
    by true = are
    by false = present-append known texts text are there

-- ---- The names that are listed.

pub listed-at : (known : Known) (text : TextId) (items : Items) (index : ℕ) → ItemsAgree known → items ≡ items_of_known known → option_and_then (λ names. slice_get names index) (names_at items text.0) ≡ slice_get (names_listed known text) index
listed-at known text items index agree is =
    ap (λ its. option_and_then (λ names. slice_get names index) (names_at its text.0)) is
    ∙ ap (option_and_then (λ names. slice_get names index)) (agree.names text.0)
    ∙ by (lines_at known text.0)
  where
    by : (standing : Option (List (List ℕ))) → option_and_then (λ names. slice_get names index) (option_map names_among standing) ≡ slice_get (names_in standing) index
    by None = refl
    by (Some lines) = refl

pub none-behind : {X : Type 0} (xs : List X) (i : ℕ) → slice_get xs i ≡ None → drop i xs ≡ []
none-behind [] zero none = refl
none-behind [] (suc i) none = refl
none-behind (x ∷ xs) zero none = cc
none-behind (x ∷ xs) (suc i) none = none-behind xs i none

pub past-all : {X : Type 0} (xs : List X) (i : ℕ) → length xs ≤ i → drop i xs ≡ []
past-all [] zero past = refl
past-all [] (suc i) past = refl
past-all (x ∷ xs) zero past = absurd (omega arith)
past-all (x ∷ xs) (suc i) past = past-all xs i (omega arith)

next-behind : (xs : List (List ℕ)) (i : ℕ) (x : List ℕ) → slice_get xs i ≡ Some x → drop i xs ≡ x ∷ drop (suc i) xs
next-behind [] i x at = cc
next-behind (y ∷ xs) zero x at = let same : y ≡ x = cc in ap (λ z. z ∷ xs) same
next-behind (y ∷ xs) (suc i) x at = next-behind xs i x at

-- one name more
pub name-next : (known : Known) (text : TextId) (texts new all : List ℕ) (index next : ℕ) (name : List ℕ) → next ≡ suc index → slice_get (names_listed known text) index ≡ Some name → new ≡ with_text texts ((known_texts known).found text name) → names_reach (known_texts known) text texts (drop index (names_listed known text)) ≡ all → names_reach (known_texts known) text new (drop next (names_listed known text)) ≡ all
name-next known text texts new all index next name is at more goes =
    ap (λ ts. names_reach (known_texts known) text ts (drop next (names_listed known text))) more
    ∙ ap (λ n. names_reach (known_texts known) text (with_text texts ((known_texts known).found text name)) (drop n (names_listed known text))) is
    ∙ sym (ap (names_reach (known_texts known) text texts) (next-behind (names_listed known text) index name at))
    ∙ goes
