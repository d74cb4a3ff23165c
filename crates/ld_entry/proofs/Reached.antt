-- Where nothing is wanted for a root, the texts that it reaches are learnt.
use Rattle.std.proofs.Common.{◌≡◌, ◌<◌, ◌≤◌, ◌+◌, ◌++◌, ◌||◌, ◌==◌, ◌⊎◌, inl, inr, ℕ, zero, suc, Bool, true, false, cond, List, [], ◌∷◌, length, map, Option, Some, None, refl, ap, sym, subst, ◌∙◌, append-nil, append_assoc, arith, tests}
use Rattle.std.specs.Prelude.{slice_get, nat_eq, option_map}
use Rattle.std.specs.List.{AllByRecursion, IsDistinct, list_any}
use Rattle.std.specs.Option.{is_some}
use Rattle.std.proofs.lemmas.Bool.{cases_Bool, lt-ltb, ltb-true}
use Rattle.std.proofs.lemmas.List.Folds.{list_any-append}
use Rattle.std.proofs.lemmas.Map.Keys.{IsDistinct-cons, IsDistinct-head, IsDistinct-tail}
use Rattle.std.proofs.lemmas.Map.Steps.{length-le_from_distinct_below}
use Rattle.std.proofs.lemmas.Option.{slice_get_within}
use Rattle.ld_names.specs.Standing.{Absent, find, Found, Known, known_map, Present, Text, Unknown}
use Rattle.ld_names.specs.declared.file.FileId.{FileId}
use Rattle.ld_names.specs.declared.file.TextId.{TextId}
use Rattle.ld_line.specs.Reading.{line_of}
use Rattle.ld_line.specs.declared.line.Line.{Line}
use Rattle.ld_line.specs.declared.line.Line.TheVariants as line
use Rattle.ld_texts.specs.Known.{AreDistinct, file_at, id_of, lines_at}
use Rattle.ld_texts.specs.Laws.{NumbersAgree}
use Rattle.ld_texts.specs.Reach.{file_reaches, going_on, line_reaches, lines_in, lines_reach, reach, Reached, reached_by, Reaches, texts_reach, wanted_in, Wants, with_found, with_reached}
use Rattle.ld_entry.specs.Laws.{ReachedLaw}
use Rattle.ld_entry.specs.Learnt.{FindsInside, is_among, IsLearnt, WantsNothing}
use Rattle.ld_entry.specs.NumberedTexts.{found_from, known_files, known_texts, lines_of_file, text_id_of}
use Rattle.ld_entry.specs.NumberedTexts as numbered

-- ---- The known texts by numbers.

file-within : NumbersAgree → (known : Known) (n : ℕ) (file : FileId) → file_at known n ≡ Some file → n < length known
file-within numbers known n file is = ltb-true n (length known) (sym (numbers.there known n) ∙ ap is_some is)

id-within : NumbersAgree → (known : Known) (file : FileId) (n : ℕ) → id_of known file ≡ Some n → n < length known
id-within numbers known file n is = file-within numbers known n file (numbers.file known file n is)

get-map : {A B : Type 0} (f : A → B) (xs : List A) (n : ℕ) → slice_get (map f xs) n ≡ option_map f (slice_get xs n)
get-map f [] n = refl
get-map f (x ∷ xs) zero = refl
get-map f (x ∷ xs) (suc n) = get-map f xs n

pub files-at : (known : Known) (n : ℕ) → slice_get (known_files known) n ≡ file_at known n
unfolding file_at
files-at known n = get-map (λ entry. entry.0) known n

-- the number of a file
pub number-of : (known : Known) (file : FileId) → text_id_of (known_files known) (Present file) ≡ option_map (λ n. record { 0 = n }) (id_of known file)
unfolding id_of
number-of known file = refl

module _ (numbers : NumbersAgree) (known : Known) (distinct : AreDistinct known) (n : ℕ) where
  abbrev id : TextId
  id = record { 0 = n }

  -- what the map says of the file at a number
  map-at : (file : FileId) → file_at known n ≡ Some file → known_map known file ≡ Some (lines_at known n)
  map-at file is = numbers.map known file ∙ ap (option_map (lines_at known)) (numbers.number known file n distinct is)

  none-there : file_at known n ≡ None → lines_at known n ≡ None
  none-there none = by (lines_at known n) refl
    where
      by : (text : Text) → lines_at known n ≡ text → lines_at known n ≡ None
      by None is = is
      by (Some lines) is =
          let within = numbers.present known n lines is in
          let there : false ≡ true = sym (ap is_some none) ∙ numbers.there known n ∙ lt-ltb n _ within in cc

  lines-in : (file : FileId) (text : Text) → known_map known file ≡ Some text → lines_of_file (known_map known) (Some file) ≡ map line_of (lines_in text)
  lines-in file None is = ap (λ o. map line_of (numbered.standing_lines o)) is
  lines-in file (Some lines) is = ap (λ o. map line_of (numbered.standing_lines o)) is

  lines-seen : (known_texts known).lines id ≡ map line_of (lines_in (lines_at known n))
  lines-seen = by (file_at known n) refl
    where
      by : (file : Option FileId) → file_at known n ≡ file → (known_texts known).lines (record { 0 = n }) ≡ map line_of (lines_in (lines_at known n))
      by None is = ap (lines_of_file (known_map known)) (files-at known n ∙ is) ∙ sym (ap (λ text. map line_of (lines_in text)) (none-there is))
      by (Some file) is = ap (lines_of_file (known_map known)) (files-at known n ∙ is) ∙ lines-in file (lines_at known n) (map-at file is)

-- ---- Texts that grow.

-- further texts stand behind those of before
abbrev Grows : List ℕ → List ℕ → Type 0
Grows old new = (more : List ℕ) × (new ≡ old ++ more)

-- these texts are known
abbrev AreWithin : Known → List ℕ → Type 0
AreWithin known texts = (id : ℕ) → list_any (nat_eq id) texts ≡ true → id < length known

append-grows : (old mid new : List ℕ) → Grows old mid → Grows mid new → Grows old new
append-grows old mid new first second = (first.0 ++ second.0, second.1 ∙ ap (λ ts. ts ++ second.0) first.1 ∙ append_assoc old first.0 second.0)

at-behind : (xs ys : List ℕ) (n x : ℕ) → slice_get xs n ≡ Some x → slice_get (xs ++ ys) n ≡ Some x
at-behind [] ys n x is = cc
at-behind (y ∷ xs) ys zero x is = is
at-behind (y ∷ xs) ys (suc n) x is = at-behind xs ys n x is

few-inside : (known : Known) (texts : List ℕ) → IsDistinct nat_eq texts → AreWithin known texts → length texts ≤ length known
few-inside known texts distinct inside = length-le_from_distinct_below texts (length known) distinct inside

has-at : (texts : List ℕ) (n id : ℕ) → slice_get texts n ≡ Some id → list_any (nat_eq id) texts ≡ true
has-at [] n id is = cc
has-at (x ∷ texts) zero id is = let same : x ≡ id = cc in grind (arith, tests)
has-at (x ∷ texts) (suc n) id is = let more = has-at texts n id is in grind (arith, tests)

inside-with : (known : Known) (texts : List ℕ) (id : ℕ) → AreWithin known texts → id < length known → AreWithin known (with_reached texts id)
inside-with known texts id inside within = by (list_any (λ reached. id == reached) texts)
  where
    by : (has : Bool) → AreWithin known (cond has texts (texts ++ id ∷ []))
    by true other is = inside other is
    by false other is = elim (cases_Bool (list_any (nat_eq other) texts)) [
      | inl here ↦ inside other here
      | inr apart ↦ let same : other ≡ id = grind (arith, tests, list_any-append (nat_eq other) texts (id ∷ []), apart, is) in omega arith
    ]

grows-with : (texts : List ℕ) (id : ℕ) → Grows texts (with_reached texts id)
grows-with texts id = by (list_any (λ reached. id == reached) texts)
  where
    by : (has : Bool) → Grows texts (cond has texts (texts ++ id ∷ []))
    by true = ([], sym (append-nil texts))
    by false = (id ∷ [], refl)

-- ---- What is reached, is settled.

-- these texts are among those
abbrev Among : List ℕ → List ℕ → Type 0
Among texts final = (id : ℕ) → list_any (nat_eq id) texts ≡ true → list_any (nat_eq id) final ≡ true

grown-among : (old new : List ℕ) → Grows old new → Among old new
grown-among old new grows id is =
    let both : list_any (nat_eq id) (old ++ grows.0) ≡ true = list_any-append (nat_eq id) old grows.0 ∙ ap (λ b. b || list_any (nat_eq id) grows.0) is in
    ap (list_any (nat_eq id)) grows.1 ∙ both

with-has : (texts : List ℕ) (id : ℕ) → list_any (nat_eq id) (with_reached texts id) ≡ true
with-has texts id = by (list_any (λ reached. id == reached) texts) refl
  where
    by : (has : Bool) → list_any (nat_eq id) texts ≡ has → list_any (nat_eq id) (cond has texts (texts ++ id ∷ [])) ≡ true
    by true is = is
    by false is = grind (arith, tests, list_any-append (nat_eq id) texts (id ∷ []))

differs-last : (first id : ℕ) (texts : List ℕ) → AllByRecursion (λ y. nat_eq first y ≡ false) texts → nat_eq id first ≡ false → AllByRecursion (λ y. nat_eq first y ≡ false) (texts ++ id ∷ [])
differs-last first id [] all apart = (grind (arith, tests), tt)
differs-last first id (x ∷ texts) all apart = (all.0, differs-last first id texts all.1 apart)

distinct-last : (texts : List ℕ) (id : ℕ) → IsDistinct nat_eq texts → list_any (nat_eq id) texts ≡ false → IsDistinct nat_eq (texts ++ id ∷ [])
distinct-last [] id distinct apart = IsDistinct-cons nat_eq id [] tt distinct
distinct-last (x ∷ texts) id distinct apart =
    let first : nat_eq id x ≡ false = grind (arith, tests) in
    let others : list_any (nat_eq id) texts ≡ false = grind (arith, tests) in
    IsDistinct-cons nat_eq x (texts ++ id ∷ []) (differs-last x id texts (IsDistinct-head nat_eq x texts distinct) first) (distinct-last texts id (IsDistinct-tail nat_eq x texts distinct) others)

distinct-none : IsDistinct nat_eq []
unfolding IsDistinct
distinct-none = tt

distinct-with : (texts : List ℕ) (id : ℕ) → IsDistinct nat_eq texts → IsDistinct nat_eq (with_reached texts id)
distinct-with texts id distinct = by (list_any (λ reached. id == reached) texts) refl
  where
    by : (has : Bool) → list_any (nat_eq id) texts ≡ has → IsDistinct nat_eq (cond has texts (texts ++ id ∷ []))
    by true is = distinct
    by false is = distinct-last texts id distinct is

abbrev some : ℕ → Option ℕ
some n = Some n

some-same : {a b : ℕ} → some a ≡ some b → a ≡ b
some-same is = cc

le-cases : (a b : ℕ) → a ≤ b → (suc a ≤ b) ⊎ (a ≡ b)
le-cases a b le = grind (arith, tests)

none-past : (texts : List ℕ) (place : ℕ) → slice_get texts place ≡ None → length texts ≤ place
none-past [] place none = omega arith
none-past (x ∷ texts) zero none = absurd (cc)
none-past (x ∷ texts) (suc place) none = omega (arith, none-past texts place none)

place-of : (texts : List ℕ) (id : ℕ) → list_any (nat_eq id) texts ≡ true → (n : ℕ) × (slice_get texts n ≡ Some id)
place-of [] id is = absurd (cc)
place-of (x ∷ texts) id is = elim (cases_Bool (nat_eq id x)) [
  | inl same ↦ (0, (let equal : x ≡ id = grind (arith, tests) in ap (λ n. Some n) equal))
  | inr apart ↦ (let more = place-of texts id (grind (arith, tests)) in (suc more.0, more.1))
]

module _ (numbers : NumbersAgree) (known : Known) where
  -- texts that are known, each once
  record AreKnown (texts : List ℕ) : Type 0 where
    distinct : IsDistinct nat_eq texts
    within : AreWithin known texts

  known-with : (texts : List ℕ) (file : FileId) (id : ℕ) → AreKnown texts → id_of known file ≡ Some id → AreKnown (with_reached texts id)
  known-with texts file id are is = record { distinct = distinct-with texts id are.distinct; within = inside-with known texts id are.within (id-within numbers known file id is) }

  known-first : (root : FileId) (id : ℕ) → id_of known root ≡ Some id → AreKnown (id ∷ [])
  known-first root id is = record {
    distinct = IsDistinct-cons nat_eq id [] tt (distinct-none);
    within = λ other here. (let same : other ≡ id = grind (arith, tests) in let low = id-within numbers known root id is in omega arith);
  }

  -- what going through lines of a text leaves
  record Settles (final : List ℕ) (file : FileId) (text : TextId) (lines : List Line) (texts after : List ℕ) : Type 0 where
    grows : Grows texts after
    are : AreKnown after
    nothing : WantsNothing (is_among final) known text file lines

  module _ (final : List ℕ) (file : FileId) (text : TextId) (is_file : slice_get (known_files known) text.0 ≡ Some file) (lines : List (List ℕ)) (after : List ℕ) (among : Among after final) where
    abbrev Onward : List Line → Type 0
    Onward rest = (mid : List ℕ) → AreKnown mid → lines_reach known file.folder mid lines ≡ Reaches after → Settles final file text rest mid after

    abbrev finds : List ℕ → Option TextId
    finds name = (known_texts known).found text name

    finds-is : (name : List ℕ) (found : Found) → find (known_map known) file.folder name ≡ found → finds name ≡ text_id_of (known_files known) found
    finds-is name found is = ap (found_from (known_map known) (known_files known) name) is_file ∙ ap (text_id_of (known_files known)) is

    -- a reference
    found-settles : (word : ℕ) (placement : _) (name : List ℕ) (rest : List Line) (texts : List ℕ) → AreKnown texts → Onward rest → (found : Found) → find (known_map known) file.folder name ≡ found → going_on (λ more. lines_reach known file.folder more lines) (reached_by known texts name found) ≡ Reaches after → Settles final file text (line.Ref word placement (Some name) ∷ rest) texts after
    found-settles word placement name rest texts are further (Unknown folder) found is = absurd (cc)
    found-settles word placement name rest texts are further Absent found is =
        let more = further texts are is in
        record {
          grows = more.grows;
          are = more.are;
          nothing = (λ folder unknown. (let no : Absent ≡ Unknown folder = sym found ∙ unknown in cc), subst (FindsInside (is_among final)) (sym (finds-is name Absent found)) tt, more.nothing);
        }
    found-settles word placement name rest texts are further (Present other) found is = by (id_of known other) refl is
      where
        by : (id : Option ℕ) → id_of known other ≡ id → going_on (λ more. lines_reach known file.folder more lines) (with_found texts id) ≡ Reaches after → Settles final file text (line.Ref word placement (Some name) ∷ rest) texts after
        by None none is =
            let more = further texts are is in
            let nowhere : finds name ≡ None = finds-is name (Present other) found ∙ number-of known other ∙ ap (option_map (λ n. record { 0 = n })) none in
            record {
              grows = more.grows;
              are = more.are;
              nothing = (λ folder unknown. (let no : Present other ≡ Unknown folder = sym found ∙ unknown in cc), subst (FindsInside (is_among final)) (sym nowhere) tt, more.nothing);
            }
        by (Some id) some is =
            let more = further (with_reached texts id) (known-with texts other id are some) is in
            let there : finds name ≡ Some (record { 0 = id }) = finds-is name (Present other) found ∙ number-of known other ∙ ap (option_map (λ n. record { 0 = n })) some in
            record {
              grows = append-grows texts (with_reached texts id) after (grows-with texts id) more.grows;
              are = more.are;
              nothing = (λ folder unknown. (let no : Present other ≡ Unknown folder = sym found ∙ unknown in cc), subst (FindsInside (is_among final)) (sym there) (among id (grown-among (with_reached texts id) after more.grows id (with-has texts id))), more.nothing);
            }

    -- a line that refers to nothing
    idle : (l : Line) (rest : List Line) (texts : List ℕ) → (WantsNothing (is_among final) known text file rest → WantsNothing (is_among final) known text file (l ∷ rest)) → Settles final file text rest texts after → Settles final file text (l ∷ rest) texts after
    idle l rest texts same more = record { grows = more.grows; are = more.are; nothing = same more.nothing }

    line-settles : (l : Line) (rest : List Line) (texts : List ℕ) → AreKnown texts → Onward rest → going_on (λ more. lines_reach known file.folder more lines) (line_reaches known file.folder texts l) ≡ Reaches after → Settles final file text (l ∷ rest) texts after
    line-settles (line.Ref word placement (Some name)) rest texts are further is = found-settles word placement name rest texts are further (find (known_map known) file.folder name) refl is
    line-settles (line.Ref word placement None) rest texts are further is = idle (line.Ref word placement None) rest texts (λ w. w) (further texts are is)
    line-settles line.Blank rest texts are further is = idle line.Blank rest texts (λ w. w) (further texts are is)
    line-settles line.Comment rest texts are further is = idle line.Comment rest texts (λ w. w) (further texts are is)
    line-settles (line.Org part) rest texts are further is = idle (line.Org part) rest texts (λ w. w) (further texts are is)
    line-settles (line.Bfc word) rest texts are further is = idle (line.Bfc word) rest texts (λ w. w) (further texts are is)
    line-settles line.Step rest texts are further is = idle line.Step rest texts (λ w. w) (further texts are is)
    line-settles (line.Rot word) rest texts are further is = idle (line.Rot word) rest texts (λ w. w) (further texts are is)
    line-settles (line.Draw kind word points) rest texts are further is = idle (line.Draw kind word points) rest texts (λ w. w) (further texts are is)
    line-settles line.Malformed rest texts are further is = idle line.Malformed rest texts (λ w. w) (further texts are is)
    line-settles line.OutOfRange rest texts are further is = idle line.OutOfRange rest texts (λ w. w) (further texts are is)

  lines-settle : (final : List ℕ) (file : FileId) (text : TextId) → slice_get (known_files known) text.0 ≡ Some file → (lines : List (List ℕ)) (texts after : List ℕ) → Among after final → AreKnown texts → lines_reach known file.folder texts lines ≡ Reaches after → Settles final file text (map line_of lines) texts after
  lines-settle final file text is_file [] texts after among are is =
      let same : texts ≡ after = cc in
      record { grows = ([], sym (append-nil texts ∙ same)); are = subst AreKnown same are; nothing = tt }
  lines-settle final file text is_file (l ∷ lines) texts after among are is =
      line-settles final file text is_file lines after among (line_of l) (map line_of lines) texts are (λ mid are is. lines-settle final file text is_file lines mid after among are is) is

  -- a text in which nothing is wanted
  abbrev IsSettled : List ℕ → ℕ → Type 0
  IsSettled final id = (file : FileId) × (slice_get (known_files known) id ≡ Some file) × WantsNothing (is_among final) known (record { 0 = id }) file ((known_texts known).lines (record { 0 = id }))

  module _ (distinct : AreDistinct known) where
    -- a text whose lines are gone through
    text-settles : (final : List ℕ) (id : ℕ) (texts after : List ℕ) → id < length known → Among after final → AreKnown texts → file_reaches known texts (file_at known id) (lines_at known id) ≡ Reaches after → Grows texts after × AreKnown after × IsSettled final id
    text-settles final id texts after within among are is = by (file_at known id) refl is
      where
        by : (file : Option FileId) → file_at known id ≡ file → file_reaches known texts file (lines_at known id) ≡ Reaches after → Grows texts after × AreKnown after × IsSettled final id
        by None none is =
            let no : false ≡ true = sym (ap is_some none) ∙ numbers.there known id ∙ lt-ltb id (length known) within in cc
        by (Some file) some is =
            let at = files-at known id ∙ some in
            let all = lines-settle final file (record { 0 = id }) at (lines_in (lines_at known id)) texts after among are is in
            (all.grows, all.are, (file, at, subst (WantsNothing (is_among final) known (record { 0 = id }) file) (sym (lines-seen numbers known distinct id)) all.nothing))

    module _ (final : List ℕ) where
      -- the texts from a place on
      abbrev AreSettled : List ℕ → ℕ → Type 0
      AreSettled texts place = Grows texts final × ((n id : ℕ) → place ≤ n → slice_get final n ≡ Some id → IsSettled final id)

      past : (texts : List ℕ) (place : ℕ) → length texts ≤ place → texts ≡ final → AreSettled texts place
      past texts place few same =
          (([], sym (append-nil texts ∙ same)), λ n id behind at. (let here = slice_get_within texts n id (ap (λ ts. slice_get ts n) same ∙ at) in absurd (omega arith)))

      -- a text, and those behind it
      further-settle : (texts mid : List ℕ) (place id : ℕ) → AreKnown texts → slice_get texts place ≡ Some id → file_reaches known texts (file_at known id) (lines_at known id) ≡ Reaches mid → (AreKnown mid → AreSettled mid (suc place)) → AreSettled texts place
      further-settle texts mid place id are here is further =
          let within : id < length known = are.within id (has-at texts place id here) in
          let alone = text-settles mid id texts mid within (λ other in_mid. in_mid) are is in
          let behind = further alone.1 in
          let settled = text-settles final id texts mid within (grown-among mid final behind.0) are is in
          let grows = append-grows texts mid final alone.0 behind.0 in
          let at : slice_get final place ≡ Some id = ap (λ ts. slice_get ts place) grows.1 ∙ at-behind texts grows.0 place id here in (
            grows,
            λ n other from there. elim (le-cases place n from) [
              | inl later ↦ behind.1 n other later there
              | inr same ↦ let is_same : id ≡ other = some-same (sym at ∙ ap (slice_get final) same ∙ there) in subst (IsSettled final) is_same settled.2
            ],
          )

      texts-settle : (left place : ℕ) (texts : List ℕ) → place + left ≡ length known → AreKnown texts → texts_reach left known place texts ≡ Reaches final → AreSettled texts place
      texts-settle zero place texts count are is =
          let few = few-inside known texts are.distinct are.within in
          past texts place (omega arith) (cc)
      texts-settle (suc left) place texts count are is = by (λ mid are is. texts-settle left (suc place) mid (omega arith) are is) (slice_get texts place) refl is
        where
          on : ((mid : List ℕ) → AreKnown mid → texts_reach left known (suc place) mid ≡ Reaches final → AreSettled mid (suc place)) → (id : ℕ) → slice_get texts place ≡ Some id → (reached : Reached) → file_reaches known texts (file_at known id) (lines_at known id) ≡ reached → going_on (texts_reach left known (suc place)) reached ≡ Reaches final → AreSettled texts place
          on further id some (Wants file) reached is = absurd (cc)
          on further id some (Reaches mid) reached is = further-settle texts mid place id are some reached (λ are. further mid are is)

          by : ((mid : List ℕ) → AreKnown mid → texts_reach left known (suc place) mid ≡ Reaches final → AreSettled mid (suc place)) → (at : Option ℕ) → slice_get texts place ≡ at → elim at [ None ↦ Reaches texts | Some id ↦ going_on (texts_reach left known (suc place)) (file_reaches known texts (file_at known id) (lines_at known id)) ] ≡ Reaches final → AreSettled texts place
          by further None none is = past texts place (none-past texts place none) (cc)
          by further (Some id) some is = on further id some (file_reaches known texts (file_at known id) (lines_at known id)) refl is

    -- all that a root reaches is learnt where nothing is wanted for it
    root-settles : (root : FileId) (id : ℕ) (reached : Reached) → reach known root ≡ reached → id_of known root ≡ Some id → wanted_in reached ≡ None → IsLearnt known root id
    unfolding reach
    root-settles root id (Wants file) is number none = absurd (cc)
    root-settles root id (Reaches final) is number none =
        let from : texts_reach (length known) known 0 (id ∷ []) ≡ Reaches final =
        sym (ap (λ o. elim o [ None ↦ Wants root | Some id ↦ texts_reach (length known) known 0 (id ∷ []) ]) number) ∙ is in
        let settled = texts-settle final (length known) 0 (id ∷ []) (omega arith) (known-first root id number) from in
        record {
          texts = final;
          reached = is;
          has_root = grown-among (id ∷ []) final settled.0 id (has-at (id ∷ []) 0 id refl);
          closed = λ text is_inside. (let at = place-of final text.0 is_inside in settled.1 at.0 text.0 (omega arith) at.1);
        }

pub reaches : NumbersAgree → ReachedLaw
reaches numbers known root id distinct number none = root-settles numbers known distinct root id (reach known root) refl number none
