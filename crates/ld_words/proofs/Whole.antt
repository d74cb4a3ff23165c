-- All the words in turn.
use Rattle.std.proofs.Common.{◌≡◌, ◌∙◌, ℕ, ◌==◌, Bool, cond, true, false, not, ◌&&◌, ◌||◌, refl, sym, ap, List, [], ◌∷◌, ◌++◌, map, true≢false, append_assoc, append-nil}
use Rattle.std.specs.List.{fold, list_all}
use Rattle.std.specs.Str.{bytes_eq}
use Rattle.std.proofs.lemmas.Slice.Eq.{bytes_eq-Decides}
use Rattle.clap.specs.Simple.{Shape}
use Rattle.clap.specs.Takes.{turn_passes, walk_passes}
use Rattle.clap.specs.Walk.{Row, Rule, Walk, default_rows, finished, has_row, reading_by, walked, with_default}
use Rattle.clap.proofs.WalkLemmas.{both}
use Rattle.ld_words.specs.Words.{Named, Word, are_options, contains, is_argument, pairs, value_fits}
use Rattle.ld_words.proofs.Rows.{as_row, has_name, has_name-append}
use Rattle.ld_words.proofs.Steps.{Has, HasOption, at, held_at, named_option, not_true, name_passes, name_word, opened, settled-at, value_passes, value_word}

-- from a walk over the words to its end: all the names are rows but the last, which waits
pub record Ends (s : Shape) (w : Walk) (words : List Word) (all : List Named) : Type 0 where
  pub before : List Named
  pub last : Named
  pub place : ℕ
  pub splits : before ++ last ∷ [] ≡ all
  pub known : Has s.rules last.0
  pub fresh : has_name last.0 before ≡ false
  pub walk : fold (walked s.rules []) w words ≡ at before last place
  pub passes : walk_passes s [] w words ≡ true

-- one more word in front
pub ends_more : (s : Shape) (w after : Walk) (word : Word) (words : List Word) (all : List Named) → walked s.rules [] w word ≡ after → turn_passes s [] w word ≡ true
    → Ends s after words all → Ends s w (word ∷ words) all
unfolding walk_passes
ends_more s w after word words all step passes e = record {
  before = e.before;
  last = e.last;
  place = e.place;
  splits = e.splits;
  known = e.known;
  fresh = e.fresh;
  walk = ap (λ (v : Walk). fold (walked s.rules []) v words) step ∙ e.walk;
  passes = rw (passes, step) e.passes;
}

pub ends_here : (s : Shape) (ps : List Named) (p : Named) (place : ℕ) → Has s.rules p.0 → has_name p.0 ps ≡ false → Ends s (at ps p place) [] (ps ++ p ∷ [])
unfolding walk_passes
ends_here s ps p place known fresh = record {
  before = ps;
  last = p;
  place = place;
  splits = refl;
  known = known;
  fresh = fresh;
  walk = refl;
  passes = refl;
}

abbrev pub has_hyphen : Word → Bool
has_hyphen [] = false
has_hyphen (x ∷ xs) = x == 45

-- no name that an option word writes is among those before
abbrev pub Apart : List Named → List Word → Type 0
Apart ps words = (id : Word) → has_hyphen id ≡ true → contains id words ≡ true → has_name id ps ≡ false

-- what the command has of an option
pub record Offers (s : Shape) (name : Word) : Type 0 where
  pub option : HasOption s.rules name
  pub hyphen : has_hyphen name ≡ true

or_left : (a b : Bool) → a ≡ true → (a || b) ≡ true
or_left true b e = refl
or_left false b e = absurd (true≢false (sym e))

or_right : (a b : Bool) → b ≡ true → (a || b) ≡ true
or_right true b e = refl
or_right false b e = e

or_none : (a b : Bool) → a ≡ false → b ≡ false → (a || b) ≡ false
or_none a b e f = rw (e, f) refl

-- a word that is there is not one that is not
apart_from : (a id : Word) (words : List Word) → contains a words ≡ false → contains id words ≡ true → bytes_eq a id ≡ false
apart_from a id words none some = go (bytes_eq a id) refl
  where
    go : (b : Bool) → bytes_eq a id ≡ b → b ≡ false
    go false e = refl
    go true e =
        let same : a ≡ id = (bytes_eq-Decides a id).0 e in
        absurd (true≢false (sym some ∙ ap (λ t. contains t words) (sym same) ∙ none))

pub ends_options : (s : Shape) → ((name value : Word) → value_fits name value ≡ true → Offers s name)
    → (ps : List Named) (p : Named) (place : ℕ) (words : List Word) → Has s.rules p.0 → has_name p.0 ps ≡ false → Apart (ps ++ p ∷ []) words → are_options words ≡ true
    → Ends s (at ps p place) words ((ps ++ p ∷ []) ++ pairs words)
ends_options s offers ps p place [] known fresh apart fit = rw append-nil (ends_here s ps p place known fresh)
ends_options s offers ps p place (name ∷ []) known fresh apart fit = absurd (true≢false (sym fit))
ends_options s offers ps p place (name ∷ value ∷ rest) known fresh apart fit =
    let whole = both (is_argument value && (value_fits name value && not (contains name rest))) _ fit in
    let f = both (is_argument value) _ whole.0 in
    let g = both (value_fits name value) _ f.1 in
    let o = offers name value g.0 in
    let once : contains name rest ≡ false = not_true (contains name rest) g.1 in
    let next : has_name name (ps ++ p ∷ []) ≡ false = apart name o.hyphen (or_left (bytes_eq name name) _ o.option.itself) in
    let apart_next : Apart ((ps ++ p ∷ []) ++ (name, value) ∷ []) rest = λ id hyphen there.
    has_name-append id (ps ++ p ∷ []) ((name, value) ∷ [])
    ∙ or_none (has_name id (ps ++ p ∷ [])) _ (apart id hyphen (or_right (bytes_eq name id) _ (or_right (bytes_eq value id) _ there)))
    (or_none (bytes_eq name id) false (apart_from name id rest once there) refl) in
    let later = ends_options s offers (ps ++ p ∷ []) (name, value) place rest (named_option s.rules name o.option) next apart_next whole.1 in
    let all : ((ps ++ p ∷ []) ++ (name, value) ∷ []) ++ pairs rest ≡ (ps ++ p ∷ []) ++ ((name, value) ∷ pairs rest) = append_assoc (ps ++ p ∷ []) ((name, value) ∷ []) (pairs rest) in
    let from : Ends s (at (ps ++ p ∷ []) (name, value) place) rest ((ps ++ p ∷ []) ++ ((name, value) ∷ pairs rest)) = rw all at later in
    ends_more s (at ps p place) (opened (ps ++ p ∷ []) name place) name (value ∷ rest) _ (name_word s.rules ps p name place o.option known fresh) (name_passes s ps p name place o.option known fresh)
    (ends_more s (opened (ps ++ p ∷ []) name place) (at (ps ++ p ∷ []) (name, value) place) value rest _ (value_word s.rules (ps ++ p ∷ []) name value place o.option f.0)
    (value_passes s (ps ++ p ∷ []) name value place o.option f.0) from)

-- ---- after the walk

abbrev pub has_none : List Word → Bool
has_none [] = true
has_none (x ∷ xs) = false

same_rows : (b : Bool) (rows : List Row) → cond b rows rows ≡ rows
same_rows true rows = refl
same_rows false rows = refl

default_none : (rows : List Row) (a : Rule) (ds : List Word) → has_none ds ≡ true → cond (has_row a.id rows) rows (default_rows a.id (reading_by a) ds rows) ≡ rows
default_none rows a [] e = same_rows (has_row a.id rows) rows
default_none rows a (d ∷ ds) e = absurd (true≢false (sym e))

pub no_defaults : (c : List Rule) (rows : List Row) → list_all (λ (a : Rule). has_none a.defaults) c ≡ true → fold with_default rows c ≡ rows
no_defaults [] rows e = refl
no_defaults (a ∷ c) rows e =
    let p = both (has_none a.defaults) _ e in
    ap (λ rs. fold with_default rs c) (default_none rows a a.defaults p.0) ∙ no_defaults c rows p.1

pub rows_at_end : (s : Shape) (ps : List Named) (p : Named) → Has s.rules p.0 → has_name p.0 ps ≡ false → list_all (λ (a : Rule). has_none a.defaults) s.rules ≡ true
    → finished s.rules (held_at ps p) ≡ map as_row (ps ++ p ∷ [])
rows_at_end s ps p known fresh none = no_defaults s.rules _ none ∙ settled-at s.rules ps p known fresh
