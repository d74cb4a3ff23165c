-- clap takes the words of a request, and its matches give the request back.
use Rattle.std.proofs.Common.{◌≡◌, ◌&&◌, ◌∙◌, ℕ, ◌==◌, Bool, cond, true, false, refl, sym, ap, subst, List, [], ◌∷◌, map, Option, Some, None, true≢false, codes}
use Rattle.std.specs.Str.{bytes_eq}
use Rattle.std.proofs.lemmas.Bool.Decides.{Decides-eqb}
use Rattle.std.proofs.lemmas.Slice.Eq.{bytes_eq-Decides}
use Rattle.std.proofs.lemmas.Option.{none-some}
use Rattle.clap.specs.Simple.{Shape, built, is_simple, matches_of}
use Rattle.clap.specs.Takes.{level_passes, takes}
use Rattle.clap.specs.Matches.{first_value}
use Rattle.clap.specs.Walk.{first_of, nothing_held, rows_of, walk_from}
use Rattle.clap.specs.declared.parser.matches.Found.{Found}
use Rattle.clap.proofs.TakesLemmas.{leaf_takes}
use Rattle.clap.proofs.WalkLemmas.{both, first_value-rows}
use Rattle.ld_words.specs.Words.{Named, Intent, Word, are_options, intent_of, is_option, is_argument, task_of, pairs, value_fits, value_of, with_options, with_rest}
use Rattle.ld_words.specs.Ldraw.{intent_from, ldraw}
use Rattle.ld_words.proofs.Rows.{as_row, first_of-named}
use Rattle.ld_words.proofs.Steps.{Has, HasPlace, at, first_passes, first_word, named_place, place_passes, place_word, settles}
use Rattle.ld_words.proofs.Whole.{Apart, Ends, Offers, ends_more, ends_options, has_hyphen, rows_at_end}

abbrev top : Shape
top = (built ldraw).top

-- ---- what the command has

if_else : {P : Type 0} (b x y : Bool) → cond b x y ≡ true → (b ≡ true → P) → (y ≡ true → P) → P
if_else true x y e f g = f refl
if_else false x y e f g = g e

offers_named : (name literal : Word) → bytes_eq name literal ≡ true → Offers top literal → Offers top name
offers_named name literal e o = subst (Offers top) (sym ((bytes_eq-Decides name literal).0 e)) o

offers : (name value : Word) → value_fits name value ≡ true → Offers top name
offers name value fits =
    if_else (bytes_eq name (codes "--colours")) _ _ fits (λ e. offers_named name _ e (record { option = record { long = codes "colours"; is = refl; apart = refl; found = refl; by_long = refl; itself = refl }; hyphen = refl })) (λ fits1.
    if_else (bytes_eq name (codes "--main")) _ _ fits1 (λ e. offers_named name _ e (record { option = record { long = codes "main"; is = refl; apart = refl; found = refl; by_long = refl; itself = refl }; hyphen = refl })) (λ fits2.
    if_else (bytes_eq name (codes "--workers")) _ _ fits2 (λ e. offers_named name _ e (record { option = record { long = codes "workers"; is = refl; apart = refl; found = refl; by_long = refl; itself = refl }; hyphen = refl })) (λ fits3.
    if_else (bytes_eq name (codes "--max-entries")) _ _ fits3 (λ e. offers_named name _ e (record { option = record { long = codes "max-entries"; is = refl; apart = refl; found = refl; by_long = refl; itself = refl }; hyphen = refl })) (λ fits4.
    if_else (bytes_eq name (codes "--max-depth")) _ _ fits4 (λ e. offers_named name _ e (record { option = record { long = codes "max-depth"; is = refl; apart = refl; found = refl; by_long = refl; itself = refl }; hyphen = refl })) (λ fits5.
    if_else (bytes_eq name (codes "--cache")) _ _ fits5 (λ e. offers_named name _ e (record { option = record { long = codes "cache"; is = refl; apart = refl; found = refl; by_long = refl; itself = refl }; hyphen = refl })) (λ no.
    absurd (true≢false (sym no))))))))

command_place : HasPlace top.rules (codes "command") 1
command_place = record { found = refl; by_index = refl; fits = refl }

word_place : HasPlace top.rules (codes "word") 2
word_place = record { found = refl; by_index = refl; fits = refl }

second_place : HasPlace top.rules (codes "second") 3
second_place = record { found = refl; by_index = refl; fits = refl }

-- ---- the end of the walk

pub taken_at_end : (words : List Word) (all : List Named) → Ends top (walk_from nothing_held) words all → takes ldraw (codes "ldraw" ∷ words) ≡ true
taken_at_end words all e =
    let rows = rows_at_end top e.before e.last e.known e.fresh refl in
    let settle = settles top.rules top.args_override_self e.before e.last e.known e.fresh in
    let level : level_passes top [] nothing_held words false ≡ true = rw (e.passes, e.walk, settle) refl in
    leaf_takes (built ldraw) nothing_held words refl level

pub rows_of_all : (words : List Word) (all : List Named) → Ends top (walk_from nothing_held) words all → matches_of ldraw (codes "ldraw" ∷ words) ≡ map as_row all
rows_of_all words all e = rw e.walk (rows_at_end top e.before e.last e.known e.fresh refl ∙ ap (map as_row) e.splits)

-- ---- the words of a request

pub record Read (words : List Word) (r : Intent) : Type 0 where
  pub given : List Named
  pub ends : Ends top (walk_from nothing_held) words given
  pub request : intent_from (λ name. value_of name given) ≡ Some r

hyphen_is : (x : ℕ) → (x == 45) ≡ true → x ≡ 45
hyphen_is x e = (Decides-eqb x 45).0 e

-- the names of positional words have no hyphen
place_apart : (id name : Word) → has_hyphen id ≡ true → (first : ℕ) (rest : Word) → name ≡ first ∷ rest → (first == 45) ≡ false → bytes_eq name id ≡ false
place_apart [] name hyphen first rest is unlike = absurd (true≢false (sym hyphen))
place_apart (x ∷ xs) name hyphen first rest is unlike = rw (is, hyphen_is x hyphen, unlike) refl

place_after : (id name : Word) → has_hyphen id ≡ true → (first : ℕ) (rest : Word) → name ≡ first ∷ rest → (45 == first) ≡ false → bytes_eq id name ≡ false
place_after [] name hyphen first rest is unlike = absurd (true≢false (sym hyphen))
place_after (x ∷ xs) name hyphen first rest is unlike = rw (is, hyphen_is x hyphen, unlike) refl

apart_two : (c w : Word) (words : List Word) → Apart ((codes "command", c) ∷ (codes "word", w) ∷ []) words
apart_two c w words id hyphen there = rw (place_apart id (codes "command") hyphen 99 _ refl refl, place_apart id (codes "word") hyphen 119 _ refl refl) refl

apart_three : (c w v : Word) (words : List Word) → Apart ((codes "command", c) ∷ (codes "word", w) ∷ (codes "second", v) ∷ []) words
apart_three c w v words id hyphen there =
    rw (place_apart id (codes "command") hyphen 99 _ refl refl, place_apart id (codes "word") hyphen 119 _ refl refl, place_apart id (codes "second") hyphen 115 _ refl refl) refl

ends_two : (c w : Word) (words : List Word) → is_argument c ≡ true → is_argument w ≡ true → are_options words ≡ true
    → Ends top (walk_from nothing_held) (c ∷ w ∷ words) ((codes "command", c) ∷ (codes "word", w) ∷ pairs words)
ends_two c w words plain_c plain_w fit =
    let known_c : Has top.rules (codes "command") = named_place top.rules (codes "command") 1 command_place in
    let known_w : Has top.rules (codes "word") = named_place top.rules (codes "word") 2 word_place in
    let rest = ends_options top offers ((codes "command", c) ∷ []) (codes "word", w) 3 words known_w refl (apart_two c w words) fit in
    ends_more top (walk_from nothing_held) (at [] (codes "command", c) 2) c (w ∷ words) _ (first_word top.rules (codes "command") c command_place plain_c)
    (first_passes top (codes "command") c command_place plain_c)
    (ends_more top (at [] (codes "command", c) 2) (at ((codes "command", c) ∷ []) (codes "word", w) 3) w words _
    (place_word top.rules [] (codes "command", c) (codes "word") w 2 word_place plain_w known_c refl)
    (place_passes top [] (codes "command", c) (codes "word") w 2 word_place plain_w known_c refl) rest)

ends_three : (c w v : Word) (words : List Word) → is_argument c ≡ true → is_argument w ≡ true → is_argument v ≡ true → are_options words ≡ true
    → Ends top (walk_from nothing_held) (c ∷ w ∷ v ∷ words) ((codes "command", c) ∷ (codes "word", w) ∷ (codes "second", v) ∷ pairs words)
ends_three c w v words plain_c plain_w plain_v fit =
    let known_c : Has top.rules (codes "command") = named_place top.rules (codes "command") 1 command_place in
    let known_w : Has top.rules (codes "word") = named_place top.rules (codes "word") 2 word_place in
    let known_v : Has top.rules (codes "second") = named_place top.rules (codes "second") 3 second_place in
    let rest = ends_options top offers ((codes "command", c) ∷ (codes "word", w) ∷ []) (codes "second", v) 4 words known_v refl (apart_three c w v words) fit in
    ends_more top (walk_from nothing_held) (at [] (codes "command", c) 2) c (w ∷ v ∷ words) _ (first_word top.rules (codes "command") c command_place plain_c)
    (first_passes top (codes "command") c command_place plain_c)
    (ends_more top (at [] (codes "command", c) 2) (at ((codes "command", c) ∷ []) (codes "word", w) 3) w (v ∷ words) _
    (place_word top.rules [] (codes "command", c) (codes "word") w 2 word_place plain_w known_c refl)
    (place_passes top [] (codes "command", c) (codes "word") w 2 word_place plain_w known_c refl)
    (ends_more top (at ((codes "command", c) ∷ []) (codes "word", w) 3) (at ((codes "command", c) ∷ (codes "word", w) ∷ []) (codes "second", v) 4) v words _
    (place_word top.rules ((codes "command", c) ∷ []) (codes "word", w) (codes "second") v 3 second_place plain_v known_w refl)
    (place_passes top ((codes "command", c) ∷ []) (codes "word", w) (codes "second") v 3 second_place plain_v known_w refl) rest))

-- ---- what the grammar asks

when : {X : Type 0} (b : Bool) (x : Option X) (r : X) → cond b x None ≡ Some r → (b ≡ true) × (x ≡ Some r)
when true x r e = (refl, e)
when false x r e = absurd (none-some r e)

-- no option has the name of a positional word
no_option : (name : Word) → ((id : Word) → has_hyphen id ≡ true → bytes_eq id name ≡ false) → (words : List Word) → are_options words ≡ true → value_of name (pairs words) ≡ None
no_option name apart [] fit = refl
no_option name apart (id ∷ []) fit = refl
no_option name apart (id ∷ value ∷ rest) fit =
    let whole = both (is_option id value rest) _ fit in
    let fits = both (value_fits id value) _ (both (is_argument value) _ whole.0).1 in
    rw (apart id (offers id value fits.0).hyphen) (no_option name apart rest whole.1)

no_second : (words : List Word) → are_options words ≡ true → value_of (codes "second") (pairs words) ≡ None
no_second words fit = no_option (codes "second") (λ id hyphen. place_after id (codes "second") hyphen 115 _ refl refl) words fit

read_two : (c w : Word) (words : List Word) (r : Intent) → is_argument c ≡ true → is_argument w ≡ true → with_options words (task_of c w None) ≡ Some r → Read (c ∷ w ∷ words) r
read_two c w words r plain_c plain_w e =
    let p = when (are_options words) _ r e in
    record {
      given = (codes "command", c) ∷ (codes "word", w) ∷ pairs words;
      ends = ends_two c w words plain_c plain_w p.0;
      request = rw (no_second words p.0) p.1;
    }

read_rest : (c w : Word) (words : List Word) (r : Intent) → is_argument c ≡ true → is_argument w ≡ true → with_rest c w words ≡ Some r → Read (c ∷ w ∷ words) r
read_rest c w [] r plain_c plain_w e = read_two c w [] r plain_c plain_w e
read_rest c w (v ∷ words) r plain_c plain_w e = go (is_argument v) refl e
  where
    go : (b : Bool) → is_argument v ≡ b → cond b (with_options words (task_of c w (Some v))) (with_options (v ∷ words) (task_of c w None)) ≡ Some r → Read (c ∷ w ∷ v ∷ words) r
    go false is f = read_two c w (v ∷ words) r plain_c plain_w f
    go true is f =
        let p = when (are_options words) _ r f in
        record {
          given = (codes "command", c) ∷ (codes "word", w) ∷ (codes "second", v) ∷ pairs words;
          ends = ends_three c w v words plain_c plain_w is p.0;
          request = p.1;
        }

pub read_words : (words : List Word) (r : Intent) → intent_of words ≡ Some r → Read words r
unfolding intent_of
read_words [] r e = absurd (none-some r e)
read_words (c ∷ []) r e = absurd (none-some r e)
read_words (c ∷ w ∷ words) r e =
    let p = when (is_argument c && is_argument w) (with_rest c w words) r e in
    let plain = both (is_argument c) (is_argument w) p.0 in
    read_rest c w words r plain.0 plain.1 p.1

pub ldraw_simple : is_simple ldraw ≡ true
ldraw_simple = refl

pub request_found : (f : Found) (words : List Word) (r : Intent) → (read : Read words r) → rows_of f ≡ matches_of ldraw (codes "ldraw" ∷ words) → intent_from (first_value f) ≡ Some r
request_found f words r read e =
    let rows : rows_of f ≡ map as_row read.given = e ∙ rows_of_all words read.given read.ends in
    let same : (id : Word) → first_value f id ≡ value_of id read.given = λ id. first_value-rows f id ∙ ap (first_of id) rows ∙ first_of-named id read.given in
    ap intent_from (λ i id. same id i) ∙ read.request
