-- Desks that get their texts, and answers that are kept in order.
use Rattle.std.proofs.Common.{◌≡◌, ◌≢◌, ◌≤◌, ◌<◌, ℕ, zero, suc, cond, true, false, List, [], ◌∷◌, length, get_or, set, map, take, drop, Some, None, Ok, Err, refl, ap, sym, ◌∙◌, subst, arith}
use Rattle.std.proofs.lemmas.List.{length-map}
use Rattle.ld_names.specs.declared.file.TextId.{TextId}
use Rattle.ld_cache.specs.Kept.{Cached, kept_of}
use Rattle.ld_work.specs.Inside.Answering.{AreFew, AreGiven, Given, IsFew, answers_kept, kept_by, wants_memory}
use Rattle.ld_work.specs.Inside.Staleness.{AreApart, AreOther, AreVacant}
use Rattle.ld_work.proofs.Filled.{added-length, added-other}

map-kept : {X Y : Type 0} (f : X → Y) (xs : List X) (i : ℕ) (d x : X) → i < length xs → f x ≡ f (get_or xs i d) → map f (set xs i x) ≡ map f xs
map-kept f [] i d x within same = absurd (omega arith)
map-kept f (y ∷ xs) zero d x within same = ap (λ first. first ∷ map f xs) same
map-kept f (y ∷ xs) (suc i) d x within same = ap (λ rest. f y ∷ rest) (map-kept f xs i d x (omega arith) same)

-- a write that leaves a part of the item leaves all these parts
pub set-kept : {X Y : Type 0} (f : X → Y) (before xs : List X) (i : ℕ) (d x : X) → i < length xs → f x ≡ f (get_or xs i d) → map f xs ≡ map f before → map f (set xs i x) ≡ map f before
set-kept f before xs i d x within same kept = map-kept f xs i d x within same ∙ kept

first-same : {Y : Type 0} (x y : Y) (xs ys : List Y) → x ∷ xs ≡ y ∷ ys → x ≡ y
first-same x y xs ys same = cc

rest-same : {Y : Type 0} (x y : Y) (xs ys : List Y) → x ∷ xs ≡ y ∷ ys → xs ≡ ys
rest-same x y xs ys same = cc

take-at : {X Y : Type 0} (f : X → Y) (xs : List X) (ys : List Y) (i : ℕ) (x : X) (e : Y) → i < length xs → i < length ys → f x ≡ get_or ys i e → take i (map f xs) ≡ take i ys → take (suc i) (map f (set xs i x)) ≡ take (suc i) ys
take-at f [] ys i x e within within' is before = absurd (omega arith)
take-at f (y ∷ xs) [] i x e within within' is before = absurd (omega arith)
take-at f (y ∷ xs) (z ∷ ys) zero x e within within' is before = ap (λ first. first ∷ []) is
take-at f (y ∷ xs) (z ∷ ys) (suc i) x e within within' is before =
    ap (λ first. first ∷ take (suc i) (map f (set xs i x))) (first-same (f y) z (take i (map f xs)) (take i ys) before) ∙ ap (λ rest. z ∷ rest) (take-at f xs ys i x e (omega arith) (omega arith) is (rest-same (f y) z (take i (map f xs)) (take i ys) before))

-- one item more is as it should be
pub take-more : {X Y : Type 0} (f : X → Y) (xs : List X) (ys : List Y) (i n : ℕ) (x : X) (e : Y) → n ≡ suc i → i < length xs → i < length ys → f x ≡ get_or ys i e → take i (map f xs) ≡ take i ys → take n (map f (set xs i x)) ≡ take n ys
take-more f xs ys i n x e next within within' is before =
    subst (λ m. take m (map f (set xs i x)) ≡ take m ys) (sym next) (take-at f xs ys i x e within within' is before)

pub all-taken : {X : Type 0} (xs : List X) (n : ℕ) → length xs ≤ n → take n xs ≡ xs
all-taken [] zero within = refl
all-taken [] (suc n) within = refl
all-taken (x ∷ xs) zero within = absurd (omega arith)
all-taken (x ∷ xs) (suc n) within = ap (λ rest. x ∷ rest) (all-taken xs n (omega arith))

pub get-map : {X Y : Type 0} (f : X → Y) (xs ys : List X) (i : ℕ) (d : X) (e : Y) → i < length xs → map f xs ≡ map f ys → f (get_or xs i d) ≡ get_or (map f ys) i e
get-map f [] ys i d e within same = absurd (omega arith)
get-map f (x ∷ xs) [] i d e within same = cc
get-map f (x ∷ xs) (y ∷ ys) zero d e within same = first-same (f x) (f y) (map f xs) (map f ys) same
get-map f (x ∷ xs) (y ∷ ys) (suc i) d e within same = get-map f xs ys i d e (omega arith) (rest-same (f x) (f y) (map f xs) (map f ys) same)

-- ---- What is left behind a place.

drop-at : {X : Type 0} (xs : List X) (i : ℕ) (d : X) → i < length xs → drop i xs ≡ get_or xs i d ∷ drop (suc i) xs
drop-at [] i d within = absurd (omega arith)
drop-at (x ∷ xs) zero d within = refl
drop-at (x ∷ xs) (suc i) d within = drop-at xs i d (omega arith)

drop-set : {X : Type 0} (xs : List X) (i : ℕ) (x : X) → drop (suc i) (set xs i x) ≡ drop (suc i) xs
drop-set [] i x = refl
drop-set (y ∷ xs) zero x = refl
drop-set (y ∷ xs) (suc i) x = drop-set xs i x

map-drop-set : {X Y : Type 0} (f : X → Y) (xs : List X) (i : ℕ) (x : X) → drop (suc i) (map f (set xs i x)) ≡ drop (suc i) (map f xs)
map-drop-set f [] i x = refl
map-drop-set f (y ∷ xs) zero x = refl
map-drop-set f (y ∷ xs) (suc i) x = map-drop-set f xs i x

none-left : {X : Type 0} (i : ℕ) → drop {A = X} i [] ≡ []
none-left zero = refl
none-left (suc i) = refl

drop-more : {X : Type 0} (xs ys : List X) (i : ℕ) → drop i xs ≡ drop i ys → drop (suc i) xs ≡ drop (suc i) ys
drop-more [] [] i same = refl
drop-more [] (y ∷ ys) zero same = cc
drop-more [] (y ∷ ys) (suc i) same = drop-more [] ys i (none-left i ∙ same)
drop-more (x ∷ xs) [] zero same = cc
drop-more (x ∷ xs) [] (suc i) same = drop-more xs [] i (same ∙ sym (none-left i))
drop-more (x ∷ xs) (y ∷ ys) zero same = rest-same x y xs ys same
drop-more (x ∷ xs) (y ∷ ys) (suc i) same = drop-more xs ys i same

-- what stands behind a place that is written stays
pub behind-kept : {X Y : Type 0} (f : X → Y) (before xs : List X) (i n : ℕ) (x : X) → n ≡ suc i → drop i (map f xs) ≡ drop i (map f before) → drop n (map f (set xs i x)) ≡ drop n (map f before)
behind-kept f before xs i n x next same =
    subst (λ m. drop m (map f (set xs i x)) ≡ drop m (map f before)) (sym next) (map-drop-set f xs i x ∙ drop-more (map f xs) (map f before) i same)

-- ---- Answers kept one after another.

-- the answers from a place on
pub answers-from : (cache : Cached) (texts : List TextId) (answers : List Given) (i : ℕ) (d : TextId) (e : Given) → i < length texts → i < length answers → answers_kept cache (drop i texts) (drop i answers) ≡ cond (wants_memory (get_or answers i e)) cache (answers_kept (kept_by cache (get_or texts i d) (get_or answers i e)) (drop (suc i) texts) (drop (suc i) answers))
answers-from cache texts answers i d e within within' =
    ap (λ ts. answers_kept cache ts (drop i answers)) (drop-at texts i d within) ∙ ap (answers_kept cache (get_or texts i d ∷ drop (suc i) texts)) (drop-at answers i e within')

pub given-from : (answers : List Given) (i n : ℕ) (e : Given) → n ≡ suc i → i < length answers → wants_memory (get_or answers i e) ≡ false → AreGiven (drop n answers) → AreGiven (drop i answers)
given-from answers i n e next within given rest =
    subst AreGiven (sym (drop-at answers i e within)) (given, subst (λ m. AreGiven (drop m answers)) next rest)

kept-other : (cache : Cached) (text other : TextId) (answer : Given) → other.0 ≢ text.0 → kept_of (kept_by cache text answer) other ≡ kept_of cache other
kept-other cache text other (Some (Ok (Some expansion))) apart = added-other cache text other expansion apart
kept-other cache text other (Some (Ok None)) apart = refl
kept-other cache text other (Some (Err error)) apart = refl
kept-other cache text other None apart = refl

kept-length : (cache : Cached) (text : TextId) (answer : Given) → length (kept_by cache text answer).kept ≡ length cache.kept
kept-length cache text (Some (Ok (Some expansion))) = added-length cache text expansion
kept-length cache text (Some (Ok None)) = refl
kept-length cache text (Some (Err error)) = refl
kept-length cache text None = refl

still-vacant : (cache : Cached) (text : TextId) (answer : Given) (texts : List TextId) → AreOther text texts → AreVacant cache texts → AreVacant (kept_by cache text answer) texts
still-vacant cache text answer [] other vacant = tt
still-vacant cache text answer (next ∷ texts) other vacant =
    let long = kept-length cache text answer in
    (kept-other cache text next answer other.0 ∙ vacant.0, omega (arith, vacant.1), still-vacant cache text answer texts other.1 vacant.2)

pub few-at : (answers : List Given) (i : ℕ) (e : Given) → i < length answers → AreFew answers → IsFew (get_or answers i e)
few-at [] i e within few = absurd (omega arith)
few-at (answer ∷ answers) zero e within few = few.0
few-at (answer ∷ answers) (suc i) e within few = few-at answers i e (omega arith) few.1

-- what holds at a place of the texts whose answers are kept, and of what is left behind it
pub record IsAtDesk (cache : Cached) (texts : List TextId) (i : ℕ) (d : TextId) : Type 0 where
  pub vacant : kept_of cache (get_or texts i d) ≡ None
  pub within : (get_or texts i d).0 < length cache.kept
  pub other : AreOther (get_or texts i d) (drop (suc i) texts)
  pub apart : AreApart (drop (suc i) texts)
  pub left : AreVacant cache (drop (suc i) texts)

pub at-desk : (cache : Cached) (texts : List TextId) (i : ℕ) (d : TextId) → i < length texts → AreVacant cache (drop i texts) → AreApart (drop i texts) → IsAtDesk cache texts i d
at-desk cache texts i d within vacant apart =
    let is = drop-at texts i d within in
    let vacant' : AreVacant cache (get_or texts i d ∷ drop (suc i) texts) = subst (AreVacant cache) is vacant in
    let apart' : AreApart (get_or texts i d ∷ drop (suc i) texts) = subst AreApart is apart in
    record { vacant = vacant'.0; within = vacant'.1; other = apart'.0; apart = apart'.1; left = vacant'.2 }

-- an answer that stands behind those kept is the one of before
pub same-at : {X Y : Type 0} (f : X → Y) (before xs : List X) (i : ℕ) (d : X) (e : Y) → i < length xs → length xs ≡ length before → drop i (map f xs) ≡ drop i (map f before) → f (get_or xs i d) ≡ get_or (map f before) i e
same-at f [] xs i d e within long same = absurd (omega arith)
same-at f (y ∷ before) [] i d e within long same = absurd (omega arith)
same-at f (y ∷ before) (x ∷ xs) zero d e within long same = first-same (f x) (f y) (map f xs) (map f before) same
same-at f (y ∷ before) (x ∷ xs) (suc i) d e within long same = same-at f before xs i d e (omega arith) (omega arith) same

-- ---- The desk at a place, while answers are kept.

pub wants-kept : (cache : Cached) (text : TextId) (answer : Given) → wants_memory answer ≡ true → kept_by cache text answer ≡ cache
wants-kept cache text (Some (Ok (Some expansion))) wants = cc
wants-kept cache text (Some (Ok None)) wants = refl
wants-kept cache text (Some (Err error)) wants = refl
wants-kept cache text None wants = refl

module _ {X : Type 0} (text : X → TextId) (answer : X → Given) (before xs : List X) (cache : Cached) (i : ℕ) (d : X) where
  abbrev texts : List TextId
  texts = map text before

  abbrev answers : List Given
  answers = map answer before

  abbrev here : X
  here = get_or xs i d

  pub record IsDeskAt : Type 0 where
    pub vacant : kept_of cache (text here) ≡ None
    pub within : (text here).0 < length cache.kept
    pub few : IsFew (answer here)
    pub goes : answers_kept cache (drop i texts) (drop i answers) ≡ cond (wants_memory (answer here)) cache (answers_kept (kept_by cache (text here) (answer here)) (drop (suc i) texts) (drop (suc i) answers))
    pub same_answer : answer here ≡ get_or answers i (answer d)
    pub other : AreOther (text here) (drop (suc i) texts)
    pub apart : AreApart (drop (suc i) texts)
    pub left : AreVacant cache (drop (suc i) texts)

  pub desk-at : i < length xs → length xs ≡ length before → map text xs ≡ map text before → drop i (map answer xs) ≡ drop i answers → AreVacant cache (drop i texts) → AreApart (drop i texts) → AreFew answers → IsDeskAt
  desk-at within long same_texts rest vacant apart few =
      let same : text here ≡ get_or texts i (text d) = get-map text xs before i d (text d) within same_texts in
      let same' : answer here ≡ get_or answers i (answer d) = same-at answer before xs i d (answer d) within long rest in
      let long_texts = length-map before text in
      let long_answers = length-map before answer in
      let at = at-desk cache texts i (text d) (omega arith) vacant apart in
      record {
        vacant = ap (kept_of cache) same ∙ at.vacant;
        within = subst (λ (t : TextId). t.0 < length cache.kept) (sym same) at.within;
        few = subst IsFew (sym same') (few-at answers i (answer d) (omega arith) few);
        goes = answers-from cache texts answers i (text d) (answer d) (omega arith) (omega arith)
            ∙ ap (λ a. cond (wants_memory a) cache (answers_kept (kept_by cache (get_or texts i (text d)) a) (drop (suc i) texts) (drop (suc i) answers))) (sym same')
            ∙ ap (λ t. cond (wants_memory (answer here)) cache (answers_kept (kept_by cache t (answer here)) (drop (suc i) texts) (drop (suc i) answers))) (sym same);
        same_answer = same';
        other = subst (λ t. AreOther t (drop (suc i) texts)) (sym same) at.other;
        apart = at.apart;
        left = at.left;
      }

  -- an answer that wants memory ends the keeping
  pub stops : (new total : Cached) → IsDeskAt → new ≡ kept_by cache (text here) (answer here) → wants_memory (answer here) ≡ true → answers_kept cache (drop i texts) (drop i answers) ≡ total → new ≡ total
  stops new total at is wants goes =
      is ∙ wants-kept cache (text here) (answer here) wants
      ∙ sym (at.goes ∙ ap (λ b. cond b cache (answers_kept (kept_by cache (text here) (answer here)) (drop (suc i) texts) (drop (suc i) answers))) wants)
      ∙ goes

  pub record GoesOn (new total : Cached) (n : ℕ) : Type 0 where
    pub goes : answers_kept new (drop n texts) (drop n answers) ≡ total
    pub given : AreGiven (drop n answers) → AreGiven answers
    pub vacant : AreVacant new (drop n texts)
    pub apart : AreApart (drop n texts)

  -- another is kept, and the keeping goes on
  pub goes-on : (new total : Cached) (n : ℕ) → n ≡ suc i → i < length before → IsDeskAt → new ≡ kept_by cache (text here) (answer here) → wants_memory (answer here) ≡ false → answers_kept cache (drop i texts) (drop i answers) ≡ total → (AreGiven (drop i answers) → AreGiven answers) → GoesOn new total n
  goes-on new total n next within at is given goes all =
      let long_answers = length-map before answer in
      subst (GoesOn new total) (sym next)
      (record {
        goes = ap (λ c. answers_kept c (drop (suc i) texts) (drop (suc i) answers)) is
            ∙ sym (at.goes ∙ ap (λ b. cond b cache (answers_kept (kept_by cache (text here) (answer here)) (drop (suc i) texts) (drop (suc i) answers))) given)
            ∙ goes;
        given = λ rest. all (given-from answers i (suc i) (answer d) refl (omega arith) (sym (ap wants_memory at.same_answer) ∙ given) rest);
        vacant = subst (λ c. AreVacant c (drop (suc i) texts)) (sym is) (still-vacant cache (text here) (answer here) (drop (suc i) texts) at.other at.left);
        apart = at.apart;
      })
