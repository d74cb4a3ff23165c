-- A round more in a filling.
use Rattle.std.proofs.Common.{◌≡◌, ◌≤◌, ◌<◌, ◌+◌, ℕ, zero, suc, List, [], ◌∷◌, ◌++◌, length, get_or, take, drop, refl, ap, sym, ◌∙◌, subst, arith}
use Rattle.ld_names.specs.declared.file.TextId.{TextId}
use Rattle.ld_names.specs.Standing.{Known}
use Rattle.ld_entry.specs.Answers.{left_below}
use Rattle.ld_entry.specs.Laws.{LowerLaw}
use Rattle.ld_entry.specs.NumberedTexts.{known_texts}
use Rattle.ld_cache.specs.Kept.{Cached, kept_of}
use Rattle.ld_work.specs.Filling.{filled, reads_all}
use Rattle.ld_work.specs.Inside.Lent.{basis_at}
use Rattle.ld_work.specs.Inside.Rounds.{AreAt}
use Rattle.ld_work.specs.Inside.Staleness.{AreApart, AreFrom, AreOrdered, AreOther, AreStale, AreVacant, height_of}
use Rattle.ld_work.specs.Reads.{reads}
use Rattle.ld_work.specs.Right.{AreRight}
use Rattle.ld_work.specs.declared.bounds.Bounds.{Bounds}
use Rattle.ld_work.proofs.Filled.{filled-append, filled-below, reads-append, right-front, stale-behind}
use Rattle.ld_work.proofs.Lower.{reads-same}

-- ---- The front of stale texts is stale.

front-vacant : (cache : Cached) (front more : List TextId) → AreVacant cache (front ++ more) → AreVacant cache front
front-vacant cache [] more all = tt
front-vacant cache (text ∷ front) more all = (all.0, all.1, front-vacant cache front more all.2)

front-other : (text : TextId) (front more : List TextId) → AreOther text (front ++ more) → AreOther text front
front-other text [] more all = tt
front-other text (next ∷ front) more all = (all.0, front-other text front more all.1)

front-apart : (front more : List TextId) → AreApart (front ++ more) → AreApart front
front-apart [] more all = tt
front-apart (text ∷ front) more all = (front-other text front more all.0, front-apart front more all.1)

front-from : (f : TextId → ℕ) (n : ℕ) (front more : List TextId) → AreFrom f n (front ++ more) → AreFrom f n front
front-from f n [] more all = tt
front-from f n (text ∷ front) more all = (all.0, front-from f n front more all.1)

front-ordered : (f : TextId → ℕ) (depth : ℕ) (front more : List TextId) → AreOrdered f depth (front ++ more) → AreOrdered f depth front
front-ordered f depth [] more all = tt
front-ordered f depth (text ∷ front) more all = (all.0, front-from f (f text) front more all.1, front-ordered f depth front more all.2)

pub stale-front : (known : Known) (depth : ℕ) (cache : Cached) (front more : List TextId) → AreStale known depth cache (front ++ more) → AreStale known depth cache front
stale-front known depth cache front more all =
    record { ordered = front-ordered (height_of known depth) depth front more all.ordered; vacant = front-vacant cache front more all.vacant; apart = front-apart front more all.apart }

-- ---- Parts of lists.

-- the first of the front are the first of all
part-of : {X : Type 0} (front more : List X) (n : ℕ) → (m : ℕ) × (take n front ≡ take m (front ++ more))
part-of [] more zero = (0, refl)
part-of [] more (suc n) = (0, refl)
part-of (x ∷ front) more zero = (0, refl)
part-of (x ∷ front) more (suc n) = let rest = part-of front more n in (suc rest.0, ap (λ xs. x ∷ xs) rest.1)

take-behind : {X : Type 0} (xs : List X) (a b n : ℕ) → n ≡ a + b → take a xs ++ take b (drop a xs) ≡ take n xs
take-behind xs zero b n is = let same : b ≡ n = omega arith in ap (λ m. take m xs) same
take-behind [] (suc a) zero zero is = refl
take-behind [] (suc a) zero (suc n) is = refl
take-behind [] (suc a) (suc b) zero is = refl
take-behind [] (suc a) (suc b) (suc n) is = refl
take-behind (x ∷ xs) (suc a) b zero is = absurd (omega arith)
take-behind (x ∷ xs) (suc a) b (suc n) is = ap (λ rest. x ∷ rest) (take-behind xs a b n (omega arith))

drop-from : {X : Type 0} (xs : List X) (a b n : ℕ) → n ≡ a + b → drop b (drop a xs) ≡ drop n xs
drop-from xs zero b n is = let same : b ≡ n = omega arith in ap (λ m. drop m xs) same
drop-from [] (suc a) zero zero is = refl
drop-from [] (suc a) zero (suc n) is = refl
drop-from [] (suc a) (suc b) zero is = refl
drop-from [] (suc a) (suc b) (suc n) is = refl
drop-from (x ∷ xs) (suc a) b zero is = absurd (omega arith)
drop-from (x ∷ xs) (suc a) b (suc n) is = drop-from xs a b n (omega arith)

pub drop-behind : {X : Type 0} (xs : List X) (a b : ℕ) → drop b (drop a xs) ≡ drop (a + b) xs
drop-behind xs a b = drop-from xs a b (a + b) refl

-- ---- Texts of one height read in a round what they would read over the cache as it is afterwards.

module _ (lower : LowerLaw) (known : Known) (bounds : Bounds) where
  abbrev h : TextId → ℕ
  h text = height_of known bounds.depth text

  reads-level : (n : ℕ) (cache final : Cached) (texts : List TextId) → n ≤ bounds.depth → AreAt h n texts → ((file : TextId) → h file < n → kept_of cache file ≡ kept_of final file) → reads_all (basis_at known bounds cache) texts ≡ reads_all (basis_at known bounds final) texts
  reads-level n cache final [] low level same = refl
  reads-level n cache final (text ∷ texts) low level same =
      let at : h text ≡ n = level.0 in
      let first : reads (basis_at known bounds cache) [] text ≡ reads (basis_at known bounds final) [] text = reads-same lower (known_texts known) bounds cache final (left_below bounds.depth []) [] text (omega arith) (λ file below. same file (omega arith)) in
      let rest = reads-level n cache final texts low level.1 same in
      omega arith

  reads-front : (n : ℕ) (cache : Cached) (front more : List TextId) → AreAt h n front → AreStale known bounds.depth cache (front ++ more) → reads_all (basis_at known bounds cache) front ≡ reads_all (basis_at known bounds (filled (known_texts known) bounds cache (front ++ more))) front
  reads-front n cache [] more level stale = refl
  reads-front n cache (text ∷ front) more level stale =
      let at : h text ≡ n = level.0 in
      let high : AreFrom h n (front ++ more) = subst (λ m. AreFrom h m (front ++ more)) at stale.ordered.1 in
      let low : n ≤ bounds.depth = omega (arith, stale.ordered.0) in
      let first : n ≤ h text = omega arith in
      reads-level n cache (filled (known_texts known) bounds cache (text ∷ front ++ more)) (text ∷ front) low level (λ file below. sym (filled-below known bounds n cache (text ∷ front ++ more) file (first, high) below))

  -- what is read in a round and what is left to read are within what all may read
  pub round-reads : (n : ℕ) (cache : Cached) (front more : List TextId) (before after total : ℕ) → AreAt h n front → AreStale known bounds.depth cache (front ++ more) → after ≤ before + reads_all (basis_at known bounds cache) front → before + reads_all (basis_at known bounds (filled (known_texts known) bounds cache (front ++ more))) (front ++ more) ≤ total → after + reads_all (basis_at known bounds (filled (known_texts known) bounds cache (front ++ more))) more ≤ total
  round-reads n cache front more before after total at stale few all =
      let same = reads-front n cache front more at stale in
      let parts = reads-append (basis_at known bounds (filled (known_texts known) bounds cache (front ++ more))) front more in
      omega arith

  -- what holds behind a round
  pub record IsStep (new final : Cached) (more : List TextId) (reads total : ℕ) : Type 0 where
    pub right : AreRight (known_texts known) bounds new
    pub stale : AreStale known bounds.depth new more
    pub exactly : filled (known_texts known) bounds new more ≡ final
    pub few : reads + reads_all (basis_at known bounds final) more ≤ total

  pub round-step : (n : ℕ) (cache new final : Cached) (rest front more : List TextId) (before after total : ℕ) → rest ≡ front ++ more → AreAt h n front → new ≡ filled (known_texts known) bounds cache front → AreRight (known_texts known) bounds cache → AreStale known bounds.depth cache rest → filled (known_texts known) bounds cache rest ≡ final → after ≤ before + reads_all (basis_at known bounds cache) front → before + reads_all (basis_at known bounds final) rest ≤ total → IsStep new final more after total
  round-step n cache new final rest front more before after total is at keeps right stale fills reads all =
      let stale' : AreStale known bounds.depth cache (front ++ more) = subst (AreStale known bounds.depth cache) is stale in
      let final-is : filled (known_texts known) bounds cache (front ++ more) ≡ final = ap (filled (known_texts known) bounds cache) (sym is) ∙ fills in
      let all' : before + reads_all (basis_at known bounds (filled (known_texts known) bounds cache (front ++ more))) (front ++ more) ≤ total = subst (λ f. before + reads_all (basis_at known bounds f) (front ++ more) ≤ total) (sym final-is) (subst (λ texts. before + reads_all (basis_at known bounds final) texts ≤ total) is all) in
      record {
        right = subst (AreRight (known_texts known) bounds) (sym keeps) (right-front known bounds cache front more right stale');
        stale = subst (λ c. AreStale known bounds.depth c more) (sym keeps) (stale-behind known bounds cache front more stale');
        exactly = ap (λ c. filled (known_texts known) bounds c more) keeps ∙ sym (filled-append known bounds cache front more) ∙ final-is;
        few = subst (λ f. after + reads_all (basis_at known bounds f) more ≤ total) final-is (round-reads n cache front more before after total at stale' reads all');
      }

  -- texts that are filled in two parts
  pub filled-parts : (first cache new : Cached) (texts rest front more : List TextId) (count some : ℕ) → cache ≡ filled (known_texts known) bounds first (take count texts) → rest ≡ drop count texts → rest ≡ front ++ more → new ≡ filled (known_texts known) bounds cache (take some front) → (n : ℕ) × (new ≡ filled (known_texts known) bounds first (take n texts))
  filled-parts first cache new texts rest front more count some was left is fills =
      let part = part-of front more some in
      let here : take some front ≡ take part.0 (drop count texts) = part.1 ∙ ap (take part.0) (sym is ∙ left) in
      (count + part.0, fills ∙ ap (λ c. filled (known_texts known) bounds c (take some front)) was ∙ sym (filled-append known bounds first (take count texts) (take some front)) ∙ ap (filled (known_texts known) bounds first) (ap (λ ts. take count texts ++ ts) here ∙ take-behind texts count part.0 (count + part.0) refl))

  pub filled-on : (first cache new : Cached) (texts front : List TextId) (done count : ℕ) → cache ≡ filled (known_texts known) bounds first (take done texts) → front ≡ take count (drop done texts) → new ≡ filled (known_texts known) bounds cache front → new ≡ filled (known_texts known) bounds first (take (done + count) texts)
  filled-on first cache new texts front done count was is fills =
      fills ∙ ap (λ c. filled (known_texts known) bounds c front) was ∙ sym (filled-append known bounds first (take done texts) front)
      ∙ ap (filled (known_texts known) bounds first) (ap (λ ts. take done texts ++ ts) is ∙ take-behind texts done count (done + count) refl)

pub level-at : (f : TextId → ℕ) (n : ℕ) (texts : List TextId) (k : ℕ) → k ≤ length texts → ((i : ℕ) (d : TextId) → i < k → f (get_or texts i d) ≡ n) → AreAt f n (take k texts)
level-at f n [] zero within each = tt
level-at f n [] (suc k) within each = tt
level-at f n (text ∷ texts) zero within each = tt
level-at f n (text ∷ texts) (suc k) within each =
    (each zero text (omega arith), level-at f n texts k (omega arith) (λ i d below. each (suc i) d (omega arith)))

head-same : (f : TextId → ℕ) (texts : List TextId) (d e : TextId) → 0 < length texts → f (get_or texts 0 d) ≡ f (get_or texts 0 e)
head-same f [] d e some = absurd (omega arith)
head-same f (text ∷ texts) d e some = refl

-- texts as high as the first
pub level-of : (f : TextId → ℕ) (texts : List TextId) (k : ℕ) (d : TextId) (level : ℕ) → 0 < length texts → k ≤ length texts → level ≡ f (get_or texts 0 d) → ((i : ℕ) (e : TextId) → i < k → f (get_or texts i e) ≡ level) → AreAt f (f (get_or texts 0 (record { 0 = 0 }))) (take k texts)
level-of f texts k d level some within is each =
    level-at f (f (get_or texts 0 (record { 0 = 0 }))) texts k within (λ i e below. each i e below ∙ is ∙ head-same f texts d (record { 0 = 0 }) some)
