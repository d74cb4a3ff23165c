-- One text more in a filling.
use Rattle.std.proofs.Common.{◌≡◌, ◌≢◌, ◌≤◌, ◌<◌, ◌+◌, ◌⊎◌, ℕ, zero, suc, Bool, true, false, cond, List, [], ◌∷◌, ◌++◌, length, get_or, set, Option, Some, None, inl, inr, ⊎_elim, refl, ap, sym, ◌∙◌, subst, arith}
use Rattle.std.specs.Prelude.{nat_lt}
use Rattle.std.specs.List.{sum_by}
use Rattle.std.proofs.lemmas.Bool.{cases_eq}
use Rattle.std.proofs.lemmas.List.{get_or-set_other, length-set, length-take}
use Rattle.std.proofs.lemmas.List.Sums.{sum_by-cons}
use Rattle.ld_names.specs.declared.file.TextId.{TextId}
use Rattle.ld_names.specs.Standing.{Known}
use Rattle.ld_pool.specs.Runs.{blocks_for}
use Rattle.ld_entry.specs.Answers.{entries_before, left_below}
use Rattle.ld_entry.specs.Carrying.{nothing_above}
use Rattle.ld_entry.specs.Expansion.{neutral_expansion}
use Rattle.ld_entry.specs.NumberedTexts.{known_texts, NumberedTexts}
use Rattle.ld_entry.specs.Outcomes.{all_by_line, concatenation, context_of}
use Rattle.ld_entry.specs.declared.entry.Expansion.{Expansion}
use Rattle.ld_cache.specs.Kept.{added, blocks_in, Cached, free_blocks, kept_of, with_kept}
use Rattle.ld_work.specs.Filling.{by_itself, filled, reads_all}
use Rattle.ld_work.specs.Inside.Staleness.{AreFrom, AreOther, AreStale, AreVacant, height_of}
use Rattle.ld_work.specs.Reads.{Basis}
use Rattle.ld_work.specs.Right.{AreRight, IsRight}
use Rattle.ld_work.specs.declared.bounds.Bounds.{Bounds}

is_over : Cached → Expansion → Bool
is_over cache expansion = nat_lt (free_blocks cache) (blocks_for (length expansion.entries))

-- texts of one number are one
pub same-text : (text other : TextId) → text.0 ≡ other.0 → text ≡ other
same-text text other same = ap (λ n. record { 0 = n }) same

pub added-other : (cache : Cached) (text other : TextId) (expansion : Expansion) → other.0 ≢ text.0 → kept_of (added cache text expansion) other ≡ kept_of cache other
added-other cache text other expansion apart = by (nat_lt (free_blocks cache) (blocks_for (length expansion.entries)))
  where
    by : (b : Bool) → kept_of (cond b cache (with_kept cache text expansion)) other ≡ kept_of cache other
    by true = refl
    by false = get_or-set_other cache.kept text.0 other.0 (Some expansion) None apart

pub added-length : (cache : Cached) (text : TextId) (expansion : Expansion) → length (added cache text expansion).kept ≡ length cache.kept
added-length cache text expansion = by (nat_lt (free_blocks cache) (blocks_for (length expansion.entries)))
  where
    by : (b : Bool) → length (cond b cache (with_kept cache text expansion)).kept ≡ length cache.kept
    by true = refl
    by false = length-set cache.kept text.0 (Some expansion)

pub added-blocks : (cache : Cached) (text : TextId) (expansion : Expansion) → (added cache text expansion).blocks ≡ cache.blocks
added-blocks cache text expansion = by (nat_lt (free_blocks cache) (blocks_for (length expansion.entries)))
  where
    by : (b : Bool) → (cond b cache (with_kept cache text expansion)).blocks ≡ cache.blocks
    by true = refl
    by false = refl

-- what is kept after a text was added is that text's expansion, or was kept before
pub added-cases : (cache : Cached) (text other : TextId) (expansion given : Expansion) → kept_of (added cache text expansion) other ≡ Some given → ((other ≡ text) × (given ≡ expansion)) ⊎ (kept_of cache other ≡ Some given)
added-cases cache text other expansion given = by (nat_lt (free_blocks cache) (blocks_for (length expansion.entries)))
  where
    short : (xs : List (Option Expansion)) (i : ℕ) → get_or (set xs i (Some expansion)) i None ≡ Some given → given ≡ expansion
    short [] i kept = cc
    short (x ∷ xs) zero kept = cc
    short (x ∷ xs) (suc i) kept = short xs i kept

    by : (b : Bool) → kept_of (cond b cache (with_kept cache text expansion)) other ≡ Some given → ((other ≡ text) × (given ≡ expansion)) ⊎ (kept_of cache other ≡ Some given)
    by true kept = inr kept
    by false kept =
        ⊎_elim (λ (same : other.0 ≡ text.0). inl (same-text other text same, short cache.kept text.0 (ap (λ n. get_or (set cache.kept text.0 (Some expansion)) n None) (sym same) ∙ kept)))
        (λ (apart : other.0 ≢ text.0). inr (sym (get_or-set_other cache.kept text.0 other.0 (Some expansion) None apart) ∙ kept)) (cases_eq other.0 text.0)

sum-set : {X : Type 0} (f : Option X → ℕ) (xs : List (Option X)) (i : ℕ) (x : X) → f None ≡ 0 → get_or xs i None ≡ None → sum_by f xs ≤ sum_by f (set xs i (Some x))
sum-set f [] i x none vacant = omega arith
sum-set f (y ∷ xs) zero x none vacant =
    let was : f y ≡ 0 = ap f vacant ∙ none in
    omega (arith, sum_by-cons f y xs, sum_by-cons f (Some x) xs)
sum-set f (y ∷ xs) (suc i) x none vacant =
    let rest = sum-set f xs i x none vacant in
    omega (arith, sum_by-cons f y xs, sum_by-cons f y (set xs i (Some x)))

-- no block becomes free where a text is added
pub added-free : (cache : Cached) (text : TextId) (expansion : Expansion) → kept_of cache text ≡ None → free_blocks (added cache text expansion) ≤ free_blocks cache
added-free cache text expansion vacant = by (nat_lt (free_blocks cache) (blocks_for (length expansion.entries)))
  where
    by : (b : Bool) → free_blocks (cond b cache (with_kept cache text expansion)) ≤ free_blocks cache
    by true = omega arith
    by false = let more = sum-set blocks_in cache.kept text.0 expansion refl vacant in omega arith

vacant-more : (cache : Cached) (text : TextId) (expansion : Expansion) (texts : List TextId) → AreOther text texts → AreVacant cache texts → AreVacant (added cache text expansion) texts
vacant-more cache text expansion [] other vacant = tt
vacant-more cache text expansion (next ∷ texts) other vacant =
    let same = added-other cache text next expansion other.0 in
    let long = added-length cache text expansion in
    let within : next.0 < length (added cache text expansion).kept = omega (arith, vacant.1) in
    (same ∙ vacant.0, within, vacant-more cache text expansion texts other.1 vacant.2)

pub entries-few : (texts : NumberedTexts) (bounds : Bounds) (text : TextId) → length (by_itself texts bounds text).entries ≤ suc bounds.entries
unfolding neutral_expansion
entries-few texts bounds text =
    let long = length-take (suc bounds.entries) (entries_before (concatenation (all_by_line (left_below bounds.depth []) (context_of texts [] text nothing_above)))) in
    omega arith

module _ (known : Known) (bounds : Bounds) where
  abbrev its : TextId → Expansion
  its text = by_itself (known_texts known) bounds text

  abbrev fill_up : Cached → List TextId → Cached
  fill_up cache texts = filled (known_texts known) bounds cache texts

  pub stale-more : (cache : Cached) (text : TextId) (texts : List TextId) → AreStale known bounds.depth cache (text ∷ texts) → AreStale known bounds.depth (added cache text (its text)) texts
  stale-more cache text texts stale =
      record { ordered = stale.ordered.2; vacant = vacant-more cache text (its text) texts stale.apart.0 stale.vacant.2; apart = stale.apart.1 }

  pub right-more : (cache : Cached) (text : TextId) → AreRight (known_texts known) bounds cache → height_of known bounds.depth text ≤ bounds.depth → AreRight (known_texts known) bounds (added cache text (its text))
  right-more cache text right low other given kept = by (added-cases cache text other (its text) given kept)
    where
      by : ((other ≡ text) × (given ≡ its text)) ⊎ (kept_of cache other ≡ Some given) → IsRight (known_texts known) bounds other given
      by (inl (same, is)) = record { neutral = is ∙ ap its (sym same); low = subst (λ t. height_of known bounds.depth t ≤ bounds.depth) (sym same) low }
      by (inr before) = right other given before

  -- what is kept of a text lower than those that are filled stays
  pub filled-below : (n : ℕ) (cache : Cached) (texts : List TextId) (file : TextId) → AreFrom (height_of known bounds.depth) n texts → height_of known bounds.depth file < n → kept_of (fill_up cache texts) file ≡ kept_of cache file
  filled-below n cache [] file above low = refl
  filled-below n cache (text ∷ texts) file above low =
      let apart : file.0 ≢ text.0 = λ same. let equal = ap (height_of known bounds.depth) (same-text file text same) in absurd (omega (arith, above.0)) in
      filled-below n (added cache text (its text)) texts file above.1 low ∙ added-other cache text file (its text) apart

  pub filled-append : (cache : Cached) (front more : List TextId) → fill_up cache (front ++ more) ≡ fill_up (fill_up cache front) more
  filled-append cache [] more = refl
  filled-append cache (text ∷ front) more = filled-append (added cache text (its text)) front more

  pub right-front : (cache : Cached) (front more : List TextId) → AreRight (known_texts known) bounds cache → AreStale known bounds.depth cache (front ++ more) → AreRight (known_texts known) bounds (fill_up cache front)
  right-front cache [] more right stale = right
  right-front cache (text ∷ front) more right stale =
      right-front (added cache text (its text)) front more (right-more cache text right stale.ordered.0) (stale-more cache text (front ++ more) stale)

  pub stale-behind : (cache : Cached) (front more : List TextId) → AreStale known bounds.depth cache (front ++ more) → AreStale known bounds.depth (fill_up cache front) more
  stale-behind cache [] more stale = stale
  stale-behind cache (text ∷ front) more stale = stale-behind (added cache text (its text)) front more (stale-more cache text (front ++ more) stale)

  pub filled-length : (cache : Cached) (texts : List TextId) → length (fill_up cache texts).kept ≡ length cache.kept
  filled-length cache [] = refl
  filled-length cache (text ∷ texts) = filled-length (added cache text (its text)) texts ∙ added-length cache text (its text)

  pub filled-blocks : (cache : Cached) (texts : List TextId) → (fill_up cache texts).blocks ≡ cache.blocks
  filled-blocks cache [] = refl
  filled-blocks cache (text ∷ texts) = filled-blocks (added cache text (its text)) texts ∙ added-blocks cache text (its text)

pub reads-append : (basis : Basis) (front more : List TextId) → reads_all basis (front ++ more) ≡ reads_all basis front + reads_all basis more
reads-append basis [] more = omega arith
reads-append basis (text ∷ front) more = let rest = reads-append basis front more in omega arith
