-- Ranks of stale texts, in order.
use Rattle.std.proofs.Common.{◌≡◌, ℕ, zero, suc, false, List, [], ◌∷◌, map, drop, Option, Some, None, Result, Ok, Err, refl, ap, sym, ◌∙◌, subst}
use Rattle.std.specs.Prelude.{slice_get, IfOk, IsSome}
use Rattle.std.specs.BTreeSet.{insert_key}
use Rattle.std.specs.Option.{is_some}
use Rattle.std.specs.Ordering.{match_ordering}
use Rattle.std.specs.declared.cmp.Ordering.{Ordering}
use Rattle.std.specs.declared.cmp.Ordering.TheVariants.{Less, Equal, Greater}
use Rattle.ld_names.specs.Standing.{Known}
use Rattle.ld_names.specs.declared.file.TextId.{TextId}
use Rattle.ld_texts.specs.Known.{lines_at}
use Rattle.ld_cache.specs.Kept.{Cached}
use Rattle.ld_work.specs.Filling.{Rank, ranked, ranked_text, reached, stale, with_stale}
use Rattle.ld_work.specs.Inside.Reaching.{ArePresent}
use Rattle.ld_work.specs.Inside.Staleness.{AreRanked, IsRanked}

pub none-of : {A : Type 0} (option : Option A) → is_some option ≡ false → option ≡ None
none-of None none = refl
none-of (Some value) none = cc

pub ranked-more : (cmp : Rank → Rank → Ordering) (known : Known) (depth : ℕ) (cache : Cached) (ranks : List Rank) (rank : Rank) → AreRanked known depth cache ranks → IsRanked known depth cache rank → AreRanked known depth cache (insert_key cmp ranks rank)
ranked-more cmp known depth cache [] rank are is = (is, tt)
ranked-more cmp known depth cache (first ∷ ranks) rank are is = by (cmp rank first) (ranked-more cmp known depth cache ranks rank are.1 is)
  where
    by : (ordering : Ordering) → AreRanked known depth cache (insert_key cmp ranks rank) → AreRanked known depth cache (match_ordering ordering (rank ∷ first ∷ ranks) (first ∷ ranks) (first ∷ insert_key cmp ranks rank))
    by Less rest = (is, are)
    by Equal rest = are
    by Greater rest = (are.0, rest)

pub present-at : (known : Known) (texts : List ℕ) (place text : ℕ) → ArePresent known texts → slice_get texts place ≡ Some text → IsSome (lines_at known text)
present-at known [] place text are at = cc
present-at known (first ∷ texts) zero text are at =
    let same : first ≡ text = cc in
    subst (λ t. IsSome (lines_at known t)) same are.0
present-at known (first ∷ texts) (suc place) text are at = present-at known texts place text are.1 at

drop-got : (texts : List ℕ) (place text : ℕ) → slice_get texts place ≡ Some text → drop place texts ≡ text ∷ drop (suc place) texts
drop-got [] place text at = cc
drop-got (first ∷ texts) zero text at = let same : first ≡ text = cc in ap (λ t. t ∷ texts) same
drop-got (first ∷ texts) (suc place) text at = drop-got texts place text at

-- the rank of one text more
pub ranked-next : (known : Known) (depth : ℕ) (cache : Cached) (ranks new all : List Rank) (texts : List ℕ) (place next text : ℕ) → next ≡ suc place → slice_get texts place ≡ Some text → new ≡ with_stale known depth cache ranks (record { 0 = text }) → ranked known depth cache ranks (drop place texts) ≡ all → ranked known depth cache new (drop next texts) ≡ all
ranked-next known depth cache ranks new all texts place next text is at more goes =
    ap (λ rs. ranked known depth cache rs (drop next texts)) more
    ∙ ap (λ n. ranked known depth cache (with_stale known depth cache ranks (record { 0 = text })) (drop n texts)) is
    ∙ sym (ap (ranked known depth cache ranks) (drop-got texts place text at))
    ∙ goes

pub if-ok : {A E : Type 0} {P Q : A → Type 0} (result : Result A E) → ((value : A) → P value → Q value) → IfOk result P → IfOk result Q
if-ok (Ok value) from holds = from value holds
if-ok (Err error) from holds = tt

-- the texts of the ranks of those reached are the stale ones
pub stale-is : (known : Known) (depth : ℕ) (cache : Cached) (root : TextId) (texts : List ℕ) (ranks : List Rank) → texts ≡ reached known root → ranks ≡ ranked known depth cache [] texts → map ranked_text ranks ≡ stale known depth cache root
unfolding stale
stale-is known depth cache root texts ranks all are = ap (map ranked_text) (are ∙ ap (ranked known depth cache []) all)
