-- Texts in the order of their ranks.
use Rattle.std.proofs.Common.{◌≡◌, ◌≢◌, ◌≤◌, ◌<◌, ℕ, List, [], ◌∷◌, length, map, Some, refl, ap, sym, ◌∙◌, arith}
use Rattle.std.specs.Cmp.{IsTotalOrder}
use Rattle.std.specs.List.{AllByRecursion}
use Rattle.std.specs.List.Sorted.{IsStrictlySortedBy}
use Rattle.std.specs.Option.{is_some, unwrap_or}
use Rattle.std.specs.Ordering.{nat_cmp, ordering_then}
use Rattle.std.specs.declared.cmp.Ordering.{Ordering}
use Rattle.std.specs.declared.cmp.Ordering.TheVariants.{Less, Equal, Greater}
use Rattle.std.proofs.lemmas.Bool.{ltb-true}
use Rattle.std.proofs.lemmas.Cmp.{nat_cmp_total, nat_list_cmp_total, on_total, ranked as compared, then_total, tied_itself}
use Rattle.ld_names.specs.Standing.{document_of, file_cmp, folder_place, Known}
use Rattle.ld_names.specs.declared.file.FileId.{FileId}
use Rattle.ld_texts.specs.Known.{file_at}
use Rattle.ld_texts.specs.Laws.{NumbersAgree}
use Rattle.ld_cache.specs.Kept.{Cached}
use Rattle.ld_work.specs.Filling.{Rank, rank_cmp, ranked_text}
use Rattle.ld_work.specs.Inside.Staleness.{AreApart, AreFrom, AreOrdered, AreOther, AreRanked, AreStale, AreVacant, height_of, IsRanked}

file_total : IsTotalOrder file_cmp
unfolding file_cmp
file_total = then_total (on_total (λ (file : FileId). file.folder) (then_total (on_total folder_place nat_cmp_total) (on_total document_of nat_cmp_total))) (on_total (λ (file : FileId). file.name) nat_list_cmp_total)

rank_total : IsTotalOrder rank_cmp
rank_total = then_total (then_total (on_total (λ (rank : Rank). rank.0) nat_cmp_total) (on_total (λ (rank : Rank). rank.1) file_total)) (on_total (λ (rank : Rank). rank.2) nat_cmp_total)

-- what stands before is not higher
not-higher : (x y : Rank) → rank_cmp x y ≡ Less → x.0 ≤ y.0
not-higher x y less = by (nat_cmp x.0 y.0) refl less
  where
    by : (ordering : Ordering) → ordering ≡ nat_cmp x.0 y.0 → ordering_then (ordering_then ordering (file_cmp x.1 y.1)) (nat_cmp x.2 y.2) ≡ Less → x.0 ≤ y.0
    by Less is less = let below : x.0 < y.0 = compared x.0 y.0 Less is in omega arith
    by Equal is less = let same : x.0 ≡ y.0 = compared x.0 y.0 Equal is in omega arith
    by Greater is less = cc

module _ (known : Known) (depth : ℕ) (cache : Cached) where
  -- ranks of one text are one
  one-rank : (x y : Rank) → IsRanked known depth cache x → IsRanked known depth cache y → y.2 ≡ x.2 → y ≡ x
  one-rank x y is is' same =
      let heights : y.0 ≡ x.0 = is'.height ∙ ap (λ n. height_of known depth (record { 0 = n })) same ∙ sym is.height in
      let files : Some y.1 ≡ Some x.1 = sym is'.file ∙ ap (file_at known) same ∙ is.file in
      let file : y.1 ≡ x.1 = ap (λ o. unwrap_or o x.1) files in
      ap (λ n. (n, y.1, y.2)) heights ∙ ap (λ f. (x.0, f, y.2)) file ∙ ap (λ n. (x.0, x.1, n)) same

  apart : (x y : Rank) → IsRanked known depth cache x → IsRanked known depth cache y → rank_cmp x y ≡ Less → y.2 ≢ x.2
  apart x y is is' less same =
      let itself : rank_cmp x x ≡ Equal = tied_itself rank_total x in
      let ordered : rank_cmp x x ≡ Less = ap (rank_cmp x) (sym (one-rank x y is is' same)) ∙ less in
      cc

  module _ (cmp : Rank → Rank → Ordering) (same : (x y : Rank) → cmp x y ≡ rank_cmp x y) where
    from-first : (x : Rank) (ranks : List Rank) → IsRanked known depth cache x → AreRanked known depth cache ranks → AllByRecursion (λ y. cmp x y ≡ Less) ranks → AreFrom (height_of known depth) (height_of known depth (ranked_text x)) (map ranked_text ranks)
    from-first x [] is are less = tt
    from-first x (y ∷ ranks) is are less =
        let low = not-higher x y (sym (same x y) ∙ less.0) in
        let first = is.height in
        let next = are.0.height in
        (omega arith, from-first x ranks is are.1 less.1)

    other-first : (x : Rank) (ranks : List Rank) → IsRanked known depth cache x → AreRanked known depth cache ranks → AllByRecursion (λ y. cmp x y ≡ Less) ranks → AreOther (ranked_text x) (map ranked_text ranks)
    other-first x [] is are less = tt
    other-first x (y ∷ ranks) is are less = (apart x y is are.0 (sym (same x y) ∙ less.0), other-first x ranks is are.1 less.1)

    are-ordered : (ranks : List Rank) → AreRanked known depth cache ranks → IsStrictlySortedBy cmp ranks → AreOrdered (height_of known depth) depth (map ranked_text ranks)
    unfolding IsStrictlySortedBy
    are-ordered [] are sorted = tt
    are-ordered (x ∷ ranks) are sorted =
        let height = are.0.height in
        let low = are.0.low in
        (omega arith, from-first x ranks are.0 are.1 sorted.0, are-ordered ranks are.1 sorted.1)

    are-apart : (ranks : List Rank) → AreRanked known depth cache ranks → IsStrictlySortedBy cmp ranks → AreApart (map ranked_text ranks)
    unfolding IsStrictlySortedBy
    are-apart [] are sorted = tt
    are-apart (x ∷ ranks) are sorted = (other-first x ranks are.0 are.1 sorted.0, are-apart ranks are.1 sorted.1)

    are-vacant : NumbersAgree → length known ≤ length cache.kept → (ranks : List Rank) → AreRanked known depth cache ranks → AreVacant cache (map ranked_text ranks)
    are-vacant numbers room [] are = tt
    are-vacant numbers room (x ∷ ranks) are =
        (are.0.vacant, within x are.0, are-vacant numbers room ranks are.1)
      where
        within : (y : Rank) → IsRanked known depth cache y → y.2 < length cache.kept
        within y is =
            let below = ltb-true y.2 (length known) (sym (numbers.there known y.2) ∙ ap is_some is.file) in
            omega arith

    pub are-stale : NumbersAgree → length known ≤ length cache.kept → (ranks : List Rank) → AreRanked known depth cache ranks → IsStrictlySortedBy cmp ranks → AreStale known depth cache (map ranked_text ranks)
    are-stale numbers room ranks are sorted =
        record { ordered = are-ordered ranks are sorted; vacant = are-vacant numbers room ranks are; apart = are-apart ranks are sorted }
