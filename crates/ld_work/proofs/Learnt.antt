-- All that a stale text reaches is known.
use Rattle.std.proofs.Common.{◌≡◌, ◌⊎◌, ◌||◌, inl, inr, ⊎_elim, ℕ, zero, suc, Bool, true, false, cond, List, [], ◌∷◌, ◌++◌, length, map, take, drop, Option, Some, None, refl, ap, sym, ◌∙◌, subst, arith}
use Rattle.std.specs.Prelude.{nat_eq, IfSome, IsSome, ⊤}
use Rattle.std.specs.BTreeSet.{insert_key}
use Rattle.std.specs.List.{list_any}
use Rattle.std.specs.Option.{is_some}
use Rattle.std.specs.Ordering.{match_ordering}
use Rattle.std.specs.declared.cmp.Ordering.{Ordering}
use Rattle.std.specs.declared.cmp.Ordering.TheVariants.{Less, Equal, Greater}
use Rattle.std.proofs.lemmas.Bool.{lt-ltb}
use Rattle.std.proofs.lemmas.List.{append_assoc, take-append-drop}
use Rattle.ld_names.specs.Standing.{Known}
use Rattle.ld_names.specs.declared.file.FileId.{FileId}
use Rattle.ld_names.specs.declared.file.TextId.{TextId}
use Rattle.ld_texts.specs.Known.{AreDistinct, file_at, lines_at}
use Rattle.ld_texts.specs.Laws.{NumbersAgree}
use Rattle.ld_texts.specs.Reach.{wanted}
use Rattle.ld_entry.specs.Laws.{ReachedLaw}
use Rattle.ld_entry.specs.Learnt.{is_among, IsClosed}
use Rattle.ld_entry.specs.NumberedTexts.{known_texts}
use Rattle.ld_entry.specs.declared.entry.Expansion.{Expansion}
use Rattle.ld_cache.specs.Kept.{added, Cached, kept_of}
use Rattle.ld_work.specs.Filling.{by_itself, filled, is_stale, Rank, ranked, ranked_text, rank_cmp, rank_of, reached, reached_by, stale, texts_in, with_rank, with_stale}
use Rattle.ld_work.specs.Inside.Staleness.{AreStale}
use Rattle.ld_work.specs.Readers.{IsLearntRoot}
use Rattle.ld_work.specs.Right.{AreKept}
use Rattle.ld_work.specs.declared.bounds.Bounds.{Bounds}
use Rattle.ld_work.proofs.Filled.{added-cases, right-front}

-- ---- Stale texts are among those reached.

abbrev AreAmong : List ℕ → List TextId → Type 0
AreAmong all [] = ⊤
AreAmong all (text ∷ texts) = (is_among all text ≡ true) × AreAmong all texts

same-number : (n : ℕ) → nat_eq n n ≡ true
same-number n = grind arith

among-behind : (before rest : List ℕ) (text : ℕ) → is_among (before ++ text ∷ rest) (record { 0 = text }) ≡ true
among-behind [] rest text = ap (λ b. b || list_any (nat_eq text) rest) (same-number text)
among-behind (other ∷ before) rest text = ap (λ b. nat_eq text other || b) (among-behind before rest text) ∙ or-true (nat_eq text other)
  where
    or-true : (b : Bool) → b || true ≡ true
    or-true true = refl
    or-true false = refl

module _ (all : List ℕ) where
  abbrev RanksAmong : List Rank → Type 0
  RanksAmong ranks = AreAmong all (map ranked_text ranks)

  insert-among : (cmp : Rank → Rank → Ordering) (ranks : List Rank) (rank : Rank) → RanksAmong ranks → is_among all (ranked_text rank) ≡ true → RanksAmong (insert_key cmp ranks rank)
  insert-among cmp [] rank are is = (is, tt)
  insert-among cmp (first ∷ ranks) rank are is = by (cmp rank first) (insert-among cmp ranks rank are.1 is)
    where
      by : (ordering : Ordering) → RanksAmong (insert_key cmp ranks rank) → RanksAmong (match_ordering ordering (rank ∷ first ∷ ranks) (first ∷ ranks) (first ∷ insert_key cmp ranks rank))
      by Less rest = (is, are)
      by Equal rest = are
      by Greater rest = (are.0, rest)

  module _ (known : Known) (depth : ℕ) (cache : Cached) where
    stale-among : (ranks : List Rank) (text : TextId) → RanksAmong ranks → is_among all text ≡ true → RanksAmong (with_stale known depth cache ranks text)
    stale-among ranks text are is = by (is_stale known depth cache text) (file_at known text.0)
      where
        by : (b : Bool) (file : Option FileId) → RanksAmong (cond b (with_rank known depth ranks text file) ranks)
        by false file = are
        by true None = are
        by true (Some file) = insert-among rank_cmp ranks (rank_of known depth text file) are is

    ranked-among : (before texts : List ℕ) (ranks : List Rank) → before ++ texts ≡ all → RanksAmong ranks → RanksAmong (ranked known depth cache ranks texts)
    ranked-among before [] ranks is are = are
    ranked-among before (text ∷ texts) ranks is are =
        ranked-among (before ++ text ∷ []) texts (with_stale known depth cache ranks (record { 0 = text })) (append_assoc before (text ∷ []) texts ∙ is)
        (stale-among ranks (record { 0 = text }) are (subst (λ xs. is_among xs (record { 0 = text }) ≡ true) is (among-behind before texts text)))

all-among : (known : Known) (depth : ℕ) (cache : Cached) (root : TextId) → AreAmong (reached known root) (stale known depth cache root)
unfolding stale
all-among known depth cache root = ranked-among (reached known root) known depth cache [] (reached known root) [] refl tt

-- ---- What is kept of them is right.

module _ (known : Known) (bounds : Bounds) where
  kept-cases : (cache : Cached) (all : List ℕ) (texts : List TextId) (text : TextId) (given : Expansion) → AreAmong all texts → kept_of (filled (known_texts known) bounds cache texts) text ≡ Some given → (is_among all text ≡ true) ⊎ (kept_of cache text ≡ Some given)
  kept-cases cache all [] text given are kept = inr kept
  kept-cases cache all (first ∷ texts) text given are kept =
      ⊎_elim inl (λ before. by (added-cases cache first text (by_itself (known_texts known) bounds first) given before)) (kept-cases (added cache first (by_itself (known_texts known) bounds first)) all texts text given are.1 kept)
    where
      by : ((text ≡ first) × (given ≡ by_itself (known_texts known) bounds first)) ⊎ (kept_of cache text ≡ Some given) → (is_among all text ≡ true) ⊎ (kept_of cache text ≡ Some given)
      by (inl (same, is)) = inl (subst (λ t. is_among all t ≡ true) (sym same) are.0)
      by (inr before) = inr before

  front-among : (all : List ℕ) (texts : List TextId) (count : ℕ) → AreAmong all texts → AreAmong all (take count texts)
  front-among all [] zero are = tt
  front-among all [] (suc count) are = tt
  front-among all (text ∷ texts) zero are = tt
  front-among all (text ∷ texts) (suc count) are = (are.0, front-among all texts count are.1)

  module _ (law : ReachedLaw) (numbers : NumbersAgree) (distinct : AreDistinct known) (root : TextId) (learnt : IsLearntRoot known root) where
    file-there : (file : FileId) × (file_at known root.0 ≡ Some file)
    file-there = by (lines_at known root.0) refl learnt.present
      where
        some : (o : Option FileId) → is_some o ≡ true → (file : FileId) × (o ≡ Some file)
        some None is = cc
        some (Some file) is = (file, refl)

        by : (standing : Option (List (List ℕ))) → lines_at known root.0 ≡ standing → IsSome standing → (file : FileId) × (file_at known root.0 ≡ Some file)
        by None is present = cc
        by (Some lines) is present = some (file_at known root.0) (numbers.there known root.0 ∙ lt-ltb root.0 (length known) (numbers.present known root.0 lines is))

    closed : IsClosed (is_among (reached known root)) known
    closed =
        let there = file-there in
        let nothing : wanted known there.0 ≡ None = subst (λ o. IfSome o (λ file. wanted known file ≡ None)) there.1 learnt.wanted in
        let all = law known there.0 root.0 distinct (numbers.number known there.0 root.0 distinct there.1) nothing in
        let is : reached known root ≡ all.texts = ap (reached_by known) there.1 ∙ ap texts_in all.reached in
        subst (λ texts. IsClosed (is_among texts) known) (sym is) all.closed

    pub kept-part : (cache new : Cached) (count : ℕ) → AreKept known bounds cache → AreStale known bounds.depth cache (stale known bounds.depth cache root) → new ≡ filled (known_texts known) bounds cache (take count (stale known bounds.depth cache root)) → AreKept known bounds new
    kept-part cache new count kept are is =
        let texts = stale known bounds.depth cache root in
        let all : AreStale known bounds.depth cache (take count texts ++ drop count texts) = subst (AreStale known bounds.depth cache) (sym (take-append-drop count texts)) are in
        subst (AreKept known bounds) (sym is)
        (record {
          right = right-front known bounds cache (take count texts) (drop count texts) kept.right all;
          learnt = λ text given at. ⊎_elim (λ (among : is_among (reached known root) text ≡ true). (is_among (reached known root), among, closed)) (λ (before : kept_of cache text ≡ Some given). kept.learnt text given before)
              (kept-cases cache (reached known root) (take count texts) text given (front-among (reached known root) texts count (all-among known bounds.depth cache root)) at);
        })
