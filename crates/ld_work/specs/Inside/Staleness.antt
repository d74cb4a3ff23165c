-- Texts that are to be expanded, in the order of filling.
use Rattle.std.specs.Prelude.{◌≡◌, ◌≢◌, ◌≤◌, ◌<◌, ℕ, suc, List, [], ◌∷◌, length, Some, None, ⊤}
use Rattle.ld_names.specs.Standing.{Known}
use Rattle.ld_names.specs.declared.file.TextId.{TextId}
use Rattle.ld_texts.specs.Known.{file_at}
use Rattle.ld_entry.specs.Heights.{height}
use Rattle.ld_entry.specs.NumberedTexts.{known_texts}
use Rattle.ld_cache.specs.Kept.{Cached, kept_of}
use Rattle.ld_work.specs.Filling.{Rank, ranked_text}

abbrev pub height_of : Known → ℕ → TextId → ℕ
height_of known depth text = height (suc depth) (known_texts known) text

-- a rank is that of a known stale text
pub record IsRanked (known : Known) (depth : ℕ) (cache : Cached) (rank : Rank) : Type 0 where
  pub height : rank.0 ≡ height_of known depth (ranked_text rank)
  pub file : file_at known rank.2 ≡ Some rank.1
  pub low : rank.0 ≤ depth
  pub vacant : kept_of cache (ranked_text rank) ≡ None

abbrev pub AreRanked : Known → ℕ → Cached → List Rank → Type 0
AreRanked known depth cache [] = ⊤
AreRanked known depth cache (rank ∷ ranks) = IsRanked known depth cache rank × AreRanked known depth cache ranks

-- nothing is kept of the texts, and the cache has places for them
abbrev pub AreVacant : Cached → List TextId → Type 0
AreVacant cache [] = ⊤
AreVacant cache (text ∷ texts) = (kept_of cache text ≡ None) × (text.0 < length cache.kept) × AreVacant cache texts

-- none of the texts is this one
abbrev pub AreOther : TextId → List TextId → Type 0
AreOther text [] = ⊤
AreOther text (other ∷ others) = (other.0 ≢ text.0) × AreOther text others

-- no text stands twice
abbrev pub AreApart : List TextId → Type 0
AreApart [] = ⊤
AreApart (text ∷ texts) = AreOther text texts × AreApart texts

-- each is as high, or higher
abbrev pub AreFrom : (TextId → ℕ) → ℕ → List TextId → Type 0
AreFrom f least [] = ⊤
AreFrom f least (text ∷ texts) = (least ≤ f text) × AreFrom f least texts

-- the texts are low, and none stands before a lower one
abbrev pub AreOrdered : (TextId → ℕ) → ℕ → List TextId → Type 0
AreOrdered f depth [] = ⊤
AreOrdered f depth (text ∷ texts) = (f text ≤ depth) × AreFrom f (f text) texts × AreOrdered f depth texts

-- texts that are to be expanded, in the order of filling
pub record AreStale (known : Known) (depth : ℕ) (cache : Cached) (texts : List TextId) : Type 0 where
  pub ordered : AreOrdered (height_of known depth) depth texts
  pub vacant : AreVacant cache texts
  pub apart : AreApart texts
