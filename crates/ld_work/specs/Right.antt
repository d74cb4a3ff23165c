-- Which expansions may be kept: this project's own.
use Rattle.std.specs.Prelude.{◌≡◌, ◌≤◌, suc, Bool, true, [], Some}
use Rattle.ld_names.specs.Standing.{Known}
use Rattle.ld_names.specs.declared.file.TextId.{TextId}
use Rattle.ld_entry.specs.Expansion.{neutral_expansion}
use Rattle.ld_entry.specs.Heights.{height}
use Rattle.ld_entry.specs.Learnt.{IsClosed}
use Rattle.ld_entry.specs.NumberedTexts.{known_texts, NumberedTexts}
use Rattle.ld_entry.specs.declared.entry.Expansion.{Expansion}
use Rattle.ld_cache.specs.Kept.{Cached, kept_of}
use Rattle.ld_work.specs.declared.bounds.Bounds.{Bounds}

-- the expansion of a text by itself, whose references go no deeper than a way may be long
pub record IsRight (texts : NumberedTexts) (bounds : Bounds) (text : TextId) (expansion : Expansion) : Type 0 where
  pub neutral : expansion ≡ neutral_expansion texts bounds.depth bounds.entries [] text
  pub low : height (suc bounds.depth) texts text ≤ bounds.depth

-- each kept expansion is right
abbrev pub AreRight : NumberedTexts → Bounds → Cached → Type 0
AreRight texts bounds cache = (text : TextId) (expansion : Expansion) → kept_of cache text ≡ Some expansion → IsRight texts bounds text expansion

-- all that a text reaches is known: it is in a set of known texts that no reference leaves, and in which nothing is
-- wanted
abbrev pub ReachesKnown : Known → TextId → Type 0
ReachesKnown known text = (inside : TextId → Bool) × (inside text ≡ true) × IsClosed inside known

-- each kept expansion is right, and all that its text reaches is known
pub record AreKept (known : Known) (bounds : Bounds) (cache : Cached) : Type 0 where
  pub right : AreRight (known_texts known) bounds cache
  pub learnt : (text : TextId) (expansion : Expansion) → kept_of cache text ≡ Some expansion → ReachesKnown known text
