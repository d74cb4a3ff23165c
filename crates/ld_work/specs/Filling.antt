-- What is kept of the texts that a root reaches: they are gone through from the lowest on, and the expansion of each is
-- kept where there are blocks for it. All of it is this project's own.
use Rattle.std.specs.Prelude.{ℕ, suc, ◌+◌, ◌&&◌, Bool, List, [], ◌∷◌, map, not, nat_le, Option, Some, None, if◌then◌else◌}
use Rattle.std.specs.BTreeSet.{insert_key}
use Rattle.std.specs.Option.{is_some}
use Rattle.std.specs.Ordering.{nat_cmp, on, then_cmp}
use Rattle.std.specs.declared.cmp.Ordering.{Ordering}
use Rattle.ld_names.specs.Standing.{file_cmp, Known}
use Rattle.ld_names.specs.declared.file.FileId.{FileId}
use Rattle.ld_names.specs.declared.file.TextId.{TextId}
use Rattle.ld_texts.specs.Known.{file_at}
use Rattle.ld_texts.specs.Reach.{reach, Reached, Reaches, Wants}
use Rattle.ld_entry.specs.Expansion.{neutral_expansion}
use Rattle.ld_entry.specs.Heights.{height}
use Rattle.ld_entry.specs.NumberedTexts.{known_texts, NumberedTexts}
use Rattle.ld_entry.specs.declared.entry.Expansion.{Expansion}
use Rattle.ld_cache.specs.Kept.{added, Cached, kept_of}
use Rattle.ld_work.specs.Reads.{Basis, reads}
use Rattle.ld_work.specs.declared.bounds.Bounds.{Bounds}

-- the texts reached, where no file is wanted
abbrev pub texts_in : Reached → List ℕ
texts_in (Wants file) = []
texts_in (Reaches texts) = texts

abbrev pub reached_by : Known → Option FileId → List ℕ
reached_by known None = []
reached_by known (Some file) = texts_in (reach known file)

-- the texts that a root reaches, by their numbers
abbrev pub reached : Known → TextId → List ℕ
reached known root = reached_by known (file_at known root.0)

-- a text of which nothing is kept, and whose references go no deeper than a way may be long
abbrev pub is_stale : Known → ℕ → Cached → TextId → Bool
is_stale known depth cache text = not (is_some (kept_of cache text)) && nat_le (height (suc depth) (known_texts known) text) depth

-- the place of a text in the order of filling: its height, its file and its number
abbrev pub Rank : Type 0
Rank = ℕ × FileId × ℕ

-- lower texts come first; those of one height stand in the order of their files
abbrev pub rank_cmp : Rank → Rank → Ordering
rank_cmp = then_cmp (then_cmp (on (λ rank. rank.0) nat_cmp) (on (λ rank. rank.1) file_cmp)) (on (λ rank. rank.2) nat_cmp)

abbrev pub rank_of : Known → ℕ → TextId → FileId → Rank
rank_of known depth text file = (height (suc depth) (known_texts known) text, file, text.0)

abbrev pub with_rank : Known → ℕ → List Rank → TextId → Option FileId → List Rank
with_rank known depth ranks text None = ranks
with_rank known depth ranks text (Some file) = insert_key rank_cmp ranks (rank_of known depth text file)

-- a text's rank in its order, where the text is stale
abbrev pub with_stale : Known → ℕ → Cached → List Rank → TextId → List Rank
with_stale known depth cache ranks text = if is_stale known depth cache text then with_rank known depth ranks text (file_at known text.0) else ranks

abbrev pub ranked : Known → ℕ → Cached → List Rank → List ℕ → List Rank
ranked known depth cache ranks [] = ranks
ranked known depth cache ranks (text ∷ texts) = ranked known depth cache (with_stale known depth cache ranks (record { 0 = text })) texts

abbrev pub ranked_text : Rank → TextId
ranked_text rank = record { 0 = rank.2 }

-- the stale texts that a root reaches, in the order of filling
unfoldable pub stale : Known → ℕ → Cached → TextId → List TextId
stale known depth cache root = map ranked_text (ranked known depth cache [] (reached known root))

-- the expansion of a text by itself
abbrev pub by_itself : NumberedTexts → Bounds → TextId → Expansion
by_itself texts bounds text = neutral_expansion texts bounds.depth bounds.entries [] text

-- the expansions of texts kept one after another, each where its blocks are free
abbrev pub filled : NumberedTexts → Bounds → Cached → List TextId → Cached
filled texts bounds cache [] = cache
filled texts bounds cache (text ∷ more) = filled texts bounds (added cache text (by_itself texts bounds text)) more

-- what is kept once the cache is filled for a root
abbrev pub filled_for : Known → Bounds → Cached → TextId → Cached
filled_for known bounds cache root = filled (known_texts known) bounds cache (stale known bounds.depth cache root)

-- how many lines the expansions of texts, each by itself, read
abbrev pub reads_all : Basis → List TextId → ℕ
reads_all basis [] = 0
reads_all basis (text ∷ more) = reads basis [] text + reads_all basis more
