-- The kinds and names of blocks that were seen.
use Rattle.std.specs.Prelude.{◌≡◌, ◌&&◌, ◌||◌, ℕ, Bool, true, false, List, bytes_eq}
use Rattle.std.specs.Ordering.{nat_cmp}
use Rattle.std.specs.Cmp.Lexicographic.{slice_cmp}
use Rattle.std.specs.BTreeSet.{BTreeSet, contains}
use Rattle.std.specs.List.{list_any}
use Rattle.ld_mpd.specs.declared.block.Block.{Block}
use Rattle.ld_mpd.specs.declared.seen.Seen.{Seen}
use Rattle.ld_mpd.specs.Blocks.{is_named, same_kind}

abbrev pub names_of : Seen → Bool → BTreeSet (List ℕ)
names_of seen true = seen.data
names_of seen false = seen.texts

-- whether a kind and a name were seen
abbrev pub has_seen : Seen → Bool → List ℕ → Bool
has_seen seen is_data name = contains (slice_cmp nat_cmp) (names_of seen is_data) name

-- a kind and a name were seen, beside what was seen before
abbrev pub Notes : Seen → Seen → Bool → List ℕ → Type 0
Notes old new is_data name = (other : Bool) (text : List ℕ) → has_seen new other text ≡ (same_kind other is_data && bytes_eq text name || has_seen old other text)

-- the same was seen
abbrev pub SeesSame : Seen → Seen → Type 0
SeesSame old new = (is_data : Bool) (name : List ℕ) → has_seen new is_data name ≡ has_seen old is_data name

-- what was seen are the kinds and names of these blocks
abbrev pub HasSeen : Seen → List Block → Type 0
HasSeen seen blocks = (is_data : Bool) (name : List ℕ) → has_seen seen is_data name ≡ list_any (is_named is_data name) blocks
