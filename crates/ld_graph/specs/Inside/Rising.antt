-- Heights that rise until no reference calls for a greater one.
use Rattle.std.specs.Prelude.{◌≡◌, ◌≢◌, ◌≤◌, ◌<◌, ◌-◌, ◌^◌, ◌⊎◌, ℕ, suc, min, List, [], None, get_or, length, sum_by}
use Rattle.ld_graph.specs.Items.{Items, web_of}
use Rattle.ld_graph.specs.Web.{Refers, Web, children_of, height}
use Rattle.ld_graph.specs.Inside.Marking.{IsMarked, Marked}

abbrev pub height_in : List ℕ → ℕ → ℕ
height_in heights text = get_or heights text 0

-- how far the heights may rise yet
abbrev pub slack : ℕ → List ℕ → ℕ
slack cap heights = sum_by (λ height. cap - height) heights

-- none is too great
abbrev pub AreBelow : Web → ℕ → List ℕ → Type 0
AreBelow web cap heights = (text : ℕ) → height_in heights text ≤ height web cap text

-- the child calls for no greater height of the text, or is marked since it may
abbrev pub IsSettled : ℕ → List ℕ → Marked → ℕ → ℕ → Type 0
IsSettled cap heights marked text child = IsMarked marked child ⊎ (min cap (suc (height_in heights child)) ≤ height_in heights text)

abbrev pub AreSettled : Web → ℕ → List ℕ → Marked → Type 0
AreSettled web cap heights marked = (text child : ℕ) → Refers web text child → IsSettled cap heights marked text child

-- a present text counts itself
abbrev pub HasFloor : Web → ℕ → List ℕ → ℕ → Type 0
HasFloor web cap heights text = children_of web text ≢ None → min cap 1 ≤ height_in heights text

-- some heights rise, and their texts are marked
pub record Raises (cap : ℕ) (old new : List ℕ) (before after : Marked) : Type 0 where
  pub size : length new ≡ length old
  pub marks : length after.marks ≡ length before.marks
  pub kept : (text : ℕ) → IsMarked before text → IsMarked after text
  pub each : (text : ℕ) → (height_in new text ≡ height_in old text) ⊎ IsMarked after text × (height_in old text < height_in new text)
  pub falls : (new ≡ old) × (after ≡ before) ⊎ (slack cap new < slack cap old)

-- the heights are those of the items
abbrev pub AreRight : Web → ℕ → List ℕ → Type 0
AreRight web cap heights = (text : ℕ) → height_in heights text ≡ height web cap text

-- what a graph keeps beside its names: all heights, and no mark
pub record IsKept (depth : ℕ) (items : Items) (heights : List ℕ) (marked : Marked) : Type 0 where
  pub deep : depth ≤ 64
  pub few : length items < 2 ^ 32
  pub right : AreRight (web_of items) (suc depth) heights
  pub size : length heights ≡ length items
  pub marks : length marked.marks ≡ length items
  pub none : marked.list ≡ []
