-- The laws of heights and dirt.
use Rattle.std.specs.Prelude.{◌≡◌, ◌≤◌, ◌↔◌, ℕ, Bool, true, List}
use Rattle.ld_graph.specs.Changing.{IsChanged, IsMore, IsDirty, IsTouched}
use Rattle.ld_graph.specs.Items.{Items, web_of}
use Rattle.ld_graph.specs.Web.{AreHeights, Reaches, Refers, Web, children_of, height}

-- what meets the local equations is the height, and the heights meet them
abbrev pub HeightsAreOne : Type 0
HeightsAreOne = (web : Web) (cap : ℕ) (heights : ℕ → ℕ) → AreHeights web cap heights ↔ ((text : ℕ) → heights text ≡ height web cap text)

-- the walks after a change alone lead from all of the dirt
abbrev pub DirtIsOne : Type 0
DirtIsOne = (before after : Items) (changed : List ℕ) (text : ℕ) → IsChanged before after changed → IsDirty before after changed text ↔ Reaches (web_of after) (IsTouched before after changed after) text

-- a set that has the touched texts, and each text that refers to one of its own, has the dirt
abbrev pub DirtIsLeast : Type 0
DirtIsLeast = (before after : Items) (changed : List ℕ) (set : ℕ → Bool) → IsChanged before after changed → ((text : ℕ) → IsTouched before after changed after text → set text ≡ true) → ((text child : ℕ) → Refers (web_of after) text child → set child ≡ true → set text ≡ true) → (text : ℕ) → IsDirty before after changed text → set text ≡ true

-- a text outside the dirt refers to the same texts before and after the change, none of which is dirty, and has the
-- same height
pub record OutsideDirt (before after : Items) (changed : List ℕ) (text : ℕ) : Type 0 where
  pub children : children_of (web_of before) text ≡ children_of (web_of after) text
  pub clean : (child : ℕ) → Refers (web_of after) text child → IsDirty before after changed child → ⊥
  pub heights : (cap : ℕ) → height (web_of before) cap text ≡ height (web_of after) cap text

abbrev pub OthersStay : Type 0
OthersStay = (before after : Items) (changed : List ℕ) (text : ℕ) → IsChanged before after changed → (IsDirty before after changed text → ⊥) → OutsideDirt before after changed text

-- where more is known no height falls
abbrev pub HeightsRise : Type 0
HeightsRise = (before after : Items) (cap text : ℕ) → IsMore before after → height (web_of before) cap text ≤ height (web_of after) cap text
