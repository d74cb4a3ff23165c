-- Which texts refer to which, by their numbers; walks of references, and heights. A walk and a height are this project's
-- own; a reference is a sub-file reference of File Format 1.0.2 ("Line Type 1").
use Rattle.std.specs.Prelude.{◌≡◌, ℕ, zero, suc, min, max, List, [], ◌∷◌, Option, Some, None, get_or, unwrap_or, ⊤}
use Rattle.std.specs.List.{Contains}

-- for each text the texts that its references find, or None of an absent one
abbrev pub Web : Type 0
Web = List (Option (List ℕ))

-- the greatest of the heights of some texts
abbrev pub tallest : (ℕ → ℕ) → List ℕ → ℕ
tallest heights [] = 0
tallest heights (text ∷ texts) = max (heights text) (tallest heights texts)

-- one more than the greatest height of the texts referred to; an absent text has 0
abbrev pub over_children : (ℕ → ℕ) → Option (List ℕ) → ℕ
over_children heights None = 0
over_children heights (Some children) = suc (tallest heights children)

-- what a text refers to; a text past the end is absent
abbrev pub children_of : Web → ℕ → Option (List ℕ)
children_of web text = get_or web text None

abbrev pub over : Web → (ℕ → ℕ) → ℕ → ℕ
over web heights text = over_children heights (children_of web text)

-- how many texts the longest walk from a text has, itself included, where no more than a bound are counted
unfoldable pub height : Web → ℕ → ℕ → ℕ
height web zero text = 0
height web (suc bound) text = over web (height web bound) text

-- each height is one more than the greatest of the texts referred to, up to a cap
abbrev pub AreHeights : Web → ℕ → (ℕ → ℕ) → Type 0
AreHeights web cap heights = (text : ℕ) → heights text ≡ min cap (over web heights text)

-- the text refers to the other
abbrev pub Refers : Web → ℕ → ℕ → Type 0
Refers web text child = Contains (unwrap_or (children_of web text) []) child

-- a walk of references from a text, through the texts that follow it
abbrev pub IsWalk : Web → ℕ → List ℕ → Type 0
IsWalk web text [] = ⊤
IsWalk web text (next ∷ walk) = Refers web text next × IsWalk web next walk

-- the last text of a walk
abbrev pub end_of : ℕ → List ℕ → ℕ
end_of text [] = text
end_of text (next ∷ walk) = end_of next walk

-- a walk, which may be the text alone, leads to a text that is so
abbrev pub Reaches : Web → (ℕ → Type 0) → ℕ → Type 0
Reaches web is text = (walk : List ℕ) × IsWalk web text walk × is (end_of text walk)
