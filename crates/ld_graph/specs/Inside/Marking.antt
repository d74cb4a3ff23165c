-- Marked texts: a mark for each text, and the list of the marked ones.
use Rattle.std.specs.Prelude.{◌≡◌, ◌==◌, ◌++◌, ℕ, Bool, true, false, List, length, get_or, count_by, if◌then◌else◌}

-- the marks, the marked texts in the order in which they were marked, and for how many more texts there is room
pub record Marked : Type 0 where
  pub marks : List Bool
  pub list : List ℕ
  pub room : ℕ

abbrev pub IsMarked : Marked → ℕ → Type 0
IsMarked marked text = get_or marked.marks text false ≡ true

-- the list has each marked text once, and no other
pub record IsListed (marks : List Bool) (list : List ℕ) : Type 0 where
  pub count : length list ≡ count_by (λ mark. mark) marks
  pub once : (text : ℕ) → count_by (λ one. one == text) list ≡ (if get_or marks text false then 1 else 0)

-- after further texts were marked
pub record MarksMore (old new : Marked) : Type 0 where
  pub size : length new.marks ≡ length old.marks
  pub kept : (text : ℕ) → IsMarked old text → IsMarked new text
  pub front : (rest : List ℕ) × (new.list ≡ old.list ++ rest)
