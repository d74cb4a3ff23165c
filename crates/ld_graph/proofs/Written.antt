-- A filter, and an element that is written.
use Rattle.std.proofs.Common.{◌≡◌, ◌==◌, ◌<◌, ◌⊎◌, ℕ, zero, suc, Bool, true, false, not, cond, List, [], ◌∷◌, Some, length, get_or, set, inl, inr, ⊎_elim, refl, sym, ap, ◌∙◌, subst, arith}
use Rattle.std.proofs.lemmas.Bool.Decides.{eqb_tells}
use Rattle.std.specs.List.{Contains, filter, slice_get}
use Rattle.ld_graph.proofs.Listed.{here, there}

-- ---- a filter

pub kept_but : (xs : List ℕ) (text user : ℕ) → Contains xs user → (user ≡ text) ⊎ Contains (filter (λ x. not (x == text)) xs) user
kept_but xs text user c = at xs c.0 c.1 c.2
  where
    first_of : (x : ℕ) (b : Bool) (rest : List ℕ) → ((x == text) ≡ b) → (x ≡ text → user ≡ text) → (x ≡ user) → (user ≡ text) ⊎ Contains (cond (not b) (x ∷ rest) rest) user
    first_of x true rest is to same = inl (to (⊎_elim (λ yes. yes.1) (λ other. absurd (let e = sym is ∙ other.0 in cc)) (eqb_tells x text)))
    first_of x false rest is to same = inr (subst (Contains (x ∷ rest)) same (here x rest))

    later_of : (x : ℕ) (b : Bool) (rest : List ℕ) → (user ≡ text) ⊎ Contains rest user → (user ≡ text) ⊎ Contains (cond (not b) (x ∷ rest) rest) user
    later_of x true rest was = was
    later_of x false rest was = ⊎_elim inl (λ d. inr (there user x rest d)) was

    at : (ys : List ℕ) (k : ℕ) → k < length ys → get_or ys k user ≡ user → (user ≡ text) ⊎ Contains (filter (λ x. not (x == text)) ys) user
    at [] k lt is = absurd (omega arith)
    at (y ∷ ys) zero lt is = first_of y (y == text) (filter (λ x. not (x == text)) ys) refl (λ e. sym is ∙ e) is
    at (y ∷ ys) (suc k) lt is = later_of y (y == text) (filter (λ x. not (x == text)) ys) (at ys k (omega arith) is)

only_at : (xs : List ℕ) (text user k : ℕ) → k < length (filter (λ x. not (x == text)) xs) → get_or (filter (λ x. not (x == text)) xs) k user ≡ user → Contains xs user × (user ≡ text → ⊥)
only_at [] text user k lt is = absurd (omega arith)
only_at (x ∷ xs) text user k lt is = at (x == text) refl (only_at xs text user) k lt is
  where
    later : (rest : List ℕ) → Contains xs user × (user ≡ text → ⊥) → Contains (x ∷ xs) user × (user ≡ text → ⊥)
    later rest was = (there user x xs was.0, was.1)

    first : (rest : List ℕ) → ((x == text) ≡ false) → ((j : ℕ) → j < length rest → get_or rest j user ≡ user → Contains xs user × (user ≡ text → ⊥)) → (j : ℕ) → j < length (x ∷ rest) → get_or (x ∷ rest) j user ≡ user → Contains (x ∷ xs) user × (user ≡ text → ⊥)
    first rest is go zero less e = (subst (Contains (x ∷ xs)) e (here x xs), λ same. ⊎_elim (λ yes. (let f = sym is ∙ yes.0 in cc)) (λ other. other.1 (e ∙ same)) (eqb_tells x text))
    first rest is go (suc j) less e = later rest (go j (omega arith) e)

    at : (b : Bool) → ((x == text) ≡ b) → ((j : ℕ) → j < length (filter (λ y. not (y == text)) xs) → get_or (filter (λ y. not (y == text)) xs) j user ≡ user → Contains xs user × (user ≡ text → ⊥)) → (j : ℕ) → j < length (cond (not b) (x ∷ filter (λ y. not (y == text)) xs) (filter (λ y. not (y == text)) xs)) → get_or (cond (not b) (x ∷ filter (λ y. not (y == text)) xs) (filter (λ y. not (y == text)) xs)) j user ≡ user → Contains (x ∷ xs) user × (user ≡ text → ⊥)
    at true is go j less e = later xs (go j less e)
    at false is go j less e = first (filter (λ y. not (y == text)) xs) is go j less e

pub only_but : (xs : List ℕ) (text user : ℕ) → Contains (filter (λ x. not (x == text)) xs) user → Contains xs user × (user ≡ text → ⊥)
only_but xs text user c = only_at xs text user c.0 c.1 c.2

-- ---- an element is written

pub get_same : {X : Type 0} (xs : List X) (k : ℕ) (x : X) → k < length xs → slice_get (set xs k x) k ≡ Some x
get_same [] k x lt = absurd (omega arith)
get_same (y ∷ xs) zero x lt = refl
get_same (y ∷ xs) (suc k) x lt = get_same xs k x (omega arith)

pub get_other : {X : Type 0} (xs : List X) (k n : ℕ) (x : X) → (n ≡ k → ⊥) → slice_get (set xs k x) n ≡ slice_get xs n
get_other [] k n x differs = refl
get_other (y ∷ xs) zero zero x differs = absurd (differs refl)
get_other (y ∷ xs) zero (suc n) x differs = refl
get_other (y ∷ xs) (suc k) zero x differs = refl
get_other (y ∷ xs) (suc k) (suc n) x differs = get_other xs k n x (λ e. differs (ap suc e))

-- ---- some or all

pub kept_exactly : (xs : List ℕ) (text user : ℕ) → (Contains (filter (λ x. not (x == text)) xs) user → Contains xs user × (user ≡ text → ⊥)) × (Contains xs user × (user ≡ text → ⊥) → Contains (filter (λ x. not (x == text)) xs) user)
kept_exactly xs text user = (only_but xs text user, λ both. ⊎_elim (λ same. absurd (both.1 same)) (λ c. c) (kept_but xs text user both.0))
