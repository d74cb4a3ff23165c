-- A list cut at the first element that passes a test, where what stands first passes it nowhere.
use Rattle.std.proofs.Common.{◌≡◌, ℕ, ◌+◌, Bool, true, false, List, [], ◌∷◌, ◌++◌, length, drop, arith, refl, add_assoc}
use Rattle.std.specs.List.{before_first, after_first, position_or_len}
use Rattle.std.proofs.Math.Seq.{take-append-add, drop-append-add}

abbrev pub Fails : (ℕ → Bool) → List ℕ → Type 0
Fails p [] = Unit {0}
Fails p (x ∷ xs) = (p x ≡ false) × Fails p xs

pub fails-append : (p : ℕ → Bool) (xs ys : List ℕ) → Fails p xs → Fails p ys → Fails p (xs ++ ys)
fails-append p [] ys f g = g
fails-append p (x ∷ xs) ys f g = (f.0, fails-append p xs ys f.1 g)

position-fails : (p : ℕ → Bool) (xs ys : List ℕ) → Fails p xs → position_or_len p (xs ++ ys) ≡ length xs + position_or_len p ys
position-fails p [] ys f = omega arith
position-fails p (x ∷ xs) ys f = rw f.0 (omega (arith, position-fails p xs ys f.1))

pub before-fails : (p : ℕ → Bool) (xs ys : List ℕ) → Fails p xs → before_first p (xs ++ ys) ≡ xs ++ before_first p ys
before-fails p xs ys f = rw (position-fails p xs ys f) (take-append-add xs ys (position_or_len p ys))

pub after-fails : (p : ℕ → Bool) (xs ys : List ℕ) → Fails p xs → after_first p (xs ++ ys) ≡ after_first p ys
after-fails p xs ys f =
    rw (position-fails p xs ys f, add_assoc (length xs) (position_or_len p ys) 1) (drop-append-add xs ys (position_or_len p ys + 1))

pub from-fails : (p : ℕ → Bool) (xs ys : List ℕ) → Fails p xs → drop (position_or_len p (xs ++ ys)) (xs ++ ys) ≡ drop (position_or_len p ys) ys
from-fails p xs ys f = rw (position-fails p xs ys f) (drop-append-add xs ys (position_or_len p ys))

-- ---- and where an element that passes stands first

pub before-passes : (p : ℕ → Bool) (x : ℕ) (xs : List ℕ) → p x ≡ true → before_first p (x ∷ xs) ≡ []
before-passes p x xs h = rw h refl

pub after-passes : (p : ℕ → Bool) (x : ℕ) (xs : List ℕ) → p x ≡ true → after_first p (x ∷ xs) ≡ xs
after-passes p x xs h = rw h refl

pub from-passes : (p : ℕ → Bool) (x : ℕ) (xs : List ℕ) → p x ≡ true → drop (position_or_len p (x ∷ xs)) (x ∷ xs) ≡ x ∷ xs
from-passes p x xs h = rw h refl
