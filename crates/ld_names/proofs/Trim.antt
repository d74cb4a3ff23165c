-- Trimming a text from its end, and trimming what is trimmed.
use Rattle.std.proofs.Common.{◌≡◌, ◌≢◌, ◌≤◌, ◌==◌, ℕ, length, nat_lt, Bool, true, false, List, [], ◌∷◌, ◌++◌, cond, map, refl, ap, sym, ◌∙◌, tests, arith, Ok, Err}
use Rattle.ld_names.specs.declared.name.NameError.TheVariants.{Control}
use Rattle.ld_names.proofs.Lower.{control-lower}
use Rattle.std.proofs.lemmas.List.{length-map}
use Rattle.std.specs.List.{list_any}
use Rattle.ld_names.specs.Normal.{IsName, is_blank, onto_trimmed, trim_end, trim_start, trim, lower, normal_of, checked_name, is_relative, is_control}

onto_trimmed_some : (x : ℕ) (xs : List ℕ) (y : ℕ) → onto_trimmed x (xs ++ y ∷ []) ≡ x ∷ xs ++ y ∷ []
onto_trimmed_some x [] y = refl
onto_trimmed_some x (z ∷ zs) y = refl

-- a blank at the end is trimmed
pub trim_end-blank : (xs : List ℕ) (y : ℕ) → is_blank y ≡ true → trim_end (xs ++ y ∷ []) ≡ trim_end xs
trim_end-blank [] y blank = grind (arith, tests)
trim_end-blank (x ∷ xs) y blank = ap (onto_trimmed x) (trim_end-blank xs y blank)

-- what ends in no blank stays
pub trim_end-kept : (xs : List ℕ) (y : ℕ) → is_blank y ≡ false → trim_end (xs ++ y ∷ []) ≡ xs ++ y ∷ []
trim_end-kept [] y kept = grind (arith, tests)
trim_end-kept (x ∷ xs) y kept = ap (onto_trimmed x) (trim_end-kept xs y kept) ∙ onto_trimmed_some x xs y

is_blank-lower : (x : ℕ) → is_blank (lower x) ≡ is_blank x
is_blank-lower x = grind (arith, tests)

lower-lower : (x : ℕ) → lower (lower x) ≡ lower x
lower-lower x = grind (arith, tests)

lowered-again : (xs : List ℕ) → map lower (map lower xs) ≡ map lower xs
lowered-again [] = refl
lowered-again (x ∷ xs) = rw (lower-lower x, lowered-again xs)

trim_start-lower : (xs : List ℕ) → trim_start (map lower xs) ≡ map lower (trim_start xs)
trim_start-lower [] = refl
trim_start-lower (x ∷ xs) = rw (is_blank-lower x) (elim (is_blank x) as (λ b. cond b (trim_start (map lower xs)) (lower x ∷ map lower xs) ≡ map lower (cond b (trim_start xs) (x ∷ xs))) [ true ↦ trim_start-lower xs | false ↦ refl ])

onto_trimmed-lower : (x : ℕ) (xs : List ℕ) → onto_trimmed (lower x) (map lower xs) ≡ map lower (onto_trimmed x xs)
onto_trimmed-lower x [] = rw (is_blank-lower x) (elim (is_blank x) as (λ b. cond b [] (lower x ∷ []) ≡ map lower (cond b [] (x ∷ []))) [ true ↦ refl | false ↦ refl ])
onto_trimmed-lower x (y ∷ ys) = refl

trim_end-lower : (xs : List ℕ) → trim_end (map lower xs) ≡ map lower (trim_end xs)
trim_end-lower [] = refl
trim_end-lower (x ∷ xs) = ap (onto_trimmed (lower x)) (trim_end-lower xs) ∙ onto_trimmed-lower x (trim_end xs)

trim_start-onto : (x : ℕ) (xs : List ℕ) → is_blank x ≡ false → trim_start (onto_trimmed x xs) ≡ onto_trimmed x xs
trim_start-onto x [] kept = rw kept (rw kept refl)
trim_start-onto x (y ∷ ys) kept = rw kept refl

trim_start-trim : (xs : List ℕ) → trim_start (trim xs) ≡ trim xs
trim_start-trim [] = refl
trim_start-trim (x ∷ xs) =
    let P : Bool → Type 0 = λ b. is_blank x ≡ b → trim_start (trim_end (cond b (trim_start xs) (x ∷ xs))) ≡ trim_end (cond b (trim_start xs) (x ∷ xs)) in
    let cases : (b : Bool) → P b = λ b. elim b as P [ true ↦ λ blank. trim_start-trim xs | false ↦ λ kept. trim_start-onto x (trim_end xs) kept ] in
    cases (is_blank x) refl

trim_end-onto : (x : ℕ) (xs : List ℕ) → trim_end xs ≡ xs → trim_end (onto_trimmed x xs) ≡ onto_trimmed x xs
trim_end-onto x [] same =
    let P : Bool → Type 0 = λ b. is_blank x ≡ b → trim_end (cond b [] (x ∷ [])) ≡ cond b [] (x ∷ []) in
    let cases : (b : Bool) → P b = λ b. elim b as P [ true ↦ λ blank. refl | false ↦ λ kept. rw kept refl ] in
    cases (is_blank x) refl
trim_end-onto x (y ∷ ys) same = ap (onto_trimmed x) same

trim_end-trim_end : (xs : List ℕ) → trim_end (trim_end xs) ≡ trim_end xs
trim_end-trim_end [] = refl
trim_end-trim_end (x ∷ xs) = trim_end-onto x (trim_end xs) (trim_end-trim_end xs)

pub trim-trim : (xs : List ℕ) → trim (trim xs) ≡ trim xs
trim-trim xs = ap trim_end (trim_start-trim xs) ∙ trim_end-trim_end (trim_start xs)

-- a lowered and trimmed text is its own
lowered-same : (text : List ℕ) → map lower (trim (map lower (trim text))) ≡ map lower (trim text)
lowered-same text =
    ap (λ xs. map lower (trim_end xs)) (trim_start-lower (trim text)) ∙ ap (map lower) (trim_end-lower (trim_start (trim text))) ∙ lowered-again (trim (trim text)) ∙ ap (map lower) (trim-trim text)

checked-same : (xs name : List ℕ) → checked_name xs ≡ Ok name → xs ≡ name
checked-same xs name is = grind (arith, tests)

-- a normal form is its own normal form
pub normal_of-again : (text name : List ℕ) → normal_of text ≡ Ok name → normal_of name ≡ Ok name
unfolding normal_of
normal_of-again text name is =
    let same : map lower (trim text) ≡ name = checked-same _ _ is in
    ap (λ xs. checked_name (map lower (trim xs))) (sym same) ∙ ap checked_name (lowered-same text) ∙ is

-- the normal form of a text that is relative once it is trimmed and lowered
pub normal_of-relative : (text trimmed : List ℕ) → trimmed ≡ trim text → (length trimmed == 0) ≡ false → length trimmed ≤ 255 → is_relative (map lower trimmed) ≡ true → normal_of text ≡ cond (list_any is_control trimmed) (Err Control) (Ok (map lower trimmed))
unfolding normal_of
normal_of-relative text trimmed is some short relative =
    let same : length (map lower trimmed) ≡ length trimmed = length-map trimmed lower in
    let some' : (length (map lower trimmed) == 0) ≡ false = ap (λ n. n == 0) same ∙ some in
    let short' : nat_lt 255 (length (map lower trimmed)) ≡ false = grind (arith, tests) in
    let fits : checked_name (map lower trimmed) ≡ cond (list_any is_control trimmed) (Err Control) (Ok (map lower trimmed)) = rw some' (rw short' (rw relative (rw (control-lower trimmed) refl))) in
    ap (λ xs. checked_name (map lower xs)) (sym is) ∙ fits

-- what a text that passes each test says of itself
record Passed (name : List ℕ) : Type 0 where
  some : name ≢ []
  short : length name ≤ 255
  relative : is_relative name ≡ true
  plain : list_any is_control name ≡ false

checked-passed : (name : List ℕ) → checked_name name ≡ Ok name → Passed name
checked-passed name is = record { some = λ empty. grind (arith, tests); short = grind (arith, tests); relative = grind (arith, tests); plain = grind (arith, tests) }

trimmed-lower : (xs : List ℕ) → trim_end (map lower (trim_end xs)) ≡ map lower (trim_end xs)
trimmed-lower xs = trim_end-lower (trim_end xs) ∙ ap (map lower) (trim_end-trim_end xs)

pub name-is : (name : List ℕ) → normal_of name ≡ Ok name → IsName name
unfolding normal_of
name-is name is =
    let same : map lower (trim name) ≡ name = checked-same _ _ is in
    let passed : Passed name = checked-passed name (ap checked_name (sym same) ∙ is) in
    record {
      some = passed.some;
      short = passed.short;
      relative = passed.relative;
      plain = passed.plain;
      start = ap trim_start (sym same) ∙ trim_start-lower (trim name) ∙ ap (map lower) (trim_start-trim name) ∙ same;
      end = ap trim_end (sym same) ∙ trimmed-lower (trim_start name) ∙ same;
      lowered = ap (map lower) (sym same) ∙ lowered-again (trim name) ∙ same;
    }
