-- Whether a name is relative and free of control characters can be seen before it is lowered.
use Rattle.std.proofs.Common.{◌≡◌, ◌==◌, ◌||◌, ℕ, Bool, true, false, List, [], ◌∷◌, cond, map, refl, ap, ◌∙◌, tests, arith}
use Rattle.std.specs.List.{list_any, onto_first, slice_split}
use Rattle.ld_names.specs.Normal.{is_control, is_step, lower}

list_any-map : {X Y : Type 0} (test : Y → Bool) (f : X → Y) (xs : List X) → list_any test (map f xs) ≡ list_any (λ x. test (f x)) xs
list_any-map test f [] = refl
list_any-map test f (x ∷ xs) = ap (λ b. test (f x) || b) (list_any-map test f xs)

list_any-same : {X : Type 0} (test other : X → Bool) → ((x : X) → test x ≡ other x) → (xs : List X) → list_any test xs ≡ list_any other xs
list_any-same test other same [] = refl
list_any-same test other same (x ∷ xs) = ap (λ b. b || list_any test xs) (same x) ∙ ap (λ b. other x || b) (list_any-same test other same xs)

is_control-lower : (byte : ℕ) → is_control (lower byte) ≡ is_control byte
is_control-lower byte = grind (arith, tests)

pub control-lower : (name : List ℕ) → list_any is_control (map lower name) ≡ list_any is_control name
control-lower name = list_any-map is_control lower name ∙ list_any-same (λ byte. is_control (lower byte)) is_control is_control-lower name

-- what stands between components, before and after
abbrev pub is_separator : ℕ → Bool
is_separator byte = byte == 47 || byte == 92

slash-lower : (byte : ℕ) → (lower byte == 47) ≡ is_separator byte
slash-lower byte = grind (arith, tests)

dot-lower : (byte : ℕ) → (lower byte == 46) ≡ (byte == 46)
dot-lower byte = grind (arith, tests)

onto_first-lower : (byte : ℕ) (parts : List (List ℕ)) → onto_first (lower byte) (map (map lower) parts) ≡ map (map lower) (onto_first byte parts)
onto_first-lower byte [] = refl
onto_first-lower byte (part ∷ parts) = refl

split-lower : (name : List ℕ) → slice_split (λ byte. byte == 47) (map lower name) ≡ map (map lower) (slice_split is_separator name)
split-lower [] = refl
split-lower (byte ∷ name) =
    let cut : Bool → List (List ℕ) = λ b. cond b ([] ∷ slice_split (λ byte. byte == 47) (map lower name)) (onto_first (lower byte) (slice_split (λ byte. byte == 47) (map lower name))) in
    let cases : (b : Bool) → cut b ≡ map (map lower) (cond b ([] ∷ slice_split is_separator name) (onto_first byte (slice_split is_separator name))) = λ b. elim b as (λ b. cut b ≡ map (map lower) (cond b ([] ∷ slice_split is_separator name) (onto_first byte (slice_split is_separator name)))) [
      | true ↦ ap (λ (parts : List (List ℕ)). [] ∷ parts) (split-lower name)
      | false ↦ ap (onto_first (lower byte)) (split-lower name) ∙ onto_first-lower byte (slice_split is_separator name)
    ] in
    ap cut (slash-lower byte) ∙ cases (is_separator byte)

is_step-lower : (part : List ℕ) → is_step (map lower part) ≡ is_step part
is_step-lower [] = refl
is_step-lower (a ∷ []) = grind (arith, tests, dot-lower a)
is_step-lower (a ∷ b ∷ []) = grind (arith, tests, dot-lower a, dot-lower b)
is_step-lower (a ∷ b ∷ c ∷ part) = grind (arith, tests)

pub steps-lower : (name : List ℕ) → list_any is_step (slice_split (λ byte. byte == 47) (map lower name)) ≡ list_any is_step (slice_split is_separator name)
steps-lower name =
    ap (list_any is_step) (split-lower name) ∙ list_any-map is_step (map lower) (slice_split is_separator name) ∙ list_any-same (λ part. is_step (map lower part)) is_step is_step-lower (slice_split is_separator name)
