-- Where a file stands in a reference.
use Rattle.std.proofs.Common.{◌≡◌, ◌≢◌, ◌<◌, ◌==◌, ℕ, ℤ, Bool, true, false, List, [], ◌∷◌, cond, length, map, nat_lt, not, Option, Some, None, Result, Ok, Err, refl, ap, sym, ◌∙◌, arith, tests}
use Rattle.std.specs.List.{list_any}
use Rattle.std.specs.Option.{is_some}
use Rattle.ld_num.specs.declared.dec.NumError.{NumError}
use Rattle.ld_names.specs.Normal.{checked_name, is_blank, is_control, is_relative, lower, normal_of, onto_trimmed, trim_end, trim_start}
use Rattle.ld_names.specs.declared.name.NameError.TheVariants.{TooLong, NotRelative, Control}
use Rattle.ld_line.specs.Colour.{colour_word}
use Rattle.ld_line.specs.Field.{after_fields}
use Rattle.ld_line.specs.Numbers.{numbers_of}
use Rattle.ld_line.specs.Reading.{file_named, reference_of, referred}

named_some : (a b c : Bool) (name : List ℕ) → file_named (cond a (Err TooLong) (cond b (Err NotRelative) (cond c (Err Control) (Ok name)))) ≢ None
named_some true b c name e = cc
named_some false true c name e = cc
named_some false false true name e = cc
named_some false false false name e = cc

-- the name of bytes of which some are left
checked_some : (name : List ℕ) → 0 < length name → file_named (checked_name name) ≢ None
checked_some [] some = absurd (omega arith)
checked_some (x ∷ xs) some =
    let kept : (length (x ∷ xs) == 0) ≡ false = grind (arith, tests) in
    rw kept (named_some (nat_lt 255 (length (x ∷ xs))) (not (is_relative (x ∷ xs))) (list_any is_control (x ∷ xs)) (x ∷ xs))

onto_some : (x : ℕ) (xs : List ℕ) → is_blank x ≡ false → 0 < length (map lower (onto_trimmed x xs))
onto_some x [] kept = rw kept (omega arith)
onto_some x (y ∷ ys) kept = omega arith

trimmed_some : (file : List ℕ) → 0 < length (trim_start file) → 0 < length (map lower (trim_end (trim_start file)))
trimmed_some [] some = absurd (omega arith)
trimmed_some (x ∷ xs) some =
    let P : Bool → Type 0 = λ b. is_blank x ≡ b → 0 < length (cond b (trim_start xs) (x ∷ xs)) → 0 < length (map lower (trim_end (cond b (trim_start xs) (x ∷ xs)))) in
    let cases : (b : Bool) → P b = λ b. elim b as P [ true ↦ λ blank. trimmed_some xs | false ↦ λ kept some. onto_some x (trim_end xs) kept ] in
    cases (is_blank x) refl some

stands : (file : Option (Option (List ℕ))) → file ≢ None → true ≡ is_some file
stands None some = absurd (some refl)
stands (Some name) some = refl

-- a file stands where something but blanks does
some_file : (file : List ℕ) → 0 < length (trim_start file) → true ≡ is_some (file_named (normal_of file))
unfolding normal_of
some_file file some =
    stands (file_named (checked_name (map lower (trim_end (trim_start file))))) (checked_some (map lower (trim_end (trim_start file))) (trimmed_some file some))

empty : (xs : List ℕ) → length xs ≡ 0 → xs ≡ []
empty [] none = refl
empty (x ∷ xs) none = absurd (omega arith)

no_file : (file : List ℕ) → length (trim_start file) ≡ 0 → false ≡ is_some (file_named (normal_of file))
unfolding normal_of
no_file file ends = sym (ap (λ bytes. is_some (file_named (checked_name (map lower (trim_end bytes))))) (empty (trim_start file) ends))

-- whether a file stands, by whether anything stands
pub file_stands : (file text : List ℕ) (empty : Bool) → text ≡ trim_start file → empty ≡ (length text == 0) → not empty ≡ is_some (file_named (normal_of file))
file_stands file text true are is = no_file file (grind (arith, tests))
file_stands file text false are is = some_file file (grind (arith, tests))

-- a reference by a colour word, its numbers and what stands behind them
pub reference_of-read : (all more : List (List ℕ)) (field rest : List ℕ) (colour : ℕ) (numbers : Result (List ℤ) NumError) (file : List ℕ) → all ≡ field ∷ more → Some colour ≡ colour_word field → numbers_of 12 more ≡ numbers → file ≡ after_fields 13 rest → reference_of all rest ≡ referred (Some colour) numbers (file_named (normal_of file))
reference_of-read all more field rest colour numbers file parts word are stands =
    ap (λ fs. reference_of fs rest) parts ∙ ap (λ c. referred c (numbers_of 12 more) (file_named (normal_of (after_fields 13 rest)))) (sym word) ∙ ap (λ n. referred (Some colour) n (file_named (normal_of (after_fields 13 rest)))) are ∙ ap (λ f. referred (Some colour) numbers (file_named (normal_of f))) (sym stands)
