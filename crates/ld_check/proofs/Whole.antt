-- The findings of a text, line by line, and then those of the header lines that it lacks.
use Rattle.std.proofs.Common.{◌≡◌, ℕ, suc, zero, ◌+◌, ◌≤◌, false, List, [], ◌∷◌, ◌++◌, ap, append-nil, append_assoc, arith, length, max, nat_lt, refl, sym, ◌∙◌}
use Rattle.std.specs.List.{flat_map, range_with_len}
use Rattle.std.proofs.lemmas.Bool.Decides.{nat_tests}
use Rattle.std.proofs.lemmas.List.Concat.{flat_map-append}
use Rattle.ld_names.specs.declared.file.FileId.{FileId}
use Rattle.ld_check.specs.Findings.{findings_at}
use Rattle.ld_check.specs.Inside.AtLine.{missing_findings}
use Rattle.ld_check.specs.declared.finding.Finding.{Finding}

one_further : (first count : ℕ) → range_with_len first (count + 1) ≡ range_with_len first count ++ (first + count) ∷ []
one_further first zero = let same : first ≡ first + 0 = omega arith in ap (λ n. n ∷ []) same
one_further first (suc count) =
    let up : suc count + 1 ≡ suc (count + 1) = omega arith in
    let more : first + 1 + count ≡ first + suc count = omega arith in
    ap (range_with_len first) up ∙ ap (λ rest. first ∷ rest) (one_further (first + 1) count) ∙ ap (λ n. first ∷ (range_with_len (first + 1) count ++ n ∷ [])) more

-- one line more
pub line_more : (at : ℕ → List Finding) (count : ℕ) → flat_map at (range_with_len 1 count) ++ at (count + 1) ≡ flat_map at (range_with_len 1 (count + 1))
line_more at count =
    let up : 1 + count ≡ count + 1 = omega arith in
    ap (λ list. flat_map at (range_with_len 1 count) ++ list) (sym (append-nil (at (count + 1)))) ∙ ap (λ n. flat_map at (range_with_len 1 count) ++ flat_map at (n ∷ [])) (sym up) ∙ sym (flat_map-append at (range_with_len 1 count) ((1 + count) ∷ [])) ∙ ap (flat_map at) (sym (one_further 1 count))

after-one : (a tail : List Finding) → (a ++ []) ++ tail ≡ a ++ tail
after-one a tail = simp append-nil

after-two : (a b tail : List Finding) → (a ++ (b ++ [])) ++ tail ≡ a ++ (b ++ tail)
after-two a b tail = simp (append_assoc, append-nil)

after-three : (a b c tail : List Finding) → (a ++ (b ++ (c ++ []))) ++ tail ≡ a ++ (b ++ (c ++ tail))
after-three a b c tail = simp (append_assoc, append-nil)

after-four : (a b c d tail : List Finding) → (a ++ (b ++ (c ++ (d ++ [])))) ++ tail ≡ a ++ (b ++ (c ++ (d ++ tail)))
after-four a b c d tail = simp (append_assoc, append-nil)

none-missing : (count : ℕ) → 5 ≤ count → missing_findings count ≡ []
none-missing count enough =
    let one : nat_lt count 1 ≡ false = grind (arith, nat_tests) in
    let two : nat_lt count 2 ≡ false = grind (arith, nat_tests) in
    let three : nat_lt count 3 ≡ false = grind (arith, nat_tests) in
    let four : nat_lt count 4 ≡ false = grind (arith, nat_tests) in
    let five : nat_lt count 5 ≡ false = grind (arith, nat_tests) in
    rw (one, two, three, four, five) refl

-- the header lines that are missing come last
pub with_missing : (file : FileId) (lines : List (List ℕ)) → flat_map (findings_at file lines) (range_with_len 1 (length lines)) ++ missing_findings (length lines) ≡ flat_map (findings_at file lines) (range_with_len 1 (max 5 (length lines)))
with_missing file [] = refl
with_missing file (a ∷ []) = let at = findings_at file (a ∷ []) in after-one (at 1) _
with_missing file (a ∷ b ∷ []) = let at = findings_at file (a ∷ b ∷ []) in after-two (at 1) (at 2) _
with_missing file (a ∷ b ∷ c ∷ []) = let at = findings_at file (a ∷ b ∷ c ∷ []) in after-three (at 1) (at 2) (at 3) _
with_missing file (a ∷ b ∷ c ∷ d ∷ []) = let at = findings_at file (a ∷ b ∷ c ∷ d ∷ []) in after-four (at 1) (at 2) (at 3) (at 4) _
with_missing file (a ∷ b ∷ c ∷ d ∷ e ∷ lines) =
    let all = a ∷ b ∷ c ∷ d ∷ e ∷ lines in
    let enough : 5 ≤ length all = omega arith in
    let size : length all ≡ max 5 (length all) = omega arith in
    ap (λ list. flat_map (findings_at file all) (range_with_len 1 (length all)) ++ list) (none-missing (length all) enough) ∙ append-nil (flat_map (findings_at file all) (range_with_len 1 (length all))) ∙ ap (λ n. flat_map (findings_at file all) (range_with_len 1 n)) size
