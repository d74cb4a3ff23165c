-- What is left of a list, one item after another; and how many fields a line has at most.
use Rattle.std.proofs.Common.{◌≡◌, ◌+◌, ◌-◌, ◌<◌, ◌≤◌, ℕ, zero, suc, false, nat_lt, not, List, [], ◌∷◌, drop, length, ap, arith, refl, sym, ◌∙◌}
use Rattle.std.specs.Prelude.{count_by}
use Rattle.std.specs.List.{slice_split}
use Rattle.std.proofs.lemmas.Bool.Decides.{nat_tests}
use Rattle.std.proofs.lemmas.List.{length-drop}
use Rattle.std.proofs.lemmas.List.Filters.{length-filter_both}
use Rattle.std.proofs.lemmas.List.Splits.{length-slice_split}
use Rattle.ld_names.specs.Normal.{is_blank}
use Rattle.ld_line.specs.Field.{fields, is_field}

-- behind what was left without its first item
pub drop_one : {A : Type 0} (i : ℕ) (items : List A) (item : A) (more : List A) → drop i items ≡ item ∷ more → more ≡ drop (i + 1) items
drop_one zero [] item more left = cc
drop_one zero (first ∷ items) item more left = cc
drop_one (suc i) [] item more left = cc
drop_one (suc i) (first ∷ items) item more left =
    let next : suc (i + 1) ≡ suc i + 1 = omega arith in drop_one i items item more left ∙ ap (λ n. drop n (first ∷ items)) next

pub none_left : {A : Type 0} (i count : ℕ) (items : List A) → i < count → drop i items ≡ [] → false ≡ nat_lt count (length items)
none_left i count items below left =
    let short : length items - i ≡ 0 = sym (length-drop i items) ∙ ap length left in grind (arith, nat_tests)

pub some_left : {A : Type 0} (i count : ℕ) (items left : List A) → count ≤ i → i ≤ count → left ≡ drop i items → nat_lt 0 (length left) ≡ nat_lt count (length items)
some_left i count items left above below is =
    let size : length left ≡ length items - i = ap length is ∙ length-drop i items in grind (arith, nat_tests)

-- a line has at most one field more than blanks
few_fields : (line : List ℕ) → length (fields line) ≤ count_by is_blank line + 1
unfolding fields
few_fields line =
    let parts = length-filter_both is_field (λ piece. not (is_field piece)) (λ piece. refl) (slice_split is_blank line) in
    let cut = length-slice_split is_blank line in omega (arith, parts, cut)

pub none_behind : (line : List ℕ) (count : ℕ) → count_by is_blank line < count → nat_lt count (length (fields line)) ≡ false
none_behind line count below = let few = few_fields line in grind (arith, nat_tests)
