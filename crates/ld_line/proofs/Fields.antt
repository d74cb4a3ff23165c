-- Taking the fields of a line one by one.
use Rattle.std.proofs.Common.{◌≡◌, ◌<◌, ◌≤◌, ℕ, Bool, true, false, List, [], ◌∷◌, cond, length, take, drop, get_or, refl, ap, sym, ◌∙◌, arith, filter, not, suc, add-one, tests, ⊎_elim}
use Rattle.std.proofs.Math.Seq.{drop-cons}
use Rattle.std.proofs.lemmas.Bool.{cases_lt}
use Rattle.std.proofs.lemmas.List.{length-take-le, take_all, drop_all}
use Rattle.std.specs.List.{position_or_len}
use Rattle.std.proofs.lemmas.List.Splits.{slice_split_none, slice_split_first}
use Rattle.std.proofs.lemmas.List.Sums.{prefix_len_stops, prefix_len_passes, prefix_len-le-length}
use Rattle.ld_names.specs.Normal.{is_blank, trim_start}
use Rattle.ld_line.specs.Field.{fields, is_field, after_field}

-- blanks before a field are no field
pub fields-blank : (x : ℕ) (xs : List ℕ) → is_blank x ≡ true → fields (x ∷ xs) ≡ fields xs
unfolding fields
fields-blank x xs blank = rw blank refl

pub fields-trim_start : (line : List ℕ) → fields (trim_start line) ≡ fields line
fields-trim_start [] = refl
fields-trim_start (x ∷ xs) =
    let P : Bool → Type 0 = λ b. is_blank x ≡ b → fields (cond b (trim_start xs) (x ∷ xs)) ≡ fields (x ∷ xs) in
    let cases : (b : Bool) → P b = λ b. elim b as P [ true ↦ λ blank. fields-trim_start xs ∙ sym (fields-blank x xs blank) | false ↦ λ kept. refl ] in
    cases (is_blank x) refl

pub empty : (text : List ℕ) → length text ≤ 0 → text ≡ []
empty [] none = refl
empty (b ∷ text) none = absurd (omega arith)

pub fields-none : (line : List ℕ) → length (trim_start line) ≡ 0 → fields line ≡ []
unfolding fields
fields-none line ends = sym (fields-trim_start line) ∙ ap fields (empty (trim_start line) (omega arith))

-- a text up to its first blank is its first field, where that is no empty piece
first-field : (ys : List ℕ) → 0 < position_or_len is_blank ys → fields ys ≡ take (position_or_len is_blank ys) ys ∷ fields (drop (position_or_len is_blank ys) ys)
unfolding fields
first-field ys some =
    let end = position_or_len is_blank ys in
    let within : end ≤ length ys = prefix_len-le-length (λ x. not (is_blank x)) ys in
    let size : length (take end ys) ≡ end = length-take-le end ys within in
    let field : is_field (take end ys) ≡ true = grind (arith, tests) in
    let whole : length ys ≤ end → fields ys ≡ take end ys ∷ fields (drop end ys) = λ over.
    let same = take_all end ys over in
    let none = slice_split_none is_blank ys (λ k d below. not_passed _ (prefix_len_passes (λ x. not (is_blank x)) ys k d (omega arith))) in
    ap (filter is_field) (none ∙ ap (λ f. f ∷ []) (sym same)) ∙ rw (field, drop_all end ys over) refl in
    let cut : end < length ys → fields ys ≡ take end ys ∷ fields (drop end ys) = λ under.
    let rest = drop-cons ys end 0 under in
    let blank = not_stopped _ (prefix_len_stops (λ x. not (is_blank x)) ys 0 under) in
    let after : fields (drop end ys) ≡ fields (drop (suc end) ys) = ap fields rest ∙ fields-blank (get_or ys end 0) (drop (suc end) ys) blank in
    ap (filter is_field) (slice_split_first is_blank ys 0 under) ∙ rw field (ap (λ fs. take end ys ∷ fs) (ap (λ n. fields (drop n ys)) (add-one end) ∙ sym after)) in
    ⊎_elim cut whole (cases_lt end (length ys))
  where
    not_passed : (b : Bool) → not b ≡ true → b ≡ false
    not_passed true h = sym h
    not_passed false h = refl

    not_stopped : (b : Bool) → not b ≡ false → b ≡ true
    not_stopped true h = refl
    not_stopped false h = sym h

-- a text without blanks at its start begins with a field
begins : (line : List ℕ) → 0 < length (trim_start line) → 0 < position_or_len is_blank (trim_start line)
begins [] some = absurd (omega arith)
begins (x ∷ xs) some =
    let P : Bool → Type 0 = λ b. is_blank x ≡ b → 0 < length (cond b (trim_start xs) (x ∷ xs)) → 0 < position_or_len is_blank (cond b (trim_start xs) (x ∷ xs)) in
    let cases : (b : Bool) → P b = λ b. elim b as P [ true ↦ λ blank. begins xs | false ↦ λ kept some. rw kept (omega arith) ] in
    cases (is_blank x) refl some

pub fields-first : (line : List ℕ) → 0 < length (trim_start line) → fields line ≡ take (position_or_len is_blank (trim_start line)) (trim_start line) ∷ fields (after_field line)
unfolding after_field
fields-first line some = sym (fields-trim_start line) ∙ first-field (trim_start line) (begins line some)

-- nothing stands behind where no field is
pub fields-end : (line : List ℕ) → fields line ≡ [] → after_field line ≡ []
unfolding after_field
fields-end line none =
    ⊎_elim
    (λ some. absurd (no_cons _ _ (sym none ∙ fields-first line some)))
    (λ ends. ap (λ text. drop (position_or_len is_blank text) text) (empty (trim_start line) ends))
    (cases_lt 0 (length (trim_start line)))
  where
    no_cons : (x : List ℕ) (xs : List (List ℕ)) → [] ≡ x ∷ xs → ⊥
    no_cons x xs e = cc
