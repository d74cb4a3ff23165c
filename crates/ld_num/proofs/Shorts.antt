-- Short numbers, put together from their digits.
use Rattle.std.proofs.Common.{◌≡◌, ℕ, zero, suc, ◌+◌, ◌-◌, ◌/◌, ◌%◌, ◌^◌, ◌<◌, ◌≤◌, Bool, true, false, cond, List, [], ◌∷◌, ◌++◌, length, take, drop, if◌then◌else◌, ℤ, pos, negsuc, int_lt, nat_lt, ◌==◌, unsigned_abs, Result, Ok, Err, OnOk, arith, refl, sym, ◌∙◌, ap, append-nil}
use Rattle.std.specs.Fmt.{decimal}
use Rattle.std.specs.List.{suffix_len}
use Rattle.std.proofs.Math.Seq.{take-append-add, take-append_seam}
use Rattle.std.proofs.lemmas.Bool.Decides.{nat_tests}
use Rattle.std.proofs.lemmas.Fmt.{decimal_digit, decimal_step}
use Rattle.std.proofs.lemmas.List.{take-append-le}
use Rattle.ld_num.specs.Front.{minus_if}
use Rattle.ld_num.specs.Short.{short_text, three_digits, window}
use Rattle.ld_num.specs.Text.{after_period, dec_text, sign_text, six_digits, without_last_zeros}

sign_is : (z : ℤ) → sign_text z ≡ minus_if (int_lt z (pos 0))
sign_is (pos n) =
    let e : nat_lt n 0 ≡ false = grind (arith, nat_tests) in rw e refl
sign_is (negsuc n) = refl

pub dec_text_is : (z : ℤ) → dec_text z ≡ short_text (int_lt z (pos 0)) (unsigned_abs z)
unfolding dec_text
dec_text_is z =
    ap (λ sign. sign ++ decimal (unsigned_abs z / 10 ^ 6) ++ after_period (without_last_zeros (six_digits (unsigned_abs z)))) (sign_is z)

pub six_by_threes : (size : ℕ) → three_digits (size % 1000000 / 1000) ++ three_digits (size % 1000000 % 1000) ≡ six_digits size
six_by_threes size =
    let a : size % 1000000 / 1000 / 10 / 10 ≡ size / 100000 % 10 = omega arith in
    let b : size % 1000000 / 1000 / 10 % 10 ≡ size / 10000 % 10 = omega arith in
    let c : size % 1000000 / 1000 % 10 ≡ size / 1000 % 10 = omega arith in
    let d : size % 1000000 % 1000 / 10 / 10 ≡ size / 100 % 10 = omega arith in
    let e : size % 1000000 % 1000 / 10 % 10 ≡ size / 10 % 10 = omega arith in
    let f : size % 1000000 % 1000 % 10 ≡ size % 10 = omega arith in rw (a, b, c, d, e, f) refl

-- ---- the whole part

pub one_digit : (n : ℕ) → n < 10 → decimal n ≡ (48 + n % 10) ∷ []
one_digit n h =
    let e : n ≡ n % 10 = omega arith in decimal_digit n h ∙ ap (λ k. (48 + k) ∷ []) e

pub two_digits : (n : ℕ) → 10 ≤ n → n < 100 → decimal n ≡ (48 + n / 10 % 10) ∷ (48 + n % 10) ∷ []
two_digits n low high =
    decimal_step n low (omega arith) ∙ ap (λ ds. ds ++ ((48 + n % 10) ∷ [])) (one_digit (n / 10) (omega arith))

pub three_are : (n : ℕ) → 100 ≤ n → n < 1000 → decimal n ≡ three_digits n
three_are n low high =
    let e : n / 10 / 10 % 10 ≡ n / 10 / 10 = omega arith in
    decimal_step n (omega arith) (omega arith) ∙ ap (λ ds. ds ++ ((48 + n % 10) ∷ [])) (two_digits (n / 10) (omega arith) (omega arith)) ∙ ap (λ k. (48 + k) ∷ (48 + n / 10 % 10) ∷ (48 + n % 10) ∷ []) e

-- a whole number has no fraction
pub whole_is : (is_negative : Bool) (size : ℕ) → size % 1000000 ≡ 0 → short_text is_negative size ≡ minus_if is_negative ++ decimal (size / 1000000)
whole_is is_negative size h =
    let a : size / 100000 % 10 ≡ 0 = omega arith in
    let b : size / 10000 % 10 ≡ 0 = omega arith in
    let c : size / 1000 % 10 ≡ 0 = omega arith in
    let d : size / 100 % 10 ≡ 0 = omega arith in
    let e : size / 10 % 10 ≡ 0 = omega arith in
    let f : size % 10 ≡ 0 = omega arith in rw (a, b, c, d, e, f) (append-nil (minus_if is_negative ++ decimal (size / 1000000)))

-- ---- the part of the text that is shown

window_none : (is_negative : Bool) (ws rest : List ℕ) (point : ℕ) → point ≡ length ws + 1 → window (45 ∷ (ws ++ rest)) point 0 is_negative ≡ minus_if is_negative ++ ws ++ []
window_none true ws rest point p =
    let e : point - 0 ≡ suc (length ws) = omega arith in
    rw e (ap (λ xs. 45 ∷ xs) (take-append_seam ws rest) ∙ sym (append-nil (45 ∷ ws)))
window_none false ws rest point p =
    let e : point - 1 ≡ length ws = omega arith in
    rw e (take-append_seam ws rest ∙ sym (append-nil ws))

window_some : (is_negative : Bool) (ws : List ℕ) (d : ℕ) (ds : List ℕ) (point k : ℕ) → point ≡ length ws + 1 → window (45 ∷ (ws ++ 46 ∷ d ∷ ds)) point (suc k) is_negative ≡ minus_if is_negative ++ ws ++ 46 ∷ d ∷ take k ds
window_some true ws d ds point k p =
    let test : (suc k == 0) ≡ false = grind (arith, nat_tests) in
    let e : point + 1 + suc k - 0 ≡ suc (length ws + suc (suc k)) = omega arith in
    rw (test, e) (ap (λ xs. 45 ∷ xs) (take-append-add ws (46 ∷ d ∷ ds) (suc (suc k))))
window_some false ws d ds point k p =
    let test : (suc k == 0) ≡ false = grind (arith, nat_tests) in
    let e : point + 1 + suc k - 1 ≡ length ws + suc (suc k) = omega arith in
    rw (test, e) (take-append-add ws (46 ∷ d ∷ ds) (suc (suc k)))

-- what is shown of a minus and a whole number
pub window_whole : (is_negative : Bool) (number : ℕ) (ws rest : List ℕ) (point : ℕ) → decimal number ≡ ws → point ≡ length ws + 1 → window (45 ∷ (ws ++ rest)) point 0 is_negative ≡ minus_if is_negative ++ decimal number
window_whole is_negative number ws rest point whole p =
    window_none is_negative ws rest point p ∙ append-nil (minus_if is_negative ++ ws) ∙ ap (λ ws. minus_if is_negative ++ ws) (sym whole)

-- what is shown of a minus, the whole part, a period and a fraction
pub window_is : (is_negative : Bool) (ws : List ℕ) (d : ℕ) (ds : List ℕ) (point count : ℕ) → point ≡ length ws + 1 → window (45 ∷ (ws ++ 46 ∷ d ∷ ds)) point count is_negative ≡ minus_if is_negative ++ ws ++ after_period (take count (d ∷ ds))
window_is is_negative ws d ds point zero p = window_none is_negative ws (46 ∷ d ∷ ds) point p
window_is is_negative ws d ds point (suc k) p = window_some is_negative ws d ds point k p

-- the text of a size whose whole part has these digits
pub short_is : (is_negative : Bool) (size : ℕ) (ws rest : List ℕ) (point count : ℕ) → decimal (size / 1000000) ≡ ws → point ≡ length ws + 1 → count ≡ length (six_digits size) - suffix_len (λ b. b == 48) (six_digits size) → window (45 ∷ (ws ++ 46 ∷ (six_digits size ++ rest))) point count is_negative ≡ short_text is_negative size
short_is is_negative size ws rest point count whole p k =
    window_is is_negative ws (48 + size / 100000 % 10) ((48 + size / 10000 % 10) ∷ (48 + size / 1000 % 10) ∷ (48 + size / 100 % 10) ∷ (48 + size / 10 % 10) ∷ (48 + size % 10) ∷ rest) point count p ∙ ap (λ ds. minus_if is_negative ++ ws ++ after_period ds) (take-append-le count (six_digits size) rest (omega (arith, k))) ∙ ap (λ n. minus_if is_negative ++ ws ++ after_period (take n (six_digits size))) k ∙ ap (λ ws. minus_if is_negative ++ ws ++ after_period (without_last_zeros (six_digits size))) (sym whole)

-- ---- thousandths

-- zeros at the end are not shown
no_zeros : (is_z is_y is_x : Bool) (x y z : ℕ) → take (6 - (1 + (1 + (1 + cond is_z (1 + cond is_y (1 + cond is_x (1 + 0) 0) 0) 0)))) (x ∷ y ∷ z ∷ 48 ∷ 48 ∷ 48 ∷ []) ≡ take (3 - cond is_z (1 + cond is_y (1 + cond is_x (1 + 0) 0) 0) 0) (x ∷ y ∷ z ∷ [])
no_zeros false is_y is_x x y z = refl
no_zeros true false is_x x y z = refl
no_zeros true true false x y z = refl
no_zeros true true true x y z = refl

shown_places : (x y z : ℕ) → without_last_zeros (x ∷ y ∷ z ∷ 48 ∷ 48 ∷ 48 ∷ []) ≡ without_last_zeros (x ∷ y ∷ z ∷ [])
shown_places x y z = no_zeros (z == 48) (y == 48) (x == 48) x y z

thousandths_shown : (size : ℕ) → size % 1000 ≡ 0 → without_last_zeros (six_digits size) ≡ without_last_zeros (three_digits (size % 1000000 / 1000))
thousandths_shown size h =
    let none : size % 1000000 % 1000 ≡ 0 = omega arith in
    let places = size % 1000000 / 1000 in
    ap without_last_zeros (sym (six_by_threes size)) ∙ ap (λ n. without_last_zeros (three_digits places ++ three_digits n)) none ∙ shown_places (48 + places / 10 / 10) (48 + places / 10 % 10) (48 + places % 10)

pub thousandths_are : (is_negative : Bool) (size : ℕ) (ws rest : List ℕ) (point count : ℕ) → size % 1000 ≡ 0 → decimal (size / 1000000) ≡ ws → point ≡ length ws + 1 → count ≡ length (three_digits (size % 1000000 / 1000)) - suffix_len (λ b. b == 48) (three_digits (size % 1000000 / 1000)) → window (45 ∷ (ws ++ 46 ∷ (three_digits (size % 1000000 / 1000) ++ rest))) point count is_negative ≡ short_text is_negative size
thousandths_are is_negative size ws rest point count h whole p k =
    let places = size % 1000000 / 1000 in
    window_is is_negative ws (48 + places / 10 / 10) ((48 + places / 10 % 10) ∷ (48 + places % 10) ∷ rest) point count p ∙ ap (λ ds. minus_if is_negative ++ ws ++ after_period ds) (take-append-le count (three_digits places) rest (omega (arith, k))) ∙ ap (λ n. minus_if is_negative ++ ws ++ after_period (take n (three_digits places))) k ∙ ap (λ ds. minus_if is_negative ++ ws ++ after_period ds) (sym (thousandths_shown size h)) ∙ ap (λ ws. minus_if is_negative ++ ws ++ after_period (without_last_zeros (six_digits size))) (sym whole)

-- ---- what is appended

take_fewer : (few many : ℕ) (xs : List ℕ) → few ≤ many → take few (take many xs) ≡ take few xs
take_fewer zero many xs h = refl
take_fewer (suc few) zero xs h = absurd (omega arith)
take_fewer (suc few) (suc many) [] h = refl
take_fewer (suc few) (suc many) (x ∷ xs) h = ap (λ ys. x ∷ ys) (take_fewer few many xs (omega arith))

-- so many bytes and then fewer of them
pub cut_back : (old xs : List ℕ) (few many : ℕ) → few ≤ many → take (length old + few) (old ++ take many xs) ≡ old ++ take few xs
cut_back old xs few many h =
    take-append-add old (take many xs) few ∙ ap (λ ys. old ++ ys) (take_fewer few many xs h)

-- so many bytes copied from where the text that is shown begins, and those behind its end cut off
pub appended_window : (old text mid new : List ℕ) (point count start stop many len : ℕ) (is_negative : Bool) → start ≡ (if is_negative then 0 else 1) → stop ≡ (if count == 0 then point else point + 1 + count) → mid ≡ old ++ take many (drop start text) → new ≡ take len mid → len ≡ length old + (stop - start) → stop - start ≤ many → new ≡ old ++ window text point count is_negative
appended_window old text mid new point count start stop many len is_negative from to copied cut end few =
    let first = if is_negative then 0 else 1 in
    cut ∙ ap (λ k. take k mid) end ∙ ap (λ xs. take (length old + (stop - start)) xs) copied ∙ cut_back old (drop start text) (stop - start) many few
    ∙ ap (λ s. old ++ take (stop - s) (drop s text)) from ∙ ap (λ e. old ++ take (e - first) (drop first text)) to

pub appended_as : {T E : Type 0} (r : Result T E) (old new xs ys : List ℕ) → OnOk r (new ≡ old ++ xs) → xs ≡ ys → OnOk r (new ≡ old ++ ys)
appended_as (Ok x) old new xs ys e same = e ∙ ap (λ zs. old ++ zs) same
appended_as (Err x) old new xs ys e same = tt
