-- A numeral's parts by the places of its separators are those that are met from its front.
use Rattle.std.proofs.Common.{◌≡◌, ℕ, suc, ◌+◌, Bool, true, false, cond, ◌&&◌, nat_lt, List, [], ◌∷◌, ◌++◌, length, drop, Option, None, arith, refl, sym, ◌∙◌, ap, subst, ⊎_elim, append_assoc, append-nil}
use Rattle.std.specs.Char.{is_ascii_digit}
use Rattle.std.specs.Int.{IsInRange}
use Rattle.std.specs.List.{before_first, after_first, position_or_len, prefix_len}
use Rattle.std.specs.Option.{option_map}
use Rattle.std.specs.Str.{all_ascii_digits}
use Rattle.std.specs.Str.Parse.{AllDigits}
use Rattle.std.proofs.lemmas.Bool.{cond_both, cases_Bool, and_right}
use Rattle.std.proofs.lemmas.Bool.Decides.{nat_tests}
use Rattle.std.proofs.lemmas.List.{length-append, take-append-drop}
use Rattle.std.proofs.lemmas.Str.Parse.{digit_from_value}
use Rattle.ld_num.specs.Number.{Numeral, exponent_part, fraction_part, is_mark, is_period, numeral_from, numeral_of, powers_of, whole_part}
use Rattle.ld_num.specs.Scan.{after_digits, after_fraction, leading_digits, leading_fraction, numeral_in}
use Rattle.ld_num.proofs.Cut.{Fails, fails-append, before-fails, after-fails, from-fails, before-passes, after-passes, from-passes}
use Rattle.ld_num.proofs.Values.{all_digits-append, leading_digits_are, own}

-- ---- digits are no separators

digits_no_marks : (ds : List ℕ) → AllDigits 10 ds → Fails is_mark ds
digits_no_marks [] h = tt
digits_no_marks (d ∷ ds) h =
    let r : IsInRange 48 57 d = digit_from_value d h.0 in (grind (arith, nat_tests), digits_no_marks ds h.1)

digits_no_periods : (ds : List ℕ) → AllDigits 10 ds → Fails is_period ds
digits_no_periods [] h = tt
digits_no_periods (d ∷ ds) h =
    let r : IsInRange 48 57 d = digit_from_value d h.0 in (grind (arith, nat_tests), digits_no_periods ds h.1)

period_no_mark : (b : ℕ) → is_period b ≡ true → is_mark b ≡ false
period_no_mark b h = grind (arith, nat_tests)

stranger : (xs : List ℕ) (b : ℕ) (ys : List ℕ) → is_ascii_digit b ≡ false → all_ascii_digits (xs ++ b ∷ ys) ≡ false
stranger [] b ys h = rw h refl
stranger (x ∷ xs) b ys h = and_right (is_ascii_digit x) _ (stranger xs b ys h)

-- ---- what the parts make

tested : (b t : Bool) (x : Option Numeral) → t ≡ true → cond (b && t) x None ≡ cond b x None
tested true t x h = rw h refl
tested false t x h = refl

refused : (b t : Bool) (x : Option Numeral) → t ≡ false → cond (b && t) x None ≡ None
refused true t x h = rw h refl
refused false t x h = refl

same_none : (b : Bool) → let x : Option Numeral = None in cond b x None ≡ None
same_none true = refl
same_none false = refl

from_parts : (text whole fraction rest : List ℕ) → whole_part text ≡ whole → fraction_part text ≡ fraction → exponent_part text ≡ rest → AllDigits 10 whole → AllDigits 10 fraction → numeral_of text ≡ numeral_in whole fraction rest
unfolding numeral_of
from_parts text whole fraction rest w f e ws fs =
    let digits = whole ++ fraction in
    let all : all_ascii_digits digits ≡ true = own.from digits (all_digits-append whole fraction ws fs) in
    rw (w, f, e, ← length-append whole fraction) (tested (nat_lt 0 (length digits)) (all_ascii_digits digits) (option_map (numeral_from whole fraction) (powers_of rest)) all)

none : (text whole fraction : List ℕ) → whole_part text ≡ whole → fraction_part text ≡ fraction → all_ascii_digits (whole ++ fraction) ≡ false → numeral_of text ≡ None
unfolding numeral_of
none text whole fraction w f h =
    rw (w, f) (refused (nat_lt 0 (length (whole ++ fraction))) (all_ascii_digits (whole ++ fraction)) (option_map (numeral_from whole fraction) (powers_of (exponent_part text))) h)

made_none : (whole fraction : List ℕ) (b : ℕ) (rest : List ℕ) → is_mark b ≡ false → numeral_in whole fraction (b ∷ rest) ≡ None
unfolding powers_of
made_none whole fraction b rest h = rw h (same_none (nat_lt 0 (length whole + length fraction)))

-- ---- no period

pub plain_end : (ws : List ℕ) → AllDigits 10 ws → numeral_of (ws ++ []) ≡ numeral_in ws [] []
plain_end ws h =
    let m = digits_no_marks ws h in
    let p = digits_no_periods ws h in
    from_parts (ws ++ []) ws [] []
    (rw (before-fails is_mark ws [] m, before-fails is_period ws [] p) (append-nil ws))
    (rw (before-fails is_mark ws [] m) (after-fails is_period ws [] p))
    (from-fails is_mark ws [] m) h tt

plain_mark : (ws : List ℕ) (b : ℕ) (rest : List ℕ) → AllDigits 10 ws → is_mark b ≡ true → numeral_of (ws ++ b ∷ rest) ≡ numeral_in ws [] (b ∷ rest)
plain_mark ws b rest h mark =
    let m = digits_no_marks ws h in
    let p = digits_no_periods ws h in
    let front : before_first is_mark (ws ++ b ∷ rest) ≡ ws ++ [] = before-fails is_mark ws (b ∷ rest) m ∙ ap (λ xs. ws ++ xs) (before-passes is_mark b rest mark) in
    from_parts (ws ++ b ∷ rest) ws [] (b ∷ rest)
    (rw (front, before-fails is_period ws [] p) (append-nil ws))
    (rw front (after-fails is_period ws [] p))
    (from-fails is_mark ws (b ∷ rest) m ∙ from-passes is_mark b rest mark) h tt

plain_stranger : (ws : List ℕ) (b : ℕ) (rest : List ℕ) → AllDigits 10 ws → is_ascii_digit b ≡ false → is_period b ≡ false → is_mark b ≡ false → numeral_of (ws ++ b ∷ rest) ≡ numeral_in ws [] (b ∷ rest)
plain_stranger ws b rest h digit period mark =
    let m = digits_no_marks ws h in
    let p = digits_no_periods ws h in
    let rest' = before_first is_mark rest in
    let front : before_first is_mark (ws ++ b ∷ rest) ≡ ws ++ b ∷ rest' = before-fails is_mark ws (b ∷ rest) m ∙ ap (λ xs. ws ++ xs) (before-fails is_mark (b ∷ []) rest (mark, tt)) in
    none (ws ++ b ∷ rest) (ws ++ b ∷ before_first is_period rest') (after_first is_period rest')
    (rw (front, before-fails is_period ws (b ∷ rest') p) (ap (λ xs. ws ++ xs) (before-fails is_period (b ∷ []) rest' (period, tt))))
    (rw (front, after-fails is_period ws (b ∷ rest') p) (after-fails is_period (b ∷ []) rest' (period, tt)))
    (rw append_assoc (stranger ws b (before_first is_period rest' ++ after_first is_period rest') digit))
    ∙ sym (made_none ws [] b rest mark)

-- ---- a period b after the digits ws, and then the digits fs

record IsPointed (text ws fs rest : List ℕ) : Type 0 where
  whole : whole_part text ≡ ws
  fraction : fraction_part text ≡ fs ++ before_first is_mark rest
  exponent : exponent_part text ≡ drop (position_or_len is_mark rest) rest

pointed : (ws : List ℕ) (b : ℕ) (fs rest : List ℕ) → AllDigits 10 ws → AllDigits 10 fs → is_period b ≡ true → IsPointed (ws ++ b ∷ (fs ++ rest)) ws fs rest
pointed ws b fs rest h g period =
    let m : Fails is_mark (ws ++ b ∷ fs) = fails-append is_mark ws (b ∷ fs) (digits_no_marks ws h) (period_no_mark b period, digits_no_marks fs g) in
    let p = digits_no_periods ws h in
    let e : ws ++ b ∷ (fs ++ rest) ≡ (ws ++ b ∷ fs) ++ rest = sym (append_assoc ws (b ∷ fs) rest) in
    let tail = fs ++ before_first is_mark rest in
    let front : before_first is_mark (ws ++ b ∷ (fs ++ rest)) ≡ ws ++ b ∷ tail = rw (e, before-fails is_mark (ws ++ b ∷ fs) rest m) (append_assoc ws (b ∷ fs) (before_first is_mark rest)) in
    record {
      whole = rw (front, before-fails is_period ws (b ∷ tail) p, before-passes is_period b tail period) (append-nil ws);
      fraction = rw (front, after-fails is_period ws (b ∷ tail) p) (after-passes is_period b tail period);
      exponent = rw e (from-fails is_mark (ws ++ b ∷ fs) rest m);
    }

pub pointed_end : (ws : List ℕ) (b : ℕ) (fs : List ℕ) → AllDigits 10 ws → AllDigits 10 fs → is_period b ≡ true → numeral_of (ws ++ b ∷ (fs ++ [])) ≡ numeral_in ws fs []
pointed_end ws b fs h g period =
    let p = pointed ws b fs [] h g period in
    from_parts (ws ++ b ∷ (fs ++ [])) ws fs [] p.whole (p.fraction ∙ append-nil fs) p.exponent h g

pointed_mark : (ws : List ℕ) (b : ℕ) (fs : List ℕ) (x : ℕ) (rest : List ℕ) → AllDigits 10 ws → AllDigits 10 fs → is_period b ≡ true → is_mark x ≡ true → numeral_of (ws ++ b ∷ (fs ++ x ∷ rest)) ≡ numeral_in ws fs (x ∷ rest)
pointed_mark ws b fs x rest h g period mark =
    let p = pointed ws b fs (x ∷ rest) h g period in
    from_parts (ws ++ b ∷ (fs ++ x ∷ rest)) ws fs (x ∷ rest) p.whole (p.fraction ∙ ap (λ xs. fs ++ xs) (before-passes is_mark x rest mark) ∙ append-nil fs) (p.exponent ∙ from-passes is_mark x rest mark) h g

pointed_stranger : (ws : List ℕ) (b : ℕ) (fs : List ℕ) (x : ℕ) (rest : List ℕ) → AllDigits 10 ws → AllDigits 10 fs → is_period b ≡ true → is_ascii_digit x ≡ false → is_mark x ≡ false → numeral_of (ws ++ b ∷ (fs ++ x ∷ rest)) ≡ numeral_in ws fs (x ∷ rest)
pointed_stranger ws b fs x rest h g period digit mark =
    let p = pointed ws b fs (x ∷ rest) h g period in
    let rest' = before_first is_mark rest in
    none (ws ++ b ∷ (fs ++ x ∷ rest)) ws (fs ++ x ∷ rest') p.whole
    (p.fraction ∙ ap (λ xs. fs ++ xs) (before-fails is_mark (x ∷ []) rest (mark, tt)))
    (rw (← append_assoc ws fs (x ∷ rest')) (stranger (ws ++ fs) x rest' digit))
    ∙ sym (made_none ws fs x rest mark)

-- ---- what the code meets

abbrev Ends : List ℕ → Type 0
Ends [] = Unit {0}
Ends (b ∷ rest) = is_ascii_digit b ≡ false

ends_after_digits : (text : List ℕ) → Ends (after_digits text)
ends_after_digits [] = tt
ends_after_digits (b ∷ rest) =
    let n = prefix_len is_ascii_digit rest in
    let next : 1 + n ≡ suc n = omega arith in
    cond_both (is_ascii_digit b) (1 + n) 0 (λ k. Ends (drop k (b ∷ rest))) (λ digit. rw next (ends_after_digits rest)) (λ digit. digit)

pointed_rest : (ws : List ℕ) (b : ℕ) (fs rest : List ℕ) → AllDigits 10 ws → AllDigits 10 fs → is_period b ≡ true → Ends rest → numeral_of (ws ++ b ∷ (fs ++ rest)) ≡ numeral_in ws fs rest
pointed_rest ws b fs [] h g period ends = pointed_end ws b fs h g period
pointed_rest ws b fs (x ∷ rest) h g period ends =
    ⊎_elim (pointed_mark ws b fs x rest h g period) (pointed_stranger ws b fs x rest h g period ends) (cases_Bool (is_mark x))

abbrev met : List ℕ → List ℕ → Option Numeral
met ws rest = numeral_in ws (leading_fraction rest) (after_fraction rest)

from_front : (ws rest : List ℕ) → AllDigits 10 ws → Ends rest → numeral_of (ws ++ rest) ≡ met ws rest
from_front ws [] h ends = plain_end ws h
from_front ws (b ∷ rest) h ends =
    ⊎_elim
    (λ period. rw period (subst (λ xs. numeral_of (ws ++ b ∷ xs) ≡ numeral_in ws (leading_digits rest) (after_digits rest)) (take-append-drop (prefix_len is_ascii_digit rest) rest)
    (pointed_rest ws b (leading_digits rest) (after_digits rest) h (leading_digits_are rest) period (ends_after_digits rest))))
    (λ other. rw other (⊎_elim (plain_mark ws b rest h) (plain_stranger ws b rest h ends other) (cases_Bool (is_mark b))))
    (cases_Bool (is_period b))

pub scanned : (text : List ℕ) → numeral_of text ≡ numeral_in (leading_digits text) (leading_fraction (after_digits text)) (after_fraction (after_digits text))
scanned text =
    subst (λ xs. numeral_of xs ≡ met (leading_digits text) (after_digits text)) (take-append-drop (prefix_len is_ascii_digit text) text)
    (from_front (leading_digits text) (after_digits text) (leading_digits_are text) (ends_after_digits text))
