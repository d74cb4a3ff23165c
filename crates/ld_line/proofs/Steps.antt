-- Reading the numbers of a line one by one.
use Rattle.std.proofs.Common.{◌≡◌, ◌≤◌, ◌<◌, ◌+◌, ◌-◌, ◌*◌, ℕ, ℤ, pos, suc, Bool, true, false, ◌&&◌, cond, List, [], ◌∷◌, ◌++◌, length, take, drop, get_or, Option, Some, None, Result, Ok, Err, refl, ap, sym, ◌∙◌, append_assoc, drop-drop, arith, ⊎_elim}
use Rattle.std.specs.Option.{unwrap_or, is_some}
use Rattle.std.proofs.Math.ListN.{set}
use Rattle.std.proofs.lemmas.List.{take_more_set, get_or-take, get_or_past, length-take}
use Rattle.std.proofs.lemmas.Bool.{cases_lt}
use Rattle.ld_num.specs.declared.dec.NumError.{NumError}
use Rattle.ld_num.specs.declared.dec.NumError.TheVariants.{NotANumber, OutOfRange}
use Rattle.ld_num.specs.declared.point.Point.{Point}
use Rattle.ld_line.specs.declared.line.Kind.{Kind}
use Rattle.ld_line.specs.declared.line.Line.TheVariants.{Draw}
use Rattle.ld_line.specs.Colour.{colour_word}
use Rattle.ld_line.specs.Kind.{points_in}
use Rattle.ld_line.specs.Reading.{draw_of, drawn}
use Rattle.ld_line.specs.Field.{after_field, after_fields, fields}
use Rattle.ld_line.specs.Numbers.{numbers_of, onto_numbers, points_of}
use Rattle.ld_line.specs.Series.{ranged}

-- the numbers so far, which may be out of range, before those that are still to be read
abbrev pub after : List ℤ → Bool → Result (List ℤ) NumError → Result (List ℤ) NumError
after front in_range (Ok more) = cond in_range (Ok (front ++ more)) (Err OutOfRange)
after front in_range (Err e) = Err e

pub after-more : (front : List ℤ) (in_range : Bool) (number : Option ℤ) (more : Result (List ℤ) NumError) → after (front ++ unwrap_or number (pos 0) ∷ []) (in_range && is_some number) more ≡ after front in_range (onto_numbers (ranged number) more)
after-more front true (Some d) (Ok ds) = ap Ok (append_assoc front (d ∷ []) ds)
after-more front false (Some d) (Ok ds) = refl
after-more front true None (Ok ds) = refl
after-more front false None (Ok ds) = refl
after-more front in_range (Some d) (Err NotANumber) = refl
after-more front in_range (Some d) (Err OutOfRange) = refl
after-more front in_range None (Err NotANumber) = refl
after-more front in_range None (Err OutOfRange) = refl

-- one number more
pub after-step : (numbers : List ℤ) (i count : ℕ) (in_range in_range' : Bool) (number : Option ℤ) (value : ℤ) (now more : List (List ℕ)) (all : Result (List ℤ) NumError) → i < count → i < length numbers → ((n : ℕ) → numbers_of (suc n) now ≡ onto_numbers (ranged number) (numbers_of n more)) → value ≡ unwrap_or number (pos 0) → in_range' ≡ in_range && is_some number → after (take i numbers) in_range (numbers_of (count - i) now) ≡ all → after (take (i + 1) (set numbers i value)) in_range' (numbers_of (count - (i + 1)) more) ≡ all
after-step numbers i count in_range in_range' number value now more all below within reads is ranges so_far =
    let left : count - i ≡ suc (count - (i + 1)) = omega arith in
    let rest = numbers_of (count - (i + 1)) more in
    ap (λ front. after front in_range' rest) (take_more_set numbers i value within ∙ ap (λ v. take i numbers ++ v ∷ []) is) ∙ ap (λ b. after (take i numbers ++ unwrap_or number (pos 0) ∷ []) b rest) ranges ∙ after-more (take i numbers) in_range number rest ∙ ap (after (take i numbers) in_range) (sym (ap (λ n. numbers_of n now) left ∙ reads (count - (i + 1)))) ∙ so_far

get_or-taken : (numbers : List ℤ) (count : ℕ) → ((k : ℕ) → count ≤ k → get_or numbers k (pos 0) ≡ pos 0) → (k : ℕ) → get_or (take count numbers) k (pos 0) ≡ get_or numbers k (pos 0)
get_or-taken numbers count zeros k =
    ⊎_elim (λ below. get_or-take count numbers k (pos 0) below) (λ above. get_or_past (take count numbers) k (pos 0) (omega (arith, length-take count numbers)) ∙ sym (zeros k above)) (cases_lt k count)

-- zeros behind the numbers change no point
pub points_of-taken : (numbers : List ℤ) (count : ℕ) → ((k : ℕ) → count ≤ k → get_or numbers k (pos 0) ≡ pos 0) → points_of (take count numbers) ≡ points_of numbers
points_of-taken numbers count zeros =
    let at = get_or-taken numbers count zeros in
    rw (at 0, at 1, at 2, at 3, at 4, at 5, at 6, at 7, at 8, at 9, at 10, at 11) refl

-- what a loop over the next numbers keeps: what was read and what is left make up the whole
pub record Kept (i count : ℕ) (line rest : List ℕ) (values : List ℤ) (in_range : Bool) : Type 0 where
  pub numbers : after (take i values) in_range (numbers_of (count - i) (fields rest)) ≡ numbers_of count (fields line)
  pub fields_left : fields rest ≡ drop i (fields line)
  pub rest_left : after_fields (count - i) rest ≡ after_fields count line
  pub zeros : (k : ℕ) → i ≤ k → get_or values k (pos 0) ≡ pos 0
  pub size : length values ≡ 12

pub kept_rest : (i count : ℕ) (line rest more : List ℕ) → i < count → more ≡ after_field rest → after_fields (count - i) rest ≡ after_fields count line → after_fields (count - (i + 1)) more ≡ after_fields count line
kept_rest i count line rest more below is so_far =
    let left : count - i ≡ suc (count - (i + 1)) = omega arith in
    ap (after_fields (count - (i + 1))) is ∙ ap (λ n. after_fields n rest) (sym left) ∙ so_far

pub kept_fields : (i : ℕ) (line rest more : List ℕ) → fields more ≡ drop 1 (fields rest) → fields rest ≡ drop i (fields line) → fields more ≡ drop (i + 1) (fields line)
kept_fields i line rest more is so_far = is ∙ ap (drop 1) so_far ∙ drop-drop 1 i (fields line)

-- what is drawn by a colour word and numbers in range
pub draw_of-read : (kind : Kind) (all more : List (List ℕ)) (field : List ℕ) (colour : ℕ) (values : List ℤ) (points : List Point) → all ≡ field ∷ more → Some colour ≡ colour_word field → numbers_of (3 * points_in kind) more ≡ Ok values → points ≡ points_of values → draw_of kind all ≡ Draw kind colour points
draw_of-read kind all more field colour values points parts word numbers are =
    ap (draw_of kind) parts ∙ ap (λ c. drawn kind c (numbers_of (3 * points_in kind) more)) (sym word) ∙ ap (drawn kind (Some colour)) numbers ∙ ap (Draw kind colour) (sym are)
