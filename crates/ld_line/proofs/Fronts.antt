-- The number at the front of a line without blanks before it, and the numbers that the fields of the line write.
use Rattle.std.proofs.Common.{◌≡◌, ℕ, suc, List, [], length, drop, Err, refl, ap, sym, ◌∙◌, arith, ⊎_elim}
use Rattle.std.proofs.lemmas.Bool.{cases_lt}
use Rattle.ld_names.specs.Normal.{trim_start}
use Rattle.ld_num.specs.Field.{after_front_field, front_field}
use Rattle.ld_num.specs.Number.{dec_of, numeral_of, powers_of}
use Rattle.ld_num.specs.declared.dec.NumError.TheVariants.{NotANumber}
use Rattle.ld_line.specs.Field.{after_field, fields}
use Rattle.ld_line.specs.Numbers.{numbers_of, onto_numbers}
use Rattle.ld_line.proofs.Fields.{empty, fields-end, fields-first, fields-none}

-- what stands behind the first field
pub after_field_is : (line : List ℕ) → after_field line ≡ after_front_field (trim_start line)
unfolding after_field
after_field_is line = refl

nothing_read : dec_of [] ≡ Err NotANumber
unfolding dec_of numeral_of powers_of
nothing_read = refl

no_fields : fields [] ≡ []
unfolding fields
no_fields = refl

pub fields_after : (line : List ℕ) → drop 1 (fields line) ≡ fields (after_field line)
fields_after line =
    ⊎_elim
    (λ some. ap (drop 1) (fields-first line some))
    (λ ends.
    let none : fields line ≡ [] = fields-none line (omega arith) in
    ap (drop 1) none ∙ sym (ap fields (fields-end line none) ∙ no_fields))
    (cases_lt 0 (length (trim_start line)))

pub next_number_of : (line : List ℕ) (count : ℕ) → numbers_of (suc count) (fields line) ≡ onto_numbers (dec_of (front_field (trim_start line))) (numbers_of count (fields (after_field line)))
next_number_of line count =
    ⊎_elim
    (λ some. ap (numbers_of (suc count)) (fields-first line some))
    (λ ends.
    let none : fields line ≡ [] = fields-none line (omega arith) in
    let unread : dec_of (front_field (trim_start line)) ≡ Err NotANumber = ap (λ text. dec_of (front_field text)) (empty (trim_start line) ends) ∙ nothing_read in
    ap (numbers_of (suc count)) none ∙ ap (λ number. onto_numbers number (numbers_of count (fields (after_field line)))) (sym unread))
    (cases_lt 0 (length (trim_start line)))
