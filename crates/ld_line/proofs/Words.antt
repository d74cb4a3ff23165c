-- Words with blanks between them are read as those words.
use Rattle.std.proofs.Common.{◌≡◌, ◌==◌, ℕ, true, false, List, [], ◌∷◌, ◌++◌, length, drop, filter, refl, ap, ◌∙◌, arith}
use Rattle.std.specs.List.{All, list_all, position_or_len}
use Rattle.std.proofs.lemmas.Bool.{and_parts, false≢true, ne_eqb, not-true, not_from_false, or_parts}
use Rattle.std.proofs.lemmas.List.{drop_at}
use Rattle.std.proofs.lemmas.List.Elements.{All-weaker}
use Rattle.std.proofs.lemmas.List.Splits.{slice_split_none, slice_split_at}
use Rattle.std.proofs.lemmas.List.Sums.{AllPass-from_list_all}
use Rattle.ld_names.specs.Normal.{is_blank, trim_start}
use Rattle.ld_line.specs.Field.{fields, is_field, after_field}
use Rattle.ld_line.specs.Word.{is_plain, is_word, spaced}

plain_is_no_blank : (b : ℕ) → is_plain b ≡ true → is_blank b ≡ false
plain_is_no_blank b h = (or_parts (is_blank b) (b == 10) (not-true _ h)).0

plain_word : (word : List ℕ) → is_word word ≡ true → list_all is_plain word ≡ true
plain_word [] h = refl
plain_word (b ∷ word) h = h

no_blanks : (word : List ℕ) → is_word word ≡ true → All (λ b. is_blank b ≡ false) word
no_blanks word h = All-weaker (λ b. is_plain b ≡ true) (λ b. is_blank b ≡ false) plain_is_no_blank word (AllPass-from_list_all is_plain word (plain_word word h))

word_is_field : (word : List ℕ) → is_word word ≡ true → is_field word ≡ true
word_is_field [] h = absurd (false≢true h)
word_is_field (b ∷ word) h = not_from_false _ (ne_eqb (length (b ∷ word)) 0 (λ e. omega arith))

pub fields_one : (word : List ℕ) → is_word word ≡ true → fields word ≡ word ∷ []
unfolding fields
fields_one word h = ap (filter is_field) (slice_split_none is_blank word (no_blanks word h)) ∙ rw (word_is_field word h) refl

pub fields_more : (word : List ℕ) (byte : ℕ) (rest : List ℕ) → is_word word ≡ true → is_blank byte ≡ true → fields (word ++ byte ∷ rest) ≡ word ∷ fields rest
unfolding fields
fields_more word byte rest h blank = ap (filter is_field) (slice_split_at is_blank word byte rest (no_blanks word h) blank) ∙ rw (word_is_field word h) refl

position_after : (word : List ℕ) (byte : ℕ) (rest : List ℕ) → list_all is_plain word ≡ true → is_blank byte ≡ true → position_or_len is_blank (word ++ byte ∷ rest) ≡ length word
position_after [] byte rest h blank = rw blank refl
position_after (b ∷ word) byte rest h blank =
    let first : is_blank b ≡ false = plain_is_no_blank b (and_parts _ _ h).0 in
    rw first (omega (arith, position_after word byte rest (and_parts _ _ h).1 blank))

trimmed : (word rest : List ℕ) → is_word word ≡ true → trim_start (word ++ rest) ≡ word ++ rest
trimmed [] rest h = absurd (false≢true h)
trimmed (b ∷ word) rest h =
    let first : is_blank b ≡ false = plain_is_no_blank b (and_parts _ _ h).0 in rw first refl

pub fields_behind : (word : List ℕ) (byte : ℕ) (rest : List ℕ) → is_word word ≡ true → is_blank byte ≡ true → after_field (word ++ byte ∷ rest) ≡ byte ∷ rest
unfolding after_field
fields_behind word byte rest h blank =
    ap (λ xs. drop (position_or_len is_blank xs) xs) (trimmed word (byte ∷ rest) h) ∙ ap (λ n. drop n (word ++ byte ∷ rest)) (position_after word byte rest (plain_word word h) blank) ∙ drop_at word (byte ∷ rest) (length word) refl

pub fields_spaced : (words : List (List ℕ)) → list_all is_word words ≡ true → fields (spaced words) ≡ words
unfolding fields
fields_spaced [] h = refl
fields_spaced (word ∷ []) h = fields_one word (and_parts _ _ h).0
fields_spaced (word ∷ next ∷ words) h =
    fields_more word 32 (spaced (next ∷ words)) (and_parts _ _ h).0 refl ∙ ap (λ ws. word ∷ ws) (fields_spaced (next ∷ words) (and_parts _ _ h).1)
